mod Named
mod NodeEnds
mod Spelled
mod Words
mod WrongWords
