mod Keys
mod Refusing
mod Unspelled
