mod Finding
mod Keeping
mod Lawful
mod Placing
mod Queues
mod Telling
mod Wanting
