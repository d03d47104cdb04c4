pub mod Clients
pub mod Driving
pub mod Monitors
pub mod Named
pub mod Orders
pub mod Outside
pub mod Runs
pub mod Stops
