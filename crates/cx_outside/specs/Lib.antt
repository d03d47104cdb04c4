pub mod linking
pub mod timing
pub mod site
