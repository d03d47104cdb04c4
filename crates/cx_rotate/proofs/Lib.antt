pub mod Determined
pub mod Lasting
pub mod Opened
pub mod Results
