pub mod told
pub mod printed
