pub mod entered
pub mod legal
