pub mod legal
