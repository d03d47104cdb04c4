pub mod Series
pub mod Contents
pub mod Frames
pub mod Fronts
