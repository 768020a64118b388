pub mod Frames
pub mod FileNameLemmas
pub mod Fronts
pub mod Moments
pub mod Rises
pub mod SteadyBytes
pub mod TornLemmas
pub mod Written
