pub mod Held
pub mod MeaningView
pub mod Steps
pub mod SideView
pub mod Plain
