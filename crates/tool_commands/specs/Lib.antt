pub mod Lines
pub mod Report
pub mod Step
pub mod Commands
pub mod StepView
