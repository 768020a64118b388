pub mod Pieces
pub mod RecordView
pub mod Texts
pub mod ProgressView
pub mod Reading
pub mod SoFarView
