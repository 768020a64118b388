pub mod MetaView
pub mod Same
