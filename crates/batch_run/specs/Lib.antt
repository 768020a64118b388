-- What the sessions of a batch do together, and what comes of a script.
pub mod Stepping
pub mod Watching
pub mod Workers
pub mod Flushes
pub mod Going
pub mod Stands
pub mod Rooms
pub mod Shown
pub mod Needs
pub mod Closes
pub mod Played
pub mod Opening
