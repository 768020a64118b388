pub mod RingLemmas
pub mod NewsLemmas
pub mod CountLemmas
pub mod WatchLemmas
pub mod PollLemmas
