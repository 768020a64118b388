pub mod AllLemmas
pub mod LineLemmas
pub mod Leading
pub mod SortedKeys
pub mod EachKey
pub mod FirstKey
pub mod Telling
pub mod Utf8Lemmas
