pub mod GlobTests
pub mod LaidOver
pub mod DefaultLemmas
pub mod SpecifiedLemmas
pub mod ViolationLemmas
pub mod ViolationsOnce
pub mod Refusals
pub mod FirstsOnce
