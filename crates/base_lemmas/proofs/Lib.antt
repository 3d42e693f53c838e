-- The lemmas of this crate.
pub mod Tests
pub mod Elements
pub mod EachElement
