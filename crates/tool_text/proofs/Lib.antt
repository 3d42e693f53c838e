-- The lemmas of this crate.
pub mod Cuts
pub mod Rising
pub mod Pairing
pub mod Covering
pub mod Marks
pub mod Colons
pub mod Lines
pub mod Journals
pub mod Ends
pub mod Comments
