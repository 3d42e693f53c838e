-- The lemmas of this crate.
pub mod Written
pub mod FirstOwn
pub mod Placed
pub mod Turning
pub mod Outside
pub mod FirstBehind
pub mod Told
