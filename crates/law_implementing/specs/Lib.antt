-- The definitions of this crate.
pub mod Definitions
pub mod MembersCalled
pub mod Sets
pub mod Obstacles
pub mod UnnamedObstacles
