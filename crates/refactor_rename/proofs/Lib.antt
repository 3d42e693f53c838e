-- The lemmas of this crate.
pub mod Words
pub mod Refusing
pub mod Literals
pub mod KeySearch
pub mod Sources
pub mod RenamedPaths
pub mod Changing
pub mod Searching
pub mod Editing
pub mod PlacesHere
pub mod PlaceEdits
