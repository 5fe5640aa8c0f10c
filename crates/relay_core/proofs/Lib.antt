pub mod Lists
pub mod Filtering
pub mod LeafSets
pub mod Reaching
pub mod Knowing
