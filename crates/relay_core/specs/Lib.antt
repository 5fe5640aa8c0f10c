pub mod Messages
pub mod Views
pub mod Leaves
pub mod LeafSets
pub mod Justified
pub mod Known
