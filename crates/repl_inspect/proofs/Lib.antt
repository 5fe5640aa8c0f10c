pub mod Adding
pub mod FeedTrees
pub mod LeafDocuments
pub mod LeafLists
pub mod LoadingBack
pub mod Missing
pub use Adding.{mapped_more, mapped_on}
pub use FeedTrees.{trees_all}
pub use LeafDocuments.{leaf_there}
pub use LeafLists.{leaves_leaves, missing_known}
pub use LoadingBack.{loaded_back}
pub use Missing.{covered_all, none_missing, refused_all}
