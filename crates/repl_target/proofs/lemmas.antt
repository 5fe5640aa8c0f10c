-- Lemmas, in the folders of the definitions.
pub mod ties
pub mod replication
