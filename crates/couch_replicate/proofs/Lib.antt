pub mod StandardLemmas
pub use StandardLemmas.{runs_standard}
