pub mod Doing
pub use Doing.{done_took, drawn_counts, is_done, makes, run_counts, standard}
