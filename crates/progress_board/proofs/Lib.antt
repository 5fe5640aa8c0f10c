pub mod RuleLaws
pub use RuleLaws.{add_read, add_settled, kept_new, load_read, load_settled, splits_viewer, splits_worker, sum_le, zeros}
