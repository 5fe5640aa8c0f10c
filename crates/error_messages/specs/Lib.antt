pub mod Told
pub use Told.{AddsSeen, IsTold, beginning}
