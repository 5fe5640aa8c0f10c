pub mod Defaults
pub use Defaults.{default_program}
