pub mod Words
pub mod Status
pub use Words.{IsFound}
