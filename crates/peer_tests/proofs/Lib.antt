pub mod SeatLemmas
pub use SeatLemmas.{taken_came}
