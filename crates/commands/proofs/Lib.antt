pub mod WordLemmas
pub mod InterpreterLemmas
pub mod StreamLemmas
pub mod trust
pub use WordLemmas.{word_answered}
pub use InterpreterLemmas.{name_short, same_start, same_trust, some_end, some_state, some_trust, until_trust}
pub use StreamLemmas.{prints}
pub use trust.Lines.{line_trusted}
