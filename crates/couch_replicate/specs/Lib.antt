pub mod Options
pub mod RunWords
pub mod Status
pub use Options.{AreOptions, Refuses, SetNothing, options}
pub use RunWords.{Answered, RunsStandard, RunsWords}
pub use declared.options.NoSettings.{NoSettings}
