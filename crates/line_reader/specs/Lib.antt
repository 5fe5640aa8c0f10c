pub mod Lines
pub mod Tasks
pub use Lines.{AreLines, joined}
pub use Tasks.{Ended, EndsBy, HasDone, HasPrinted, HasPrintedPart, HasRun, HasStopped, IsDone, IsDoneOn, IsFront, IsStoppedOn, Kept, Runs, Steps, StepsBy, more, none}
