pub mod Words
pub mod Columns
pub mod Logs
pub mod Undrawn
pub mod Lines
pub use Words.{InTurn, IsNumber, IsRevs, lacks}
pub use Columns.{Ends, EndsIn, IsFront, column_text, columns_of}
pub use Logs.{AreEntries, AreFurther, IsEntry, IsHead, IsHistory, IsMember, Logged, Values, all_members, logged, member_end, member_text, texts_of}
pub use Undrawn.{is_document, is_of_changes, is_of_sessions, is_undrawn, other_of}
pub use Lines.{BeginsWith, IsDocLine, IsListed, LeafParts, ListedParts, NoFinding, NoLog, NoRow, Tells, finding_text, state_text}
pub use declared.told.Column.{Column}
pub use declared.told.Entry.{Entry}
pub use declared.told.Finding.{Finding}
pub use declared.told.Member.{Member}
pub use declared.told.Table.{Table}
pub use declared.told.Told.{Told}
