pub mod Walks
pub mod Show
pub mod Doc
pub mod Changes
pub mod Log
pub mod Audit
pub mod Compare
pub mod Conflicts
pub mod Docs
pub mod Info
pub mod Ledger
pub mod Rest
pub use Walks.{holds_in, left_in, rows_left, rows_walked}
pub use Show.{leaf_line, show_text}
pub use Changes.{row_line}
pub use Log.{log_held}
pub use Audit.{AuditAsk, Audits, FindsNone, IsClean, audit_asked, audit_text, audit_told}
pub use Compare.{FitsCompare, compare_left, compared_line, compared_lines, contradicts_line}
pub use Conflicts.{FitsConflicts, conflict_line, conflicts_left, conflicts_line}
pub use Docs.{doc_line, docs_left, leaf_lines}
pub use Info.{census_part, identity_part, sessions_part}
pub use Ledger.{contradicted_line, denied_line, parents_part, refused_for, refused_line, rev_part}
pub use Rest.{rest_left, told_begun, told_from}
pub use declared.compare.CompareRest.{CompareRest}
pub use declared.conflicts.ConflictsRest.{ConflictsRest}
pub use declared.docs.DocsRest.{DocsRest}
pub use declared.feed.Walk.{Walk}
pub use declared.log.Side.{Side}
