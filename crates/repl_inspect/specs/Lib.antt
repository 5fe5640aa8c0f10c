pub mod Counting
pub mod Comparing
pub mod Comparisons
pub mod Totals
pub mod Covering
pub mod Conflicts
pub mod Censuses
pub mod Ledgers
pub mod Documents
pub mod LoadBack
pub use Counting.{counted}
pub use Comparing.{ComparisonValue, contradiction_under, differs}
pub use Comparisons.{compared_at, comparisons}
pub use Totals.{total_of}
pub use Covering.{HasNoLedger, MissingIsRefused}
pub use Censuses.{census_of, trees}
pub use Documents.{documents_at}
pub use LoadBack.{AllTaken, after_loads, all_documents}
pub use declared.census.Census.{Census}
pub use declared.total.Total.{Total}
