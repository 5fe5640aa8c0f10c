-- Lemmas about replications.
pub mod RunsConcluded
pub mod FetchedDocuments
pub mod EmptyTargetCopied
pub mod CallLaws
pub mod ReplicationAsCalls
pub mod OthersStayTied
pub mod BothWays
pub mod BegunSessions
pub mod ReadCounts
pub mod ExpectedErrors
