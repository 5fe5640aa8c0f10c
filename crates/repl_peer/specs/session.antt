-- The modules in `session` define the sessions of a peer, and the settling of parcels in a session.
pub mod Sessions
pub mod Settling
pub mod Stored
pub mod Windows
pub mod Kept
pub mod PackedIds
pub mod SessionCalls
pub mod Ledger
pub mod LedgerIndex
pub mod RepIndex
pub mod SettlingParts
pub mod StoredSessions
pub mod ReadCounts
