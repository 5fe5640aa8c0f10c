-- Lemmas about peers and their invariant.
pub mod RulesTested
pub mod WritesStand
pub mod LaterPeers
pub mod CallsKeepLaw
pub mod HonestSessions
pub mod CallsKeepOrigins
pub mod TrustedPeers
pub mod PeerInvariant
pub mod CopiedInTurn
pub mod RestoredPeers
pub mod RefusedCalls
