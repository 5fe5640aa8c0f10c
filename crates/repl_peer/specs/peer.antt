-- The modules in `peer` define peers, the invariant of a peer, and the local writes of a peer.
pub mod Peer
pub mod Covered
pub mod Writing
pub mod Stands
pub mod Law
pub mod Rules
pub mod Later
pub mod PeerCode
pub mod Origins
pub mod Trusted
pub mod Local
pub mod Noted
pub mod Backups
pub mod Stored
