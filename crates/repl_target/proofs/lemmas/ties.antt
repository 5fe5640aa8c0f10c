-- Lemmas about tied windows, messages and peers.
pub mod TiedPages
pub mod TiedMessages
pub mod SettlingTakes
pub mod TiedPeersCover
pub mod TiedPeersStay
