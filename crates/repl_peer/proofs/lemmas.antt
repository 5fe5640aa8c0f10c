-- Lemmas, in the folders of the code.
pub mod Members
pub mod peer
pub mod session
pub mod logs
