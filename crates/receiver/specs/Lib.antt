pub mod Channel
pub mod Receiver
pub mod State
pub mod Shared
