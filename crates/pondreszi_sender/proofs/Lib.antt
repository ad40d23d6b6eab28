pub mod Narrowed
pub mod SenderCalls
