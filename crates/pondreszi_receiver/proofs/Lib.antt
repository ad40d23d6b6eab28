pub mod Counted
pub mod Narrowed
pub mod ReceiverCalls
