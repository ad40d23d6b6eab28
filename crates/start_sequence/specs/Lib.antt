pub mod StartSequence
