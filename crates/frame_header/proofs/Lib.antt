pub mod Octets
pub mod Packed
pub mod Laws
pub mod Examples
