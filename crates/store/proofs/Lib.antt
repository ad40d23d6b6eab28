pub mod Parts
pub mod Moving
pub mod Laws
pub mod Need
pub mod Front
