pub mod Decimal
pub mod Fields
pub mod Cut
pub mod Answers
pub mod Buffer
