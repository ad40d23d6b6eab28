pub mod Table
pub mod Window
