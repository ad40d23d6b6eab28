pub mod Codeblock
pub mod Table
