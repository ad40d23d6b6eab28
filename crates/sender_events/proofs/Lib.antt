pub mod WordRows
pub mod DirectiveRows
