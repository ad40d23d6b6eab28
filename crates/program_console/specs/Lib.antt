pub mod Console
pub mod Feed
