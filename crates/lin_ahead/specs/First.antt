-- First searches.
pub mod FirstProgress
