pub mod NeedsLemmas
pub mod FirstLemmas
pub mod PlaceLemmas
