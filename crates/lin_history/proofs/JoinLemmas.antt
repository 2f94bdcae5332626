-- Lemmas on the calls of an order, and on orders that are joined.
pub mod PlacementLemmas
pub mod PointLemmas
