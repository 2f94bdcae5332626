-- Maps and sets by key: which key each call has, products of keys, and merged orders.
pub mod KeyedCalls
pub mod Products
pub mod Merging
pub mod PartOrder
