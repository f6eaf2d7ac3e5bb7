-- The definitions, in the order in which to read them. `Walk` is for the code and its proofs.
pub mod Lists
pub mod Orders
pub mod Keyed
pub mod Compare
pub mod Reordered
pub mod Walk
