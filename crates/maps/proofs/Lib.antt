-- The laws, each for any strict order of the keys, and worked examples.
pub mod Tests
pub mod Lists
pub mod Orders
pub mod Names
pub mod Survivors
pub mod Searches
pub mod Walking
pub mod Places
pub mod Reorderings
pub mod Any
pub mod Alike
pub mod Mapped
pub mod Levels
pub mod Sums
pub mod Examples
