-- The tally of a list of changes.
pub mod Tallies
pub mod Unbounded
