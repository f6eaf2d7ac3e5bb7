-- Totals: a tally is that of its changes. Unbounded: and by numbers of any size. Lines: a line in pieces.
pub mod Totals
pub mod Unbounded
pub mod Lines
