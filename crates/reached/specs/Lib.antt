-- Marks: sets of ids as the code holds them. Named: what the items of a run name.
pub mod Marks
pub mod Named
