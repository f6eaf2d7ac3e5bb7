-- Marks: a mark that is gained. Fields: when two fields are coded alike. Readings: how types that are alike are read. Pairs: what a clause
-- reports of two declarations. Tombstones: of two bodies, by the numbers that they strike off.
pub mod Marks
pub mod Fields
pub mod Readings
pub mod Pairs
pub mod Tombstones
