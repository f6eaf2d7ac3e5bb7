-- Refusals: the "Given exactly if" of document 01's table, apart from the reader.
pub mod Refusals
