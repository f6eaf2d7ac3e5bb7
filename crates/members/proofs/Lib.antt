-- Runs: what the runs of items rest on. Closing: the tombstones after them.
pub mod Runs
pub mod Closing
