-- Policies: what the code's policies stand for. Pairs: two images that are prepared for one. Passes: what a pass and the report call answer.
pub mod Policies
pub mod Pairs
pub mod Passes
