-- Kept: what every policy keeps to. Passes: one pass over changes. Outcomes: two images by stages, and the report call by their
-- verdict.
pub mod Kept
mod Passes
mod Outcomes
