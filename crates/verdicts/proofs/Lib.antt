-- Selectors: what a selector gives of a verdict.
pub mod Selectors
