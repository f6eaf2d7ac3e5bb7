-- What C is told of an answer, and what its selectors give.
pub mod Verdicts
