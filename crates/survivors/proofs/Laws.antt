-- Better: the best entry so far and one more. Nearest: the same of declarations. Candidates: the entries that may stand, by position.
-- Listed: the searches over them. Passed: a pass over the places of items. Stepping: from places to items.
pub mod Better
pub mod Nearest
pub mod Candidates
pub mod Listed
pub mod Passed
pub mod Stepping
