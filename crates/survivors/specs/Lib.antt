-- Candidates: the entries that may stand. Items: what the searches among items answer, by place. Answers: what is found as values.
-- Runs: the items of a declaration or of a variant, as values.
pub mod Candidates
pub mod Items
pub mod Answers
pub mod Runs
