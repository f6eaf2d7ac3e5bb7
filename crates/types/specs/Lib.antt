-- Nodes: a type by the number of its inner types. Resolved: what stands at a place, with names in the place of ids. Likeness: what the
-- comparison of two types answers.
pub mod Nodes
pub mod Resolved
pub mod Likeness
