-- Marking: ids, nodes and types marked. Walks: the items of a run. Declared: declarations by their kinds, and those that stand.
-- Followed: what is marked is followed, to the least set.
pub mod Marking
pub mod Walks
pub mod Declared
pub mod Followed
