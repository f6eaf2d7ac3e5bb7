-- Names: the names of a run, one at a time, and those of a namespace. Labels: two labels, by what their tag has.
-- Likeness: the three answers. Trees: two types, by their labels and inner types.
pub mod Names
pub mod Labels
pub mod Likeness
pub mod Trees
