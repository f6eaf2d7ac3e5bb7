-- Kept: what is read in a part of a list is read at the same place of the whole. Steps: reads that were good, one after the other.
-- Places: so many of a kind, by their places. Labels, Trees, Items, Fields, Starts, Widths, Decls, Contents: what stands at the places of each.
-- Counts, Counted: what stands before the items of a declaration, and these, by its kind. Closed: the tombstones after them.
-- Skips: how the loops pass over names and types. Ends: where a type ends, by its inner types. Bodies: the body of an entry by itself.
pub mod Kept
pub mod Steps
pub mod Places
pub mod Labels
pub mod Trees
pub mod Items
pub mod Fields
pub mod Starts
pub mod Widths
pub mod Decls
pub mod Counts
pub mod Counted
pub mod Closed
pub mod Contents
pub mod Skips
pub mod Ends
pub mod Bodies
