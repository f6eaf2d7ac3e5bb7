-- Whole: every schema within the limits is read back from what is written of it. Octets: what is written are bytes. Accepted: no
-- other list of bytes is accepted. Ride: document 01's image, and one each of formats 2 and 3, by computation.
-- Written, then read: Here, bytes at a place; Pieces, numbers, names and lists; Trees, types; Items, fields, what a format stores, variants
-- and bodies. Read, then written: Runs, TreeRuns, ItemRuns, in the same order.
pub mod Whole
pub mod Octets
pub mod Accepted
pub mod Ride
pub mod Here
pub mod Pieces
pub mod Trees
pub mod Items
pub mod Runs
pub mod TreeRuns
pub mod ItemRuns
