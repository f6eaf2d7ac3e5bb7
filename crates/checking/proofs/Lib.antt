-- Turns: a walk over the declarations of an image by rising name. Names: what is reported of one name. Compared: two declarations under one
-- name. Pairs: generic aliases of one name. Whole: the namespace, and all changes part by part.
pub mod Turns
pub mod Names
pub mod Compared
pub mod Pairs
pub mod Whole
