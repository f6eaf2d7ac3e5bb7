-- Promise: the laws that the crates above may cite; Named: those of names in turn; Codings: codings by their numbers. Laws: what they and the
-- accessors' proofs rest on, those of `members` too.
pub mod Laws
pub mod Promise
pub mod Named
pub mod Codings
