-- Laws: what the proofs of the reader's functions use of the definitions, and what the crates above may cite.
pub mod Laws
