-- Laws: what the proofs of the reader's functions use of the definitions, and what its answer says of an image.
pub mod Laws
