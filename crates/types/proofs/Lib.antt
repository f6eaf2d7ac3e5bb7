-- Laws: what the proofs of the functions rest on.
pub mod Laws
