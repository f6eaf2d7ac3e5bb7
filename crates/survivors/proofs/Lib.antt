-- Declarations, Runs: what the crates above may cite of the answers. Walks: turns of a walk by the next key. Laws: what they and the
-- proofs of the searches rest on.
pub mod Laws
pub mod Declarations
pub mod Runs
pub mod Walks
pub mod Used
