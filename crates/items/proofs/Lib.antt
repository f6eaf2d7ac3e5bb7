-- Standing: what the answers of searches say of one ordinal. Walks: a walk over the items of a side, part by part. Reported: what stands on
-- one side only is reported by the change of a site. Owned: what is reported, by the owner of the items alone.
pub mod Standing
pub mod Walks
pub mod Reported
pub mod Owned
