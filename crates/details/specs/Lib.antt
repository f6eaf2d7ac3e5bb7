-- Details: the texts of a change's declaration, field and detail.
pub mod Details
