-- Refiling: when a schema is another one filed anew, and what is claimed of the calls then. Example: an image filed anew.
pub mod Refiling
pub mod Example
