-- Writer: the bytes of a schema. Limits: the schemas that an image can hold.
pub mod Writer
pub mod Limits
