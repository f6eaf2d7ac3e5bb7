-- What is reported of the declarations of two images, and refusal 11.
pub mod Decls
