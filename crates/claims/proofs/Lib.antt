-- The claims hold. Widths: enums and flags of accepted images have a width where the format stores it.
pub mod Widths
pub mod Claims
