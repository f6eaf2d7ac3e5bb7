-- What is promised, on one page; and Widths, a claim of it that is about the images as they are written.
pub mod Widths
pub mod Claims
