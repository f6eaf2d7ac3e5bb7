-- The image format, to be read beside document 01's section "Image reader" and its table of refusals, and R-6 and R-10 of document 02.
-- Codes, Kinds, Formats: the numbers of answers and of images, by name. Schema: what an image holds. Parse: how one read follows another.
-- Names, Types, Tombstones, Fields, Widths, Bodies, Image: the format, from the inside out. WellFormed: the values of what was accepted.
-- Reads: what the answers of the code's reads say of these. Words: the word of each kind.
pub mod Codes
pub mod Kinds
pub mod Formats
pub mod Numbers
pub mod Schema
pub mod Parse
pub mod Names
pub mod Types
pub mod Tombstones
pub mod Fields
pub mod Widths
pub mod Bodies
pub mod Image
pub mod WellFormed
pub mod Reads
pub mod Words
