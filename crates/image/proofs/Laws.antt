-- What the proofs of the reader's functions cite, and the crates above may.
-- Answers: how one read follows another. Sure: what holds of every value that is read. Good: values that were read, part by part. Repeats: so
-- many of a kind. Formats: what a format stores. Numbers, Names, Types, Fields, Widths, Tombstones: each part of the format, case by case.
-- Trees: well-formed labels and types. Kinds: a number and the kind that it says; the words of kinds. Apart: kinds and tags by their numbers.
pub mod Answers
pub mod Sure
pub mod Good
pub mod Repeats
pub mod Formats
pub mod Numbers
pub mod Names
pub mod Types
pub mod Trees
pub mod Fields
pub mod Widths
pub mod Tombstones
pub mod Kinds
pub mod Apart
