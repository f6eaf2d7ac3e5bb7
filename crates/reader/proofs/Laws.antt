-- Answers: the answer, and what a caller learns from it. Bodies, Contents: each part of the format, case by case.
pub mod Answers
pub mod Bodies
pub mod Contents
