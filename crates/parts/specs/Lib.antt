-- Promise: what stands at a place of an accepted image, and that it is well formed. Props: that it does is a fact. Handles: what the values that
-- know it stand for. Kinds, Codes: the names of numbers. Numbers: those of the code's enums.
pub mod Promise
pub mod Kinds
pub mod Codes
pub mod Numbers
pub mod Props
pub mod Handles
