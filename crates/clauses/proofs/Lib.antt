-- Readings: what the code's readings make of types, and what they report besides. Told: a clause that reports a change if a test passes, and nothing if it does not. Sets: two runs of items by ordinal. Kept: what stands
-- on both sides, and what is reported of it. Struck, Bodies: what is reported of the numbers that bodies strike off, and that these bodies are
-- those of declarations and variants.
pub mod Readings
pub mod Told
pub mod Sets
pub mod Kept
pub mod Struck
pub mod Bodies
