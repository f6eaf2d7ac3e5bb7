-- Lines: the lines of entries, one after the other. Bounds: how long a listing can be. Outcomes: an image and a buffer by stages.
-- Pinned: what is computed from the definition alone. Refusals: when each number is given. Ignored: formats, widths
-- and tombstones are ignored.
mod Lines
mod Bounds
pub mod Outcomes
pub mod Pinned
pub mod Refusals
pub mod Ignored
