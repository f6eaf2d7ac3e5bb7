-- Listing: the contents listing of an image, when it is refused, and what the two calls answer. Refusals: when each number is given, in
-- document 01's words. Ignored: R-6 and R-10, that formats, widths and tombstones are ignored.
pub mod Listing
pub mod Refusals
pub mod Ignored
