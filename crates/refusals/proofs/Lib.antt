-- Refusals: when each of 1 to 5 is given, and that 1 to 10 are the only numbers. Told: what is known of every answer, a value or a refusal.
-- Bodies: a body is refused by 6 to 10. Segments, Places: the namespace and the contents.
pub mod Refusals
pub mod Told
pub mod Bodies
pub mod Segments
pub mod Places
