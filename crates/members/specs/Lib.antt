-- Props: the facts that handles hold. Places: a walk over places. Handles, Kinds, Bodies: what handles stand for.
pub mod Props
pub mod Places
pub mod Handles
pub mod Kinds
pub mod Bodies
