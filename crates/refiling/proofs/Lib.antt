-- Clauses: of like declarations. Standing: of schemas. Repeats: what is needed, and what filing anew keeps. FilingOrder: the theorem.
-- Relation: filing anew is an equivalence. Tables: renumberings entry by entry. Example, Needed: what is computed.
pub mod Clauses
pub mod Standing
pub mod Repeats
pub mod FilingOrder
pub mod Relation
pub mod Tables
pub mod Example
pub mod Needed
