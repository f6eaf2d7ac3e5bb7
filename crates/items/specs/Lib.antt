-- Sides: what stands on a side. Owners: whose items they are. Items: two runs of numbered items, and what is reported of them. Lone: the change of
-- an item that stands on one side only.
pub mod Sides
pub mod Owners
pub mod Items
pub mod Lone
