-- `items::unmatched::unmatched_item` meets its contract: where the other side has none, the change of a site is reported. Assumes nothing.
use Rattle.std.proofs.Common.{refl}
use Rattle.items.proofs.Standing.{lone_alone}
use Rattle.items.proofs.unmatched.unmatched_item.Goals as goal

pub returns : goal.returns
returns c =
    lone_alone _ _ _ c.ordinal.ensures c.off.ensures c.places.ensures c.has_item.ensures c.if-has_item.false refl c.requires c.lone.result c.lone.ensures c.emit.ensures
