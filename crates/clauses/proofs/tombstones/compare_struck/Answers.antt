-- `clauses::tombstones::compare_struck` meets its contract: nothing where no tombstones are stored, or all that was reused, and then all that
-- was dropped. Assumes nothing.
use Rattle.std.proofs.Common.{Bool, cond, sym, ap}
use Rattle.members.specs.Handles.{place_after}
use Rattle.parts.specs.Promise.{items_at, tombstone_items}
use Rattle.lines.proofs.Reports.{reports_none}
use Rattle.clauses.proofs.Struck.{bodies_silent, bodies_told}
use Rattle.clauses.proofs.tombstones.compare_struck.Goals as goal

pub returns : goal.returns
returns c = bodies_told _ c.args.old c.args.new c.tombstones-struck.ensures c.tombstones-still.ensures c.compare_numbers.ensures c.compare_numbers-2.ensures

pub returns-then-not-stores_tombstones : goal.returns-then-not-stores_tombstones
unfolding tombstone_items
returns-then-not-stores_tombstones c =
    let x = c.args.old.items in
    reports_none
    (bodies_silent _ c.args.old c.args.new
    (ap (λ (b : Bool). cond b (items_at x.image.bytes.now (place_after x)) (record { start = place_after x; count = 0 })) (sym c.stores_tombstones.ensures))
    c.if-not-stores_tombstones.true)
