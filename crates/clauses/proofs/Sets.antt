-- Two runs of items by ordinal: what is reported of them part by part. Assumes nothing.
use Rattle.std.proofs.Common.{◌≡◌, [], ◌++◌}
use Rattle.maps.specs.Compare.{compare}
use Rattle.lines.specs.Reports.{Reports}
use Rattle.lines.specs.declared.Report.{Report}
use Rattle.lines.proofs.Reports.{reports_none, reports_then}
use Rattle.lines.specs.declared.Reading.{Reading}
use Rattle.items.specs.Items.{unmatched_items, kept_items, item_changes}
use Rattle.items.specs.declared.Side.{Side}
use Rattle.items.specs.declared.pairs.Pair.{Pair}

module _ (x : Pair) {a b c : Report} (gone : Reports a (unmatched_items a.reading x Side.Old) b) (came : Reports b (unmatched_items b.reading x Side.New) c) where
  -- removed, added and kept
  pub all_reported : {d : Report} → Reports c (kept_items c.reading x) d → Reports a (item_changes a.reading x) d
  unfolding item_changes compare unmatched_items kept_items
  all_reported kept =
      let rest = reports_then (λ (r : Reading). kept_items r x) came kept in
      reports_then (λ (r : Reading). unmatched_items r x Side.New ++ kept_items r x) gone rest

  -- where nothing is reported of what was kept
  pub lone_reported : kept_items c.reading x ≡ [] → Reports a (item_changes a.reading x) c
  lone_reported e = all_reported (reports_none e)
