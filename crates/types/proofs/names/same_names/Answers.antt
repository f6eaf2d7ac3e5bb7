-- `types::names::same_names` meets its contract: std's `eq` says whether the names are the same, in turn. Assumes nothing.
use Rattle.types.proofs.Laws.Names.{lists_same}
use Rattle.types.proofs.names.same_names.Goals as goal

pub returns : goal.returns
returns c =
    let h = c.eq.ensures.ran in
    lists_same h.1 h.2 h.3 h.4 _ _ h.8.0 h.9.0 h.5 h.6 _ h.8.1 h.8.2 (rw h.7 at h.9.1) h.9.2 h.10 h.11
