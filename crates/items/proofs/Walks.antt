-- A walk over the items of a side by rising ordinal, whose parts are reported one after the other: its start, a turn and its end. It is stated for any g, what is reported of what the two sides have under one ordinal. Assumes nothing.
use mathlib.Core.Path.{◌≡◌, refl, sym, ap, ◌∙◌}
use Rattle.std.specs.Prelude.{Option, Some, None}
use mathlib.Core.List.{List, ◌++◌}
use Prim.Native.Nat.{ℕ}
use lib.Dec.{ltb}
use Rattle.maps.specs.Keyed.{lookup}
use Rattle.maps.specs.Compare.{unmatched, matched, between}
use Rattle.parts.specs.Promise.{ItemOf}
use Rattle.members.specs.declared.handles.Items.{Items}
use Rattle.members.specs.declared.handles.Item.{Item}
use Rattle.rules.specs.Changes.{Change}
use Rattle.lines.specs.declared.Reading.{Reading}
use Rattle.survivors.specs.Answers.{ordinal_at, Among, StandsIn, NextItem}
use Rattle.survivors.specs.declared.standing.StandingItems.{StandingItems}
use Rattle.survivors.specs.Runs.{item_of, item_ordinal, items_of}
use Rattle.survivors.proofs.Runs.{next_among}
use Rattle.survivors.proofs.Walks.{rest_items, items_start, items_done, items_turn}
use Rattle.lines.specs.Reports.{Reports}
use Rattle.lines.specs.declared.Report.{Report}
use Rattle.lines.proofs.Reports.{Left, left_start, left_reading, left_turn, left_done}
use Rattle.items.specs.Sides.{on, off}
use Rattle.items.specs.Items.{shape, rules, standing, standing_off, lone, unmatched_items, unmatched_at, kept_items, kept_at}
use Rattle.items.specs.declared.Side.{Side}
use Rattle.items.specs.declared.Side.TheVariants as side
use Rattle.items.specs.declared.pairs.Pair.{Pair}
use Rattle.items.proofs.Standing.{on_holds}

module _ (x : Pair) where
  -- what is reported of what a side, and the other, have under one ordinal
  abbrev pub Pairing : Type 0
  Pairing = Option (ItemOf (shape x)) → Option (ItemOf (shape x)) → List Change

  unfoldable pub walk_all : Pairing → Side → List Change
  walk_all g s = between (item_ordinal (shape x)) ltb g (standing x s) (standing_off x s)

  -- of an item of the side
  unfoldable pub walk_at : Pairing → Side → Item → List Change
  walk_at g s i = g (Some (item_of (shape x) i)) (lookup (item_ordinal (shape x)) ltb (ordinal_at i) (standing_off x s))

  -- from an ordinal on
  unfoldable pub walk_rest : Pairing → Side → Option ℕ → List Change
  walk_rest g s after = rest_items (shape x) g (items_of (shape x) (on s x.old x.new)) (items_of (shape x) (off s x.old x.new)) after

-- ---- the walks that there are

module _ (reading : Reading) (x : Pair) where
  unmatched_all : (s : Side) → unmatched_items reading x s ≡ walk_all x (unmatched (lone reading x s)) s
  unfolding unmatched_items walk_all
  unmatched_all s = refl

  unmatched_at_lem : (s : Side) (i : Item) → unmatched_at reading x s i ≡ walk_at x (unmatched (lone reading x s)) s i
  unfolding unmatched_at walk_at
  unmatched_at_lem s i = refl

  kept_all : kept_items reading x ≡ walk_all x (matched (rules reading x).kept) side.Old
  unfolding kept_items walk_all
  kept_all = refl

  kept_at_lem : (i : Item) → kept_at reading x i ≡ walk_at x (matched (rules reading x).kept) side.Old i
  unfolding kept_at walk_at
  kept_at_lem i = refl

-- ---- any walk

-- a walk over the items of a side: what the report at its start has to be yet
pub record Walking (x : Pair) (s : Side) (g : Pairing x) (a : Report) (all : List Change) (b : Report) (w : StandingItems) : Type 0 where
  pub items : w.items ≡ on s x.old x.new
  pub left : Left a all b (walk_rest x g s w.after)

module _ (x : Pair) (s : Side) (g : Pairing x) {a : Report} {all : List Change} where
  pub walk_start : all ≡ walk_all x g s → {y : Items} → y ≡ on s x.old x.new → {w : StandingItems} → StandsIn y w → Walking x s g a all a w
  unfolding walk_all walk_rest
  walk_start e q {w} h = record {
    items = h.items ∙ q;
    left = rw h.after (left_start (e ∙ sym (items_start (shape x) g _ _)));
  }

  module _ {b : Report} {w : StandingItems} (v : Walking x s g a all b w) {w' : StandingItems} where
    module _ {i : Item} (n : NextItem w (Some i) w') where
      -- the item that is met
      pub walk_met : Among (on s x.old x.new) i
      walk_met = next_among (on_holds x s) (rw v.items at n.follows) refl

      -- cs is what the reporter of one item reports
      pub walk_turn : {cs : List Change} → cs ≡ walk_at x g s i → {c : Report} → Reports b cs c → Walking x s g a all c w'
      unfolding walk_at walk_rest
      walk_turn {cs} u h = record {
        items = n.items ∙ v.items;
        left =
            rw n.after
            (left_turn v.left
            (items_turn (shape x) g _ _ (on_holds x s) (rw v.items at n.follows) refl
            ∙ ap (λ (l : List Change). l ++ walk_rest x g s (Some (ordinal_at i))) (sym u))
            h);
      }

    pub walk_done : NextItem w None w' → Reports a all b
    unfolding walk_rest
    walk_done n = left_done v.left (items_done (shape x) g _ _ (on_holds x s) (rw v.items at n.follows) refl)

-- ---- the walk over what stands on a side only

abbrev pub Unmatched : Pair → Side → Report → List Change → Report → StandingItems → Type 0
Unmatched x s a all b w = Walking x s (unmatched (lone a.reading x s)) a all b w

module _ (x : Pair) (s : Side) {a : Report} where
  pub unmatched_start : {y : Items} → y ≡ on s x.old x.new → {w : StandingItems} → StandsIn y w → Unmatched x s a (unmatched_items a.reading x s) a w
  unmatched_start = walk_start x s (unmatched (lone a.reading x s)) (unmatched_all a.reading x s)

  module _ {all : List Change} {b : Report} {w : StandingItems} (v : Unmatched x s a all b w) {w' : StandingItems} where
    pub unmatched_met : {i : Item} → NextItem w (Some i) w' → Among (on s x.old x.new) i
    unmatched_met = walk_met x s (unmatched (lone a.reading x s)) v

    pub unmatched_turn : {i : Item} → NextItem w (Some i) w' → {c : Report} → Reports b (unmatched_at b.reading x s i) c → Unmatched x s a all c w'
    unmatched_turn {i} n h =
        walk_turn x s (unmatched (lone a.reading x s)) v n
        (ap (λ (r : Reading). unmatched_at r x s i) (left_reading v.left) ∙ unmatched_at_lem a.reading x s i) h

    pub unmatched_done : NextItem w None w' → Reports a all b
    unmatched_done = walk_done x s (unmatched (lone a.reading x s)) v

-- ---- the walk over what was kept

abbrev pub Kept : Pair → Report → List Change → Report → StandingItems → Type 0
Kept x a all b w = Walking x side.Old (matched (rules a.reading x).kept) a all b w

module _ (x : Pair) {a : Report} where
  pub kept_start : {w : StandingItems} → StandsIn x.old w → Kept x a (kept_items a.reading x) a w
  kept_start = walk_start x side.Old (matched (rules a.reading x).kept) (kept_all a.reading x) {y = x.old} refl

  module _ {all : List Change} {b : Report} {w : StandingItems} (v : Kept x a all b w) {w' : StandingItems} where
    pub kept_met : {i : Item} → NextItem w (Some i) w' → Among x.old i
    kept_met = walk_met x side.Old (matched (rules a.reading x).kept) v

    pub kept_turn : {i : Item} → NextItem w (Some i) w' → {c : Report} → Reports b (kept_at b.reading x i) c → Kept x a all c w'
    kept_turn {i} n h =
        walk_turn x side.Old (matched (rules a.reading x).kept) v n
        (ap (λ (r : Reading). kept_at r x i) (left_reading v.left) ∙ kept_at_lem a.reading x i) h

    pub kept_done : NextItem w None w' → Reports a all b
    kept_done = walk_done x side.Old (matched (rules a.reading x).kept) v

-- what the code needs
pub ruleset unmatching = (unmatched_start, unmatched_met, unmatched_turn, unmatched_done)

pub ruleset keeping = (kept_start, kept_met, kept_turn, kept_done)
