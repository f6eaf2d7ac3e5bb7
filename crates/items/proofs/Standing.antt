-- What stands under one ordinal, on each side: from an item and the answer of the search on the other side to what is reported of it.
-- Assumes nothing.
use mathlib.Core.Path.{◌≡◌, refl, sym, ap, ◌∙◌}
use mathlib.Core.Bool.{Bool, true, false}
use Rattle.std.specs.Prelude.{Option, None, Some}
use mathlib.Core.List.{List, [], ◌∷◌}
use Prim.Native.Nat.{ℕ}
use lib.Dec.{ltb}
use Rattle.maps.specs.Keyed.{lookup}
use Rattle.maps.specs.Compare.{unmatched, matched}
use Rattle.std.specs.Option.{is_some}
use Rattle.maps.proofs.Tests.{no_both}
use Rattle.parts.specs.Promise.{ordinal_in}
use Rattle.rules.specs.Changes.{Change}
use Rattle.lines.specs.declared.Reading.{Reading}
use Rattle.members.specs.Handles.{places_of}
use Rattle.members.specs.declared.places.Places.{Places}
use Rattle.members.specs.declared.handles.Items.{Items}
use Rattle.members.specs.declared.handles.Item.{Item}
use Rattle.survivors.specs.Items.{place_map}
use Rattle.survivors.specs.Answers.{ordinal_at, Among, StandsUnder}
use Rattle.survivors.specs.Runs.{item_of, item_ordinal, items_of, Holds}
use Rattle.survivors.proofs.Runs.{items_hold, among_shape, found_none, found_item, has_stands}
use Rattle.lines.specs.Sites.{change_of}
use Rattle.lines.specs.Reports.{Reports}
use Rattle.lines.specs.declared.Report.{Report}
use Rattle.lines.specs.declared.Site.{Site}
use Rattle.lines.proofs.Reports.{reports_none, reports_as}
use Rattle.items.specs.Sides.{on, off}
use Rattle.items.specs.Items.{context_of, shape, rules, standing_off, lone, unmatched_at, kept_at}
use Rattle.items.specs.Lone.{lone_of}
use Rattle.items.specs.declared.Side.{Side}
use Rattle.items.specs.declared.Side.TheVariants as side
use Rattle.items.specs.declared.pairs.Pair.{Pair}
use Rattle.items.proofs.Reported.{gone_is, came_is}

-- ---- one entry of each map

pub unmatched_has : {E C : Type 0} (c : E → List C) (e : E) (o : Option E) → is_some o ≡ true → unmatched c (Some e) o ≡ []
unfolding unmatched
unmatched_has c e None p = no_both p refl
unmatched_has c e (Some f) p = refl

pub unmatched_lacks : {E C : Type 0} (c : E → List C) (e : E) (o : Option E) → is_some o ≡ false → unmatched c (Some e) o ≡ c e
unfolding unmatched
unmatched_lacks c e None p = refl
unmatched_lacks c e (Some f) p = no_both refl p

pub matched_none : {E C : Type 0} (c : E → E → List C) (e : E) {o : Option E} → o ≡ None → matched c (Some e) o ≡ []
unfolding matched
matched_none c e p = rw p

pub matched_some : {E C : Type 0} (c : E → E → List C) (e : E) {o : Option E} {f : E} → o ≡ Some f → matched c (Some e) o ≡ c e f
unfolding matched
matched_some c e p = rw p

-- ---- on a side

module _ (x : Pair) where
  pub on_holds : (s : Side) → Holds (shape x) (on s x.old x.new) (items_of (shape x) (on s x.old x.new))
  on_holds side.Old = items_hold (shape x) x.old x.old_shape
  on_holds side.New = items_hold (shape x) x.new x.new_shape

  pub off_holds : (s : Side) → Holds (shape x) (off s x.old x.new) (items_of (shape x) (off s x.old x.new))
  off_holds side.Old = items_hold (shape x) x.new x.new_shape
  off_holds side.New = items_hold (shape x) x.old x.old_shape

  lone_is : (reading : Reading) (s : Side) (i : Item) → i.shape ≡ shape x → lone reading x s (item_of (shape x) i) ≡ lone_of x.of s i ∷ []
  lone_is reading side.Old i e = gone_is (context_of reading x.old.image x.new.image) x.of i e
  lone_is reading side.New i e = came_is (context_of reading x.old.image x.new.image) x.of i e

  -- ---- what stands on one side only: t says whether the other side has the ordinal k of i, and z is the items of that side

  module _ (s : Side) (i : Item) {k : ℕ} (u : k ≡ ordinal_at i) {z : Items} (q : z ≡ off s x.old x.new) {p : Places} (w : p ≡ places_of z)
      {t : Bool} (a : t ≡ is_some (lookup (ordinal_in p.bytes.now) ltb k (place_map p))) where
    has : t ≡ is_some (lookup (item_ordinal (shape x)) ltb (ordinal_at i) (standing_off x s))
    has = has_stands (off_holds s) (ordinal_at i) (rw (w, q, u) at a)

    pub lone_other : t ≡ true → {r : Report} → Reports r (unmatched_at r.reading x s i) r
    unfolding unmatched_at
    lone_other e {r} = reports_none (unmatched_has (lone r.reading x s) _ _ (sym has ∙ e))

    pub lone_alone : t ≡ false → {y : Items} → y ≡ on s x.old x.new → Among y i → (c : Site) → change_of c ≡ lone_of x.of s i
        → {r r' : Report} → Reports r (change_of c ∷ []) r' → Reports r (unmatched_at r.reading x s i) r'
    unfolding unmatched_at
    lone_alone e {y} n m c d {r} h =
        reports_as
        (unmatched_lacks (lone r.reading x s) _ _ (sym has ∙ e)
        ∙ lone_is r.reading s i (among_shape (on_holds s) (rw n at m))
        ∙ ap (λ (l : Change). l ∷ []) (sym d))
        h

  -- ---- what stands on both

  module _ (reading : Reading) (i : Item) {k : ℕ} (u : k ≡ ordinal_at i) {o : Option Item} (a : StandsUnder x.new k o) where
    pub kept_none : o ≡ None → kept_at reading x i ≡ []
    unfolding kept_at
    kept_none e = matched_none (rules reading x).kept _ (rw (← u) (found_none (on_holds side.New) a e))

    pub kept_item : {j : Item} → o ≡ Some j → kept_at reading x i ≡ (rules reading x).kept (item_of (shape x) i) (item_of (shape x) j)
    unfolding kept_at
    kept_item e = matched_some (rules reading x).kept _ (rw (← u) (found_item (on_holds side.New) a e))

pub ruleset lone_items = (lone_other, lone_alone)
