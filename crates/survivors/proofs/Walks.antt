-- A walk over the declarations, or over the items, that stand: what it has yet to give at its start, after a step, and at its end. Assumes
-- nothing.
use mathlib.Core.Path.{◌≡◌}
use Rattle.std.specs.Prelude.{Option, None, Some}
use mathlib.Core.List.{List, [], ◌++◌}
use Prim.Native.Nat.{ℕ, ◌<◌}
use lib.Dec.{ltb}
use Rattle.maps.specs.Orders.{before}
use Rattle.maps.specs.Keyed.{lookup}
use Rattle.maps.specs.Compare.{between}
use Rattle.maps.specs.Walk.{Rising, rest}
use Rattle.maps.proofs.Names.{by_name}
use Rattle.maps.proofs.Orders.{by_number}
use Rattle.maps.proofs.Walking.{rest_start, rest_turn, rest_done, left_less}
use Rattle.image.specs.Schema.{Decl as Declaration}
use Rattle.parts.specs.Promise.{ItemOf}
use Rattle.parts.specs.Handles.{decl_of}
use Rattle.parts.specs.declared.handles.Image.{Image}
use Rattle.parts.specs.declared.handles.Decl.{Decl}
use Rattle.parts.specs.declared.Shape.{Shape}
use Rattle.members.specs.declared.handles.Items.{Items}
use Rattle.members.specs.declared.handles.Item.{Item}
use Rattle.rules.specs.Survivors.{name_of}
use Rattle.rules.proofs.Standing.{standing_rises}
use Rattle.survivors.specs.Answers.{ordinal_at, standing_of, named, Follows, decls_left, StandsNext}
use Rattle.survivors.specs.Runs.{item_of, item_ordinal, item_map, Holds}
use Rattle.survivors.specs.declared.decls.Declarations.{Declarations}
use Rattle.survivors.proofs.Declarations.{follows_none, follows_body}
use Rattle.survivors.proofs.Runs.{items_rising, next_none, next_item, next_ordinal}

-- ---- declarations: m are those that stand in the image i

-- what a walk that starts after a declaration has yet to give, with another map beside it
unfoldable pub rest_decls : {C : Type 0} → (Option Declaration → Option Declaration → List C) → List Declaration → List Declaration → Option Decl → List C
rest_decls g m n after = rest name_of before g m n (named after)

module _ {C : Type 0} (g : Option Declaration → Option Declaration → List C) (m n : List Declaration) where
  pub decls_start : rest_decls g m n None ≡ between name_of before g m n
  unfolding rest_decls
  decls_start = rest_start name_of by_name g m n

  module _ {i : Image} {after r : Option Decl} (f : Follows m i after r) where
    pub decls_done : r ≡ None → rest_decls g m n after ≡ []
    unfolding rest_decls
    decls_done e = rest_done name_of by_name g m n (named after) (follows_none f e)

    pub decls_turn : Rising name_of before m → {d : Decl} → r ≡ Some d
        → rest_decls g m n after ≡ g (Some (decl_of d)) (lookup name_of before (decl_of d).name n) ++ rest_decls g m n (Some d)
    unfolding rest_decls
    decls_turn R {d} e = rest_turn name_of by_name g m n (named after) (decl_of d) R (follows_body f e)

pub decls_less : (ds : Declarations) {i : Image} {after r : Option Decl} → Follows (standing_of ds) i after r → {d : Decl} → r ≡ Some d
    → decls_left ds (Some d) < decls_left ds after
unfolding decls_left
decls_less ds {after = after} f {d} e =
    left_less name_of by_name (standing_of ds) (named after) (decl_of d) (standing_rises _ _) (follows_body f e)

-- ---- items

-- what stands under a key gives, whatever another map has there
unfoldable pub each : {A C : Type 0} → (A → List C) → Option A → Option A → List C
each f None o = []
each f (Some a) o = f a

unfoldable pub rest_items : {C : Type 0} → (h : Shape) → (Option (ItemOf h) → Option (ItemOf h) → List C) → List (ItemOf h) → List (ItemOf h) → Option ℕ → List C
rest_items h g xs ys after = rest (item_ordinal h) ltb g (item_map h xs) (item_map h ys) after

module _ {C : Type 0} (h : Shape) (g : Option (ItemOf h) → Option (ItemOf h) → List C) (xs ys : List (ItemOf h)) where
  pub items_start : rest_items h g xs ys None ≡ between (item_ordinal h) ltb g (item_map h xs) (item_map h ys)
  unfolding rest_items
  items_start = rest_start (item_ordinal h) by_number g (item_map h xs) (item_map h ys)

  module _ {x : Items} (r : Holds h x xs) {after : Option ℕ} {o : Option Item} (a : StandsNext x after o) where
    pub items_done : o ≡ None → rest_items h g xs ys after ≡ []
    unfolding rest_items
    items_done e = rest_done (item_ordinal h) by_number g (item_map h xs) (item_map h ys) after (next_none r a e)

    pub items_turn : {i : Item} → o ≡ Some i
        → rest_items h g xs ys after ≡ g (Some (item_of h i)) (lookup (item_ordinal h) ltb (ordinal_at i) (item_map h ys)) ++ rest_items h g xs ys (Some (ordinal_at i))
    unfolding rest_items
    items_turn {i} e =
        rw (← next_ordinal r a e)
        (rest_turn (item_ordinal h) by_number g (item_map h xs) (item_map h ys) after (item_of h i) (items_rising h xs) (next_item r a e))
