-- Maps of places: a search answers a place, and what stands there is the entry that the map of the entries has. The key at a place is to be
-- that of the entry there, at each place listed.
-- Assumes nothing.
use mathlib.Core.Path.{◌≡◌, refl, ap, ◌∙◌}
use mathlib.Core.Bool.{Bool, true, false, cond}
use mathlib.Core.List.{List, [], ◌∷◌, map}
use Rattle.std.specs.Prelude.{option_map, Option, Some}
use Rattle.maps.specs.Lists.{pass, All}
use Rattle.maps.specs.Orders.{same}
use Rattle.maps.specs.Keyed.{insert, survivors, lookup}
use Rattle.maps.specs.Walk.{past, following}
use Rattle.maps.proofs.Survivors.{insert_cases, all_insert, all_survivors}

module _ {K E P : Type 0} (key : E → K) (lt : K → K → Bool) (f : P → E) (at : P → K) where
  -- the key at each place is that of the entry there
  abbrev pub Placed : List P → Type 0
  Placed ps = All (λ p. key (f p) ≡ at p) ps

  insert_map : (m : List P) (p : P) → Placed m → key (f p) ≡ at p → insert key lt (map f m) (f p) ≡ map f (insert at lt m p)
  unfolding insert All
  insert_map [] p h e = refl
  insert_map (q ∷ m) p h e =
      insert_cases at lt q m p (λ l. insert key lt (map f (q ∷ m)) (f p) ≡ map f l)
      (λ u. rw (e, h.0, u))
      (λ u v. rw (e, h.0, u, v) (ap (λ (l : List E). f q ∷ l) (insert_map m p h.1 e)))
      (λ u v. rw (e, h.0, u, v))

  inserts_map : (m ps : List P) → Placed m → Placed ps → pass (insert key lt) (map f m) (map f ps) ≡ map f (pass (insert at lt) m ps)
  unfolding pass All
  inserts_map m [] h k = refl
  inserts_map m (p ∷ ps) h k =
      ap (λ (l : List E). pass (insert key lt) l (map f ps)) (insert_map m p h k.0)
      ∙ inserts_map (insert at lt m p) ps (all_insert at lt (λ q. key (f q) ≡ at q) m p h k.0) k.1

  pub survivors_map : (ps : List P) → Placed ps → survivors key lt (map f ps) ≡ map f (survivors at lt ps)
  unfolding survivors All
  survivors_map ps h = inserts_map [] ps tt h

  -- the place in front is taken, or what is found further on
  front_map : (u : Bool) (p : P) (e : Option E) (o : Option P) → e ≡ option_map f o → cond u (Some (f p)) e ≡ option_map f (cond u (Some p) o)
  front_map true p e o q = refl
  front_map false p e o q = q

  pub lookup_map : (k : K) (m : List P) → Placed m → lookup key lt k (map f m) ≡ option_map f (lookup at lt k m)
  unfolding lookup All
  lookup_map k [] h = refl
  lookup_map k (p ∷ m) h = rw h.0 (front_map (same lt k (at p)) p _ _ (lookup_map k m h.1))

  following_map : (b : Option K) (m : List P) → Placed m → following key lt b (map f m) ≡ option_map f (following at lt b m)
  unfolding following All
  following_map b [] h = refl
  following_map b (p ∷ m) h = rw h.0 (front_map (past lt b (at p)) p _ _ (following_map b m h.1))

  -- the place that stands has the entry that stands
  pub lookup_placed : (k : K) (ps : List P) → Placed ps → lookup key lt k (survivors key lt (map f ps)) ≡ option_map f (lookup at lt k (survivors at lt ps))
  lookup_placed k ps h =
      ap (lookup key lt k) (survivors_map ps h) ∙ lookup_map k (survivors at lt ps) (all_survivors at lt (λ p. key (f p) ≡ at p) ps h)

  pub following_placed : (b : Option K) (ps : List P) → Placed ps
      → following key lt b (survivors key lt (map f ps)) ≡ option_map f (following at lt b (survivors at lt ps))
  following_placed b ps h =
      ap (following key lt b) (survivors_map ps h) ∙ following_map b (survivors at lt ps) (all_survivors at lt (λ p. key (f p) ≡ at p) ps h)
