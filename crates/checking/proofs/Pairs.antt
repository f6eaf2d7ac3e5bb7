-- Refusal 11: whether the survivors of one name are generic aliases in both images, of one entry, and of the entries that a pass has yet to
-- meet. Assumes nothing.
use mathlib.Core.Path.{◌≡◌, refl, sym, ap, ◌∙◌}
use mathlib.Core.Bool.{Bool, true, false, ◌&&◌, ◌||◌}
use Rattle.std.specs.Prelude.{Option, None, Some}
use Rattle.std.specs.Option.{option_map}
use mathlib.Core.List.{List, [], ◌∷◌, ◌++◌}
use Prim.Native.Nat.{ℕ, suc, ◌+◌, ◌≤◌, ◌<◌}
use native.Mathlib.Numerals.{add-one}
use lib.Dec.{eqb}
use lib.ListN.{length, drop, drop_of_length-le}
use lib.Seq.{drop-cons}
use Rattle.maps.specs.Lists.{All, any}
use Rattle.maps.specs.Orders.{before}
use Rattle.maps.specs.Keyed.{survivors, lookup}
use Rattle.maps.proofs.Tests.{no_both}
use Rattle.maps.proofs.Lists.{all}
use Rattle.maps.proofs.Names.{by_name}
use Rattle.maps.proofs.Survivors.{rising, all_survivors, all_lookup, lookup_key, lookup_own}
use Rattle.maps.proofs.Any.{any_none, none_any}
use Rattle.image.specs.Schema.{Name, Decl as Declaration}
use Rattle.parts.specs.Handles.{schema_in, decl_of}
use Rattle.parts.specs.declared.handles.Decl.{Decl}
use Rattle.rules.specs.Survivors.{resolved, listed, name_of}
use Rattle.rules.specs.Imports.{marked_ids, standing_with, view_with}
use Rattle.rules.specs.Verdict.{alias, is_alias, alias_pair}
use Rattle.survivors.specs.Answers.{standing_of, Survives}
use Rattle.survivors.specs.Candidates.{candidates, Candidate, present}
use Rattle.survivors.specs.declared.decls.Declarations.{Declarations}
use Rattle.survivors.proofs.Laws.Candidates.{present_candidates}
use Rattle.survivors.proofs.Declarations.{decl_none, decl_body}
use Rattle.checking.specs.Decls.{both_aliases, aliases_at, aliases_of}

-- ---- whether a declaration that was found or not is an alias

module _ {r : Option Decl} where
  pub no_alias : r ≡ None → false ≡ is_alias (option_map decl_of r)
  unfolding is_alias
  no_alias e = rw (decl_none e)

  module _ {d : Decl} (e : r ≡ Some d) {kind : ℕ} (k : kind ≡ (decl_of d).kind) where
    pub alias_kind_lem : {t : Bool} → t ≡ eqb kind 6 → t ≡ is_alias (option_map decl_of r)
    unfolding is_alias alias
    alias_kind_lem p = rw (decl_body e, ← k) p

-- ---- one name

module _ (old new : Declarations) {name : Name} {r : Option Decl} (h : Survives (standing_of old) old.image name r) {t : Bool} (p : t ≡ is_alias (option_map decl_of r)) where
  first : t ≡ is_alias (lookup name_of before name (standing_of old))
  first = p ∙ ap is_alias h.value

  pub old_other : t ≡ false → t ≡ aliases_at old new name
  unfolding aliases_at
  old_other e = e ∙ rw (sym first ∙ e)

  pub new_decides : t ≡ true → {q : Option Decl} → Survives (standing_of new) new.image name q → {u : Bool} → u ≡ is_alias (option_map decl_of q)
      → u ≡ aliases_at old new name
  unfolding aliases_at
  new_decides e k f = rw (sym first ∙ e) (f ∙ ap is_alias k.value)

-- ---- one entry of the old image

module _ (old new : Declarations) {r : Option Decl} where
  pub entry_none : r ≡ None → false ≡ aliases_of old new (option_map decl_of r)
  unfolding aliases_of
  entry_none e = rw (decl_none e)

  module _ {d : Decl} (e : r ≡ Some d) {kind : ℕ} (k : kind ≡ (decl_of d).kind) {t : Bool} (p : t ≡ eqb kind 6) where
    pub entry_other : t ≡ false → t ≡ aliases_of old new (option_map decl_of r)
    unfolding aliases_of alias
    entry_other q = q ∙ rw (decl_body e, ← k, sym p ∙ q)

    pub entry_alias : t ≡ true → {name : Name} → name ≡ (decl_of d).name → {u : Bool} → u ≡ aliases_at old new name
        → u ≡ aliases_of old new (option_map decl_of r)
    unfolding aliases_of alias
    entry_alias q n f = rw (decl_body e, ← k, sym p ∙ q, ← n) f

-- two tests that are false together are the same
false_together : (u v : Bool) → (u ≡ false → v ≡ false) → (v ≡ false → u ≡ false) → u ≡ v
false_together true true f g = refl
false_together true false f g = g refl
false_together false v f g = sym (f refl)

-- ---- Of listed declarations l those stand that survive. Whether one of these is an alias and n has another under its name is told by
-- those of l that are aliases, each by what stands under its name.

module _ (l n : List Declaration) where
  abbrev stand : List Declaration
  stand = survivors name_of before l

  abbrev paired : Declaration → Bool
  paired d = alias d && is_alias (lookup name_of before d.name n)

  abbrev told : Declaration → Bool
  told d = alias d && (is_alias (lookup name_of before d.name stand) && is_alias (lookup name_of before d.name n))

  own : (d : Declaration) → lookup name_of before d.name stand ≡ Some d → told d ≡ false → paired d ≡ false
  unfolding is_alias
  own d e q = go (alias d) (is_alias (lookup name_of before d.name n)) (rw e at q)
    where
      go : (u v : Bool) → (u && (u && v)) ≡ false → (u && v) ≡ false
      go true v p = p
      go false v p = refl

  owns : (k : List Declaration) → All (λ d. lookup name_of before d.name stand ≡ Some d) k → All (λ d. told d ≡ false) k → All (λ d. paired d ≡ false) k
  unfolding All
  owns [] f h = tt
  owns (d ∷ k) f h = (own d f.0 h.0, owns k f.1 h.1)

  listed_told : All (λ d. paired d ≡ false) stand → (d : Declaration) → told d ≡ false
  unfolding is_alias alias
  listed_told h d = go (lookup name_of before d.name stand) refl
    where
      and_false : (u : Bool) → (u && false) ≡ false
      and_false true = refl
      and_false false = refl

      go : (o : Option Declaration) → lookup name_of before d.name stand ≡ o → (alias d && (is_alias o && is_alias (lookup name_of before d.name n))) ≡ false
      go None p = and_false (alias d)
      go (Some f) p =
          let e : f.name ≡ d.name = lookup_key name_of by_name d.name stand f p in
          rw (rw e at (all_lookup name_of before (λ g. paired g ≡ false) d.name stand f h p)) (and_false (alias d))

  pub any_told : any told l ≡ any paired stand
  any_told =
      false_together _ _
      (λ e. none_any paired stand
      (owns stand (lookup_own name_of by_name stand (rising name_of by_name l)) (all_survivors name_of before (λ d. told d ≡ false) l (any_none told l e))))
      (λ e. none_any told l (all (listed_told (any_none paired stand e)) l))

-- ---- the entries of the old image that may stand, from a position on

unfoldable pub aliases_from : Declarations → Declarations → ℕ → Bool
aliases_from old new i = any (λ d. alias d && aliases_at old new d.name) (present (drop i (candidates old)))

module _ (old new : Declarations) where
  pub aliases_start : aliases_from old new 0 ≡ both_aliases old new
  unfolding aliases_from aliases_at both_aliases alias_pair view_with standing_with
  aliases_start =
      ap (any (λ d. alias d && aliases_at old new d.name)) (present_candidates old)
      ∙ any_told (listed (schema_in old.image).registry (marked_ids 0 old.reached.now ++ (schema_in old.image).ids)) (standing_of new)

  any_resolved : (o : Option Declaration) (ds : List Declaration)
      → any (λ d. alias d && aliases_at old new d.name) (resolved o ds) ≡ aliases_of old new o || any (λ d. alias d && aliases_at old new d.name) ds
  unfolding any resolved aliases_of
  any_resolved None ds = refl
  any_resolved (Some d) ds = refl

  module _ (i : ℕ) {x : Bool} (p : aliases_from old new i ≡ x) where
    pub aliases_done : length (candidates old) ≤ i → false ≡ x
    unfolding aliases_from present any
    aliases_done h = rw (drop_of_length-le (candidates old) h) at p

    module _ (h : i < length (candidates old)) {r : Option Decl} (v : Candidate old i r) {t : Bool} (q : t ≡ aliases_of old new (option_map decl_of r)) where
      turn : (t || aliases_from old new (i + 1)) ≡ x
      unfolding aliases_from present
      turn =
          rw (add-one, q)
          (sym (rw (drop-cons (candidates old) i None h, ← v.value) (any_resolved (option_map decl_of r) (present (drop (suc i) (candidates old))))) ∙ p)

      pub aliases_found : t ≡ true → true ≡ x
      aliases_found f = rw f at turn

      pub aliases_turn : t ≡ false → aliases_from old new (i + 1) ≡ x
      aliases_turn f = rw f at turn
