-- For examples: a renumbering shown entry by entry, and what is filed anew piece by piece. Assumes nothing.
use mathlib.Core.Path.{◌≡◌, refl, sym, ◌∙◌, subst}
use Rattle.std.specs.Prelude.{Option, None, Some}
use Rattle.std.proofs.lemmas.Option.{same_Some, none-some}
use mathlib.Core.List.{List, [], ◌∷◌}
use Prim.Native.Nat.{ℕ, zero, suc}
use native.Mathlib.Omega.{arith}
use Rattle.maps.specs.Reordered.{Reordered}
use Rattle.image.specs.Schema.{Name, unmarked, label, Ty, Field, Variant, Decl, decl, struck}
use Rattle.rules.specs.Survivors.{Registry, stands_for}
use Rattle.rules.specs.Edges.{named as named_type, primitive}
use Rattle.refiling.specs.Refiling.{RefiledId, renumbered, RefiledLabel, named, other, RefiledType, a_leaf, RefiledField, RefiledVariant, RefiledDecl, Renumbered}
use Rattle.refiling.proofs.Clauses.{by_entry}
use Rattle.refiling.proofs.Repeats.{entry_resolvable}

-- ---- entry by entry

-- P of the number and the declaration of each entry that is not empty; n numbers the entries
unfoldable pub Rows : (ℕ → Decl → Type 0) → Registry → (ℕ → ℕ) → Type 0
Rows P [] n = Unit {0}
Rows P (None ∷ R) n = Rows P R (λ k. n (suc k))
Rows P (Some d ∷ R) n = P (n 0) d × Rows P R (λ k. n (suc k))

row : (P : ℕ → Decl → Type 0) (R : Registry) (n : ℕ → ℕ) → Rows P R n → (i : ℕ) (d : Decl) → stands_for R i ≡ Some d → P (n i) d
unfolding Rows stands_for
row P [] n h i d p = absurd (none-some d p)
row P (None ∷ R) n h zero d p = absurd (none-some d p)
row P (None ∷ R) n h (suc i) d p = row P R (λ k. n (suc k)) h i d p
row P (Some e ∷ R) n h zero d p = subst (P (n 0)) (same_Some e d p) h.0
row P (Some e ∷ R) n h (suc i) d p = row P R (λ k. n (suc k)) h.1 i d p

module _ (R S : Registry) (to from : ℕ → ℕ) where
  -- what is shown of an entry of R, and of one of S
  abbrev pub There : ℕ → Decl → Type 0
  There i d = (e : Decl) × (stands_for S (to i) ≡ Some e) × (from (to i) ≡ i) × RefiledDecl R S to d e

  abbrev pub Back : ℕ → Decl → Type 0
  Back j e = (d : Decl) × (stands_for R (from j) ≡ Some d) × (to (from j) ≡ j)

  pub renumbered_by : Rows There R (λ i. i) → Rows Back S (λ j. j) → Renumbered R S to from
  renumbered_by there back = record {
    there = λ i r. by_entry R i r (λ d p. let w = row There R (λ k. k) there i d p in (entry_resolvable S (to i) w.0 w.1, w.2));
    back = λ j r. by_entry S j r (λ e p. let w = row Back S (λ k. k) back j e p in (entry_resolvable R (from j) w.0 w.1, w.2));
    entry = λ i d e p q.
        let w = row There R (λ k. k) there i d p in
        subst (RefiledDecl R S to d) (same_Some w.0 e (sym w.1 ∙ q)) w.3;
  }

-- ---- piece by piece

abbrev pub plain_field : ℕ → Name → Ty → Field
plain_field ordinal name t =
    record { ordinal = ordinal; name = name; marks = unmarked; encoding = record { deltas = 0; base = 0 }; limit = None; type = t }

-- with the numbers that it strikes off
abbrev pub item : ℕ → Name → List Field → List ℕ → Variant
item ordinal name fs tombstones = record { ordinal = ordinal; name = name; fields = fs; tombstones = tombstones }

module _ {R S : Registry} {to : ℕ → ℕ} where
  -- an id that has an entry, by its new number
  pub moved_id : (i : ℕ) {d : Decl} → stands_for R i ≡ Some d → RefiledId R S to i (to i)
  moved_id i {d} p = renumbered (entry_resolvable R i d p) refl

  -- a node of another tag than 3
  pub stays : (tag code : ℕ) (names : List Name) → (tag ≡ 3 → ⊥) → RefiledLabel R S to (label tag code 0 names) (label tag code 0 names)
  stays tag code names n = other n refl

  pub primitive_anew : (code : ℕ) → RefiledType R S to (primitive code) (primitive code)
  primitive_anew code = a_leaf (stays 0 code [] (λ e. omega arith))

  pub named_anew : {i j : ℕ} → RefiledId R S to i j → RefiledType R S to (named_type i) (named_type j)
  named_anew r = a_leaf (named r)

  pub field_anew : (ordinal : ℕ) (name : Name) {t u : Ty} → RefiledType R S to t u → RefiledField R S to (plain_field ordinal name t) (plain_field ordinal name u)
  field_anew ordinal name r = record { ordinal = refl; name = refl; marks = refl; encoding = refl; limit = refl; type = r }

  pub item_anew : (ordinal : ℕ) (name : Name) {fs gs : List Field} {a b : List ℕ} → Reordered (RefiledField R S to) fs gs
      → RefiledVariant R S to (item ordinal name fs a) (item ordinal name gs b)
  item_anew ordinal name r = record { ordinal = refl; name = refl; fields = r }

  pub decl_anew : (k : ℕ) (n : Name) {w x : Option ℕ} {fs gs : List Field} {vs ws : List Variant} {t u : Ty} {a b : List ℕ}
      → Reordered (RefiledField R S to) fs gs → Reordered (RefiledVariant R S to) vs ws → RefiledType R S to t u
      → RefiledDecl R S to (struck (decl k n unmarked w fs vs t) a) (struck (decl k n unmarked x gs ws u) b)
  decl_anew k n r s q = record { kind = refl; name = refl; marks = refl; fields = r; variants = s; inner = q }
