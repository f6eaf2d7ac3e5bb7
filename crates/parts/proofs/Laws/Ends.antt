-- Where a type ends, by how many inner types its root has: they stand one after the other, and the last one ends it. Assumes nothing.
use mathlib.Core.Path.{◌≡◌, refl, sym, ◌∙◌}
use mathlib.Core.List.{List}
use Prim.Native.Nat.{ℕ, zero, suc, ◌-◌, ◌≤◌}
use native.Mathlib.Nat.{le_of_eq}
use native.Mathlib.Omega.{arith}
use Rattle.image.specs.Schema.{no_type}
use Rattle.image.specs.Types.{inner_types, type_at}
use Rattle.image.specs.Parse.{many}
use Rattle.image.specs.WellFormed.{Good, end_of}
use Rattle.image.proofs.Laws.Types.{inner_most}
use Rattle.parts.specs.Promise.{label_in, label_end, TypeHere, type_end}
use Rattle.parts.proofs.Laws.Places.{many_turn}
use Rattle.parts.proofs.Laws.Labels.{label_there}
use Rattle.parts.proofs.Laws.Trees.{type_whole, type_label, type_first, type_second}
use Rattle.parts.proofs.Laws.Skips.{node_inner, types_start, types_done}

module _ (s : List ℕ) (at left : ℕ) (h : TypeHere left s at) where
  inner : Good (many type_at (inner_types (label_in s at).tag) s (label_end s at))
      × (end_of (many type_at (inner_types (label_in s at).tag) s (label_end s at)) ≡ type_end s at)
  inner = let l = label_there s at (type_label s at left h) in node_inner s at (type_whole s at left h) (omega arith)

  pub end_leaf : inner_types (label_in s at).tag ≡ 0 → type_end s at ≡ label_end s at
  end_leaf e = sym inner.1 ∙ types_done s _ _ (le_of_eq e)

  pub end_one : inner_types (label_in s at).tag ≡ 1 → type_end s at ≡ type_end s (label_end s at)
  end_one e =
      let n = label_end s at in
      let f = type_first s at left h (λ z. absurd (omega (arith, e, z))) in
      sym (rw e at inner.1) ∙ (types_start s n (type_whole s n (left - 1) f)).1

  pub end_two : (inner_types (label_in s at).tag ≡ 0 → ⊥) → (inner_types (label_in s at).tag ≡ 1 → ⊥) → type_end s at ≡ type_end s (type_end s (label_end s at))
  end_two f g =
      let u = inner_most (label_in s at).tag in
      let z : inner_types (label_in s at).tag ≡ 2 = two_of _ u f g in
      let both = (rw z at inner) in
      let n = label_end s at in
      let m = type_end s n in
      let one = types_start s n (type_whole s n (left - 1) (type_first s at left h f)) in
      let past = sym (types_done s 0 _ (omega arith)) ∙ (many_turn no_type _ s 1 n _ (omega arith) one.0 refl).1 ∙ one.1 in
      let rest = many_turn no_type _ s 2 n m (omega arith) both.0 (sym past) in
      sym both.1 ∙ sym rest.1 ∙ (types_start s m (type_whole s m (left - 1) (type_second s at left h f g))).1
    where
      two_of : (k : ℕ) → k ≤ 2 → (k ≡ 0 → ⊥) → (k ≡ 1 → ⊥) → k ≡ 2
      two_of zero l a b = absurd (a refl)
      two_of (suc zero) l a b = absurd (b refl)
      two_of (suc (suc k)) l a b = omega arith
