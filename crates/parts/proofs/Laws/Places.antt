-- So many of a kind, one after the other, by their places. Assumes nothing.
use mathlib.Core.Path.{◌≡◌, refl, sym, ap, ◌∙◌}
use mathlib.Core.List.{List, [], ◌∷◌, map}
use Prim.Native.Nat.{ℕ, zero, suc, ◌+◌, ◌-◌, ◌≤◌, ◌<◌}
use native.Mathlib.Omega.{arith}
use native.Mathlib.Numerals.{sub-one}
use Rattle.image.specs.Parse.{Parsed, ok, no, bind, many}
use Rattle.image.specs.WellFormed.{Good, value_or, end_of}
use Rattle.image.proofs.Laws.Good.{bind_is, many_first, many_rest, many_are, many_end}
use Rattle.parts.specs.Promise.{places_by}

-- what is made of a good value is good and ends there
made : {A B : Type 0} (q : Parsed A) (f : A → B) → Good q → Good (bind q (λ a n. ok (f a) n)) × (end_of (bind q (λ a n. ok (f a) n)) ≡ end_of q)
unfolding Good bind end_of
made (ok a n) f g = (tt, refl)
made (no k) f g = absurd g

-- none, or the first and the others
module _ (end : ℕ → ℕ) where
  pub places_none : (at : ℕ) → places_by end 0 at ≡ []
  unfolding places_by
  places_none at = refl

  pub places_more : (c at : ℕ) → 0 < c → places_by end c at ≡ at ∷ places_by end (c - 1) (end at)
  unfolding places_by
  places_more zero at h = absurd (omega arith)
  places_more (suc c) at h = rw sub-one

module _ {A : Type 0} (d : A) (p : List ℕ → ℕ → Parsed A) (s : List ℕ) where
  pub many_none : (at : ℕ) → many p 0 s at ≡ ok [] at
  unfolding many
  many_none at = refl

  -- the values of good ones are those at their places
  pub many_places : (c at : ℕ) → Good (many p c s at) → value_or [] (many p c s at) ≡ map (λ q. value_or d (p s q)) (places_by (λ q. end_of (p s q)) c at)
  unfolding places_by value_or
  many_places zero at g = ap (value_or []) (many_none at)
  many_places (suc c) at g =
      let h : 0 < suc c = omega arith in
      many_are d p (suc c) s at h g
      ∙ ap (λ (l : List A). value_or d (p s at) ∷ l) (rw sub-one (many_places c (end_of (p s at)) (rw sub-one at (many_rest d p (suc c) s at h g))))

  -- a good one before others
  pub many_make : (c at : ℕ) → Good (p s at) → Good (many p c s (end_of (p s at)))
      → Good (many p (suc c) s at) × (end_of (many p (suc c) s at) ≡ end_of (many p c s (end_of (p s at))))
  unfolding many
  many_make c at b g =
      let e = bind_is d (p s at) (λ x n. bind (many p c s n) (λ xs m. ok (x ∷ xs) m)) b in
      let q = made (many p c s (end_of (p s at))) (λ xs. value_or d (p s at) ∷ xs) g in
      (rw e q.0, rw e q.1)

  -- some, and others after them
  pub many_append : (i c at : ℕ) → Good (many p i s at) → Good (many p c s (end_of (many p i s at)))
      → Good (many p (i + c) s at) × (end_of (many p (i + c) s at) ≡ end_of (many p c s (end_of (many p i s at))))
  unfolding end_of
  many_append zero c at g h =
      let z : 0 + c ≡ c = omega arith in
      let e = ap end_of (many_none at) in
      rw (z, e) (rw e at h, refl)
  many_append (suc i) c at g h =
      let z : suc i + c ≡ suc (i + c) = omega arith in
      let l : 0 < suc i = omega arith in
      let e : end_of (many p (suc i) s at) ≡ end_of (many p i s (end_of (p s at))) = rw sub-one at (many_end d p (suc i) s at l g) in
      let q = many_append i c (end_of (p s at)) (rw sub-one at (many_rest d p (suc i) s at l g)) (rw e at h) in
      let r = many_make (i + c) at (many_first d p (suc i) s at l g) q.0 in
      rw (z, e) (r.0, r.1 ∙ q.1)

  -- a loop passes one of them
  pub many_turn : (c at n : ℕ) → 0 < c → Good (many p c s at) → n ≡ end_of (p s at) → Good (many p (c - 1) s n) × (end_of (many p (c - 1) s n) ≡ end_of (many p c s at))
  many_turn c at n l g e = rw e (many_rest d p c s at l g, sym (many_end d p c s at l g))

  pub many_done : (c at : ℕ) → c ≤ 0 → end_of (many p c s at) ≡ at
  unfolding end_of
  many_done c at l =
      let z : c ≡ 0 = omega arith in
      rw (z, many_none at)
