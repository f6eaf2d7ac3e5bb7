-- The names of a run, one at a time, as they are compared with those of another run; and those of a namespace. Assumes nothing.
use Rattle.std.proofs.Common.{◌≡◌, refl, sym, ap, ◌∙◌, Bool, true, false, ◌&&◌, List, [], ◌∷◌, ◌++◌, map, Bor}
use Rattle.std.specs.Iterator.{Yields, YieldsFirstBy}
use Rattle.std.specs.List.{AllZip}
use Rattle.std.specs.Option.{MatchOption}
use Rattle.std.specs.Prelude.{Option, None, Some, IfSome}
use lib.Dec.{eqb}
use lib.Pointwise.{pointwise}
use Rattle.image.specs.Schema.{Name}
use Rattle.parts.specs.Handles.{names_of}
use Rattle.parts.specs.declared.handles.Names.{Names}
use Rattle.rules.specs.Equal.{same_list, same_name, same_names, Sound}

abbrev now : Bor Name → Name
now x = x.now

-- a sound test says no of different things
pub apart : {A : Type 0} {same : A → A → Bool} {odd : A → Bool} → Sound same odd → (a b : A) → (a ≡ b → ⊥) → same a b ≡ false
apart {same = same} S a b d = go (same a b) refl
  where
    go : (t : Bool) → same a b ≡ t → t ≡ false
    go true e = absurd (d (S.equal a b e))
    go false e = refl

-- std's equality of slices is that of names
pub bytes : (a b : Name) → pointwise eqb a b ≡ same_name a b
unfolding same_name same_list
bytes [] [] = refl
bytes [] (y ∷ b) = refl
bytes (x ∷ a) [] = refl
bytes (x ∷ a) (y ∷ b) = ap (λ (t : Bool). eqb x y && t) (bytes a b)

-- ---- two lists of names that are given in turn

-- what is given stands in front of what is left
gives : (xs : List (Bor Name)) (s t : Names) → Yields (YieldsFirstBy now names_of) s xs t → names_of s ≡ map now xs ++ names_of t
gives [] s t y = ap names_of y
gives (x ∷ xs) s t (j, f, y) = f ∙ ap (λ (l : List Name). x.now ∷ l) (gives xs j t y)

-- equal ones in front change nothing
fronts : (xs ys : List (Bor Name)) (a b : List Name) → AllZip (λ x y. pointwise eqb x.now y.now ≡ true) xs ys
    → same_names (map now xs ++ a) (map now ys ++ b) ≡ same_names a b
unfolding same_names same_list
fronts [] [] a b z = refl
fronts [] (y ∷ ys) a b z = absurd z
fronts (x ∷ xs) [] a b z = absurd z
fronts (x ∷ xs) (y ∷ ys) a b z = rw (← bytes x.now y.now, z.0) (fronts xs ys a b z.1)

-- what std's `eq` of two of them answers, by the pairs that it saw and how it ended
abbrev steps : Names → Option (Bor Name) → Names → Type 0
steps = YieldsFirstBy now names_of

abbrev ends : Bool → Option (Bor Name) → Option (Bor Name) → Type 0
ends r o p = MatchOption o (MatchOption p (r ≡ true) (λ _. r ≡ false)) (λ x. (r ≡ false) × IfSome p (λ y. pointwise eqb x.now y.now ≡ false))

left_same : (o p : Option (Bor Name)) (s t u v : Names) (r : Bool) → steps s o u → steps t p v → ends r o p → r ≡ same_names (names_of s) (names_of t)
unfolding same_names same_list
left_same None None s t u v r a b e = e ∙ rw (a.0, b.0)
left_same None (Some y) s t u v r a b e = e ∙ rw (a.0, b)
left_same (Some x) None s t u v r a b e = e.0 ∙ rw (a, b.0)
left_same (Some x) (Some y) s t u v r a b e = e.0 ∙ rw (a, b, ← bytes x.now y.now, e.1)

pub lists_same : (xs ys : List (Bor Name)) (o p : Option (Bor Name)) (s t s' t' u v : Names) (r : Bool)
    → Yields steps s xs s' → steps s' o u → Yields steps t ys t' → steps t' p v
    → AllZip (λ x y. pointwise eqb x.now y.now ≡ true) xs ys → ends r o p → r ≡ same_names (names_of s) (names_of t)
lists_same xs ys o p s t s' t' u v r a b c d z e =
    left_same o p s' t' u v r b d e
    ∙ sym (fronts xs ys (names_of s') (names_of t') z)
    ∙ rw (gives xs s s' a, gives ys t t' c)
