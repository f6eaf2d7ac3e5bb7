-- Either reading of "resolvable declarations" gives what is needed; and what has no repeats, filed anew, has none. Assumes nothing.
use mathlib.Core.Path.{◌≡◌, refl, sym, ap, ◌∙◌, subst}
use mathlib.Core.Logic.{◌⊎◌, inl, inr}
use Rattle.std.specs.Prelude.{Option, None, Some}
use Rattle.std.proofs.lemmas.Option.{same_Some, none-some}
use mathlib.Core.List.Memᴰ
use mathlib.Core.List.{List, [], ◌∷◌}
use Prim.Native.Nat.{ℕ, zero, suc}
use Rattle.maps.specs.Lists.{All}
use Rattle.maps.specs.Reordered.{Once}
use Rattle.maps.proofs.Lists.{all_map}
use Rattle.maps.proofs.Reorderings.{In, all_in, each_two, each_two_map, each_two_of, all_reordered, each_two_reordered, once_reordered}
use Rattle.image.specs.Schema.{Decl, Schema}
use Rattle.rules.specs.Survivors.{Registry, stands_for, resolved, listed, ordinal_of, variant_ordinal}
use Rattle.refiling.specs.Refiling.{Impls, NamesOnce, NumbersOnce, entries, NoRepeats, EntriesOnce, ListedOnce, Unresolvable, Resolvable, RefiledDecl, Renumbered, Refiled}
use Rattle.refiling.proofs.Clauses.{moved, impls_turn}
use Rattle.refiling.proofs.Standing.{listed_refiled}

-- ---- ids and entries

-- an entry is not empty
pub entry_resolvable : (R : Registry) (i : ℕ) (d : Decl) → stands_for R i ≡ Some d → Resolvable R i
unfolding Resolvable Unresolvable
entry_resolvable R i d p q = none-some d (sym q ∙ p)

-- what an id stands for is an entry
entry_in : (R : Registry) (i : ℕ) (d : Decl) → stands_for R i ≡ Some d → In d (entries R)
unfolding stands_for entries resolved
entry_in [] i d p = absurd (none-some d p)
entry_in (None ∷ R) zero d p = absurd (none-some d p)
entry_in (None ∷ R) (suc i) d p = entry_in R i d p
entry_in (Some e ∷ R) zero d p = Memᴰ.head (sym (same_Some e d p))
entry_in (Some e ∷ R) (suc i) d p = Memᴰ.tail (entry_in R i d p)

-- what holds of all that ids stand for holds of all entries
all_entries : (P : Decl → Type 0) (R : Registry) → ((i : ℕ) (d : Decl) → stands_for R i ≡ Some d → P d) → All P (entries R)
unfolding stands_for entries resolved All
all_entries P [] h = tt
all_entries P (None ∷ R) h = all_entries P R (λ i. h (suc i))
all_entries P (Some d ∷ R) h = (h 0 d refl, all_entries P R (λ i. h (suc i)))

listed_entries : (R : Registry) (ids : List ℕ) → All (λ d. In d (entries R)) (listed R ids)
unfolding listed resolved All
listed_entries R [] = tt
listed_entries R (i ∷ ids) = go (stands_for R i) refl (listed_entries R ids)
  where
    go : (o : Option Decl) → stands_for R i ≡ o → All (λ d. In d (entries R)) (listed R ids) → All (λ d. In d (entries R)) (resolved o (listed R ids))
    go None p h = h
    go (Some d) p h = (entry_in R i d p, h)

-- ---- what is needed

module _ (s : Schema) where
  numbers_listed : All NumbersOnce (entries s.registry) → All NumbersOnce (listed s.registry s.ids)
  numbers_listed h = all_map (λ d i. all_in NumbersOnce h i) (listed s.registry s.ids) (listed_entries s.registry s.ids)

  pub no_repeats_listed : NoRepeats s → ListedOnce s
  unfolding NamesOnce
  no_repeats_listed n = record {
    names = each_two_map (λ d e h k. inr (h k)) (listed s.registry s.ids) n.names;
    numbers = numbers_listed n.numbers;
  }

  pub entries_once_listed : EntriesOnce s → ListedOnce s
  unfolding NamesOnce Impls
  entries_once_listed n = record {
    names = each_two_of (λ d. In d (entries s.registry)) _ pair (listed s.registry s.ids) (listed_entries s.registry s.ids);
    numbers = numbers_listed n.numbers;
  }
    where
      pair : (d e : Decl) → In d (entries s.registry) → In e (entries s.registry) → d.name ≡ e.name → (d ≡ e) ⊎ Impls d e
      pair d e i j k = go (each_two (λ x y. x.name ≡ y.name → Impls x y) (λ x y h q. impls_turn x y (h (sym q))) n.names i j)
        where
          go : (d ≡ e) ⊎ (d.name ≡ e.name → Impls d e) → (d ≡ e) ⊎ Impls d e
          go (inl p) = inl p
          go (inr h) = inr (h k)

-- ---- filed anew

numbers_refiled : {R S : Registry} {to : ℕ → ℕ} {d e : Decl} → RefiledDecl R S to d e → NumbersOnce d → NumbersOnce e
numbers_refiled r n = record {
  fields = once_reordered ordinal_of ordinal_of (λ f g q. q.ordinal) r.fields n.fields;
  variants = once_reordered variant_ordinal variant_ordinal (λ v w q. q.ordinal) r.variants n.variants;
  variant_fields =
      all_reordered (λ v. Once ordinal_of v.fields) (λ v. Once ordinal_of v.fields)
      (λ v w q. once_reordered ordinal_of ordinal_of (λ f g x. x.ordinal) q.fields) r.variants n.variant_fields;
}

entries_refiled : {R S : Registry} {to from : ℕ → ℕ} → Renumbered R S to from → All NumbersOnce (entries R) → All NumbersOnce (entries S)
entries_refiled {R} {S} {to} {from} N h = all_entries NumbersOnce S once
  where
    once : (j : ℕ) (e : Decl) → stands_for S j ≡ Some e → NumbersOnce e
    once j e p =
        let b = N.back j (entry_resolvable S j e p) in
        let m = moved N (from j) b.0 in
        let q : m.after ≡ e = same_Some m.after e (sym m.stands ∙ (ap (stands_for S) b.1 ∙ p)) in
        subst NumbersOnce q (numbers_refiled m.anew (all_in NumbersOnce h (entry_in R (from j) m.before m.stood)))

pub no_repeats_refiled : (s t : Schema) → Refiled s t → NoRepeats s → NoRepeats t
unfolding NamesOnce Impls
no_repeats_refiled s t r n = record {
  names =
      each_two_reordered (λ a d. a.name ≡ d.name → Impls a d) (λ b c. b.name ≡ c.name → Impls b c)
      (λ b c h k. impls_turn b c (h (sym k))) pair (listed_refiled r.registry r.ids) n.names;
  numbers = entries_refiled r.registry n.numbers;
}
  where
    pair : (a d b c : Decl) → RefiledDecl s.registry t.registry r.to a b → RefiledDecl s.registry t.registry r.to d c
        → (a.name ≡ d.name → Impls a d) → b.name ≡ c.name → Impls b c
    pair a d b c p q h k = let i = h (cc) in (sym p.kind ∙ i.0, sym q.kind ∙ i.1)
