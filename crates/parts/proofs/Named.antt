-- The names of a run, one at a time; those of a namespace and of bits. Assumes nothing.
use Rattle.std.proofs.Common.{◌≡◌, ℕ, zero, suc, ◌-◌, ◌<◌, List, [], ◌∷◌, map, refl, sym, ap, ◌∙◌, arith}
use Rattle.image.specs.declared.tags.Tag.{Tag}
use Rattle.image.specs.declared.tags.Tag.TheVariants as tag
use Rattle.parts.specs.Numbers.{tag_number}
use Rattle.parts.specs.Promise.{Accepted, schema_of, NameHere, name_in, name_end, name_places, NamesIn, names_in, segments_in, LabelHere, label_in, bits_in}
use Rattle.parts.specs.declared.Run.{Run}
use Rattle.image.proofs.Laws.Apart.{same_tag}
use Rattle.parts.proofs.Laws.Places.{places_none as by_none, places_more as by_more}
use Rattle.parts.proofs.Laws.Skips.{names_first, names_rest}
use Rattle.parts.proofs.Laws.Contents.{segments_listed}
use Rattle.parts.proofs.Laws.Labels.{label_regular, bits_listed}

-- none, or the first and the others
module _ (s : List ℕ) (n : Run) where
  pub none_here : n.count ≡ 0 → NamesIn s n
  unfolding NamesIn
  none_here e = λ l. absurd (omega arith)

  pub names_none : n.count ≡ 0 → names_in s n ≡ []
  unfolding names_in name_places
  names_none e = rw (e, by_none (name_end s) n.start)

  module _ (e : n.count ≡ 0 → ⊥) where
    some : 0 < n.count
    some = go n.count e
      where
        go : (c : ℕ) → (c ≡ 0 → ⊥) → 0 < c
        go zero f = absurd (f refl)
        go (suc c) f = omega arith

    pub name_here : NamesIn s n → NameHere s n.start
    unfolding NamesIn
    name_here g = names_first s n.count n.start some (g some)

    module _ (m : Run) (d : m.count ≡ n.count - 1) (k : m.start ≡ name_end s n.start) where
      pub names_after : NamesIn s n → NamesIn s m
      unfolding NamesIn
      names_after g = λ _. rw (k, d) (names_rest s n.count n.start some (g some))

      pub names_more : names_in s n ≡ name_in s n.start ∷ names_in s m
      unfolding names_in name_places
      names_more = rw (k, d) (ap (map (name_in s)) (by_more (name_end s) n.count n.start some))

-- the namespace
module _ (s : List ℕ) (a : Accepted s) (r : Run) (e : r ≡ segments_in s) where
  pub segments_here : NamesIn s r
  unfolding NamesIn
  segments_here = rw e (λ _. (segments_listed s a).here)

  pub segments_are : names_in s r ≡ (schema_of s).namespace
  unfolding names_in
  segments_are = rw e (sym (segments_listed s a).are)

-- the names of bits; nothing else has any
module _ (s : List ℕ) (at : ℕ) (g : LabelHere s at) (x : Tag) (t : tag_number x ≡ (label_in s at).tag) (r : Run) where
  pub bits_here : x ≡ tag.Bits → r ≡ bits_in s at → NamesIn s r
  unfolding NamesIn
  bits_here b e = rw e (λ _. (bits_listed s at g (sym t ∙ ap tag_number b)).here)

  pub bits_are : x ≡ tag.Bits → r ≡ bits_in s at → names_in s r ≡ (label_in s at).names
  unfolding names_in
  bits_are b e = rw e (sym (bits_listed s at g (sym t ∙ ap tag_number b)).are)

  pub others_are : (x ≡ tag.Bits → ⊥) → r.count ≡ 0 → names_in s r ≡ (label_in s at).names
  others_are b z = names_none s r z ∙ sym ((label_regular s at g).names (λ k. b (same_tag x tag.Bits (t ∙ k))))

pub ruleset namespaces = (segments_here, segments_are)

pub ruleset label_names = (bits_here, bits_are, none_here)

pub ruleset stepping = (names_none, name_here, names_after, names_more)
