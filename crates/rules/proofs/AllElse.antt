-- All that the mended verdict tells besides types and the kinds of its own is what the verdict of document 01 tells. Assumes nothing.
use mathlib.Core.Path.{◌≡◌, refl, sym, ap, ◌∙◌}
use mathlib.Core.Bool.{Bool, true, false, not, ◌||◌}
use mathlib.Core.List.{List, []}
use Prim.Native.Nat.{ℕ, ◌+◌, ◌≤◌, ◌<◌}
use native.Mathlib.Omega.{arith}
use lib.Dec.{eqb}
use Rattle.maps.specs.Lists.{total, count, All, any, among}
use Rattle.maps.proofs.Lists.{all_map, count_append}
use Rattle.maps.proofs.Tests.{no_both}
use Rattle.image.specs.Schema.{Ty}
use Rattle.rules.specs.Survivors.{View, view_of}
use Rattle.rules.specs.Changes.{Change, only, kind_at, kind_count, FieldTypeChanged}
use Rattle.rules.specs.Clauses.{changes}
use Rattle.rules.specs.Types.{same_type}
use Rattle.rules.specs.Verdict.{count_of}
use Rattle.rules.specs.Outcome.{selected, select}
use Rattle.rules.specs.Answer.{plain_reading, plain, verdict_by, verdict_of}
use Rattle.rules.specs.Refusals.{Passes, verdict}
use Rattle.rules.specs.Distance.{Image, Verdict, count_between}
use Rattle.rules.specs.Mended.{read_as, mended_type, mended_reading, mended, mended_kinds}
use Rattle.rules.specs.AllElse.{own_kinds, ByClauses, SameCounts, AllElse}
use Rattle.image.specs.Image.{read_image}
use Rattle.rules.proofs.Answer.{schema_of, changes_of, compared_of, count_selected, settled, decides, plain_numbered}
use Rattle.rules.proofs.Unreported.{only_all, none_counted, Ordinary, adds_ordinary, Of, Other}
use Rattle.rules.proofs.Otherwise.{Alike, alike_joins, gone_alike, count_without, clauses_left}
use Rattle.rules.proofs.Related.{Joins, Together, changes_together}
use Rattle.rules.proofs.Mended.{three_answers, mended_adds, mended_unclaused}
use Rattle.rules.proofs.MendedRefusals.{mended_numbered, unmixed_checks, faultless_unmixed}

-- ---- the mended reading

-- besides types, and its own kinds, that of the verdict of document 01
own : (c : Change) → Of mended_kinds c → Of own_kinds c
unfolding among any
own c h = go (eqb c.kind (kind_at FieldTypeChanged)) h
  where
    go : (b : Bool) → Of mended_kinds c → (b || among c.kind mended_kinds) ≡ true
    go true h = refl
    go false h = h

types_alike : (a b : Bool) (c : Change) → c.kind ≡ kind_at FieldTypeChanged → Alike own_kinds (only a c) (only b c)
unfolding among any
types_alike a b c e = gone_alike own_kinds (only a c) (only b c) (only_all (Of own_kinds) a c (rw e refl)) (only_all (Of own_kinds) b c (rw e refl))

plain_together : Together (Alike own_kinds) mended_reading plain_reading
unfolding All
plain_together = record {
  types = λ t u c e. types_alike (not (mended_type t u)) (not (same_type t u)) c e;
  first = λ x y. gone_alike own_kinds _ [] (all_map own _ (mended_adds.first x y)) tt;
  last = λ x y. gone_alike own_kinds _ [] (all_map own _ (mended_adds.last x y)) tt;
  last_in = λ d v w. gone_alike own_kinds _ [] (all_map own _ (mended_adds.last_in d v w)) tt;
}

by_clauses : (x y : View) → ByClauses x y
by_clauses x y = record {
  clauses = clauses_left mended_kinds mended_unclaused mended_reading mended_adds x y;
  plain = changes_together (Alike own_kinds) (alike_joins own_kinds) mended_reading plain_reading plain_together x y;
}

-- ---- types that changed

-- of a kind no more in the first list than in the second
abbrev Fewer : ℕ → List Change → List Change → Type 0
Fewer j cs ds = count_of j cs ≤ count_of j ds

fewer_joins : (j : ℕ) → Joins (Fewer j)
unfolding count_of
fewer_joins j = record {
  same = λ cs. omega arith;
  both = λ a b c d p q. omega (arith, count_append (λ c. eqb c.kind j) a c, count_append (λ c. eqb c.kind j) b d, p, q);
}

none_fewer : (j : ℕ) (cs : List Change) → All (Other j) cs → Fewer j cs []
none_fewer j cs h = omega (arith, none_counted j cs h)

none_less : (j : ℕ) (cs : List Change) → Fewer j [] cs
unfolding count_of count total
none_less j cs = omega arith

-- what is equal by document 01 is read as equal
equal_read : (t u : Ty) → same_type t u ≡ true → mended_type t u ≡ true
unfolding mended_type read_as
equal_read t u e = ap (read_as true) (((three_answers t u).first).1 e)

types_together : Together (Fewer (kind_at FieldTypeChanged)) mended_reading plain_reading
unfolding among any only
types_together = record {
  types = λ t u c e. go t u c (mended_type t u) (same_type t u) refl refl (equal_read t u);
  first = λ x y. none_fewer _ _ (o.first x y);
  last = λ x y. none_fewer _ _ (o.last x y);
  last_in = λ d v w. none_fewer _ _ (o.last_in d v w);
}
  where
    o : Ordinary (kind_at FieldTypeChanged) mended_reading
    o = adds_ordinary mended_adds (kind_at FieldTypeChanged) refl

    go : (t u : Ty) (c : Change) (a b : Bool) → mended_type t u ≡ a → same_type t u ≡ b → (same_type t u ≡ true → mended_type t u ≡ true)
        → Fewer (kind_at FieldTypeChanged) (only (not a) c) (only (not b) c)
    go t u c true b p q h = none_less (kind_at FieldTypeChanged) (only (not b) c)
    go t u c false true p q h = no_both (h q) p
    go t u c false false p q h = omega arith

-- ---- images

module _ (old new : Image) (v : Verdict (verdict_by mended) old new) where
  plain_verdict : Verdict verdict_of old new
  unfolding Verdict verdict_by select selected
  plain_verdict =
      let t = settled mended mended_numbered old new v in
      let f = sym (unmixed_checks t.old_schema t.new_schema (faultless_unmixed t.old_schema t.new_schema t.faultless)) ∙ t.faultless in
      let a : Passes plain old t.old_schema = record { end = t.old.end; read = t.old.read; alone = refl } in
      let b : Passes plain new t.new_schema = record { end = t.new.end; read = t.new.read; alone = refl } in
      ap (λ o. select o 0) (decides plain old new (verdict a b f))

  -- both tell of the changes of the same two schemas
  told_by : (kind : ℕ) → kind < kind_count
      → (count_between (verdict_by mended) kind old new ≡ count_of kind (changes_of mended old new))
      × (count_between verdict_of kind old new ≡ count_of kind (changes_of plain old new))
  unfolding Verdict count_between verdict_by
  told_by kind h = (
    ap (λ o. select o (5 + kind)) (compared_of mended mended_numbered old new v) ∙ count_selected kind h (changes_of mended old new),
    ap (λ o. select o (5 + kind)) (compared_of plain plain_numbered old new plain_verdict) ∙ count_selected kind h (changes_of plain old new),
  )

  same_counts : SameCounts old new
  unfolding changes_of
  same_counts = record {
    verdict = plain_verdict;
    others = λ kind h e.
        let t = told_by kind h in
        let x = view_of (schema_of (read_image old)) in
        let y = view_of (schema_of (read_image new)) in
        t.0
        ∙ sym (count_without own_kinds kind e (changes mended_reading x y))
        ∙ ap (count_of kind) (by_clauses x y).plain
        ∙ count_without own_kinds kind e (changes plain_reading x y)
        ∙ sym t.1;
    types =
        let t = told_by (kind_at FieldTypeChanged) (omega arith) in
        let x = view_of (schema_of (read_image old)) in
        let y = view_of (schema_of (read_image new)) in
        let h = changes_together (Fewer (kind_at FieldTypeChanged)) (fewer_joins _) mended_reading plain_reading types_together x y in
        omega (arith, t.0, t.1, h);
  }

pub all_else : AllElse
all_else = record { schemas = by_clauses; images = same_counts }
