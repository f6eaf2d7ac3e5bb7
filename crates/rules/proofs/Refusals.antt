-- When two images get a verdict and when each refusal, exactly as specs/Refusals says. Assumes nothing.
use mathlib.Core.Path.{◌≡◌, refl, sym, ap, ◌∙◌}
use mathlib.Core.Bool.{Bool, true, false, ◌&&◌}
use Rattle.std.specs.Prelude.{Option, None, Some}
use Rattle.std.proofs.lemmas.Option.{none-some}
use mathlib.Core.List.{List}
use mathlib.Core.Logic.{◌↔◌}
use Prim.Native.Nat.{ℕ, ◌≤◌, ◌<◌}
use native.Mathlib.Omega.{arith}
use lib.Dec.{eqb}
use borrow.Author.Tests.{eqb-true, eqb-false, eq-eqb}
use Rattle.maps.specs.Keyed.{lookup}
use Rattle.maps.specs.Orders.{before}
use Rattle.maps.specs.Walk.{Rising}
use Rattle.maps.proofs.Names.{by_name}
use Rattle.maps.proofs.Survivors.{all_lookup, lookup_key, lookup_own}
use Rattle.maps.proofs.Reorderings.{In, all_in, all_listed}
use Rattle.maps.proofs.Any.{any_in, any_found}
use Rattle.image.specs.Schema.{Name, Decl, Schema}
use Rattle.image.specs.Parse.{ok, no}
use Rattle.image.specs.Image.{read_image}
use Rattle.refusals.proofs.Refusals.{only_ten}
use Rattle.maps.proofs.Tests.{no_both, both}
use Rattle.rules.specs.Survivors.{name_of, View}
use Rattle.rules.specs.Clauses.{Reading, changes}
use Rattle.rules.specs.Verdict.{alias, is_alias, alias_pair}
use Rattle.rules.specs.Outcome.{Outcome, selected, select}
use Rattle.image.specs.Codes.{number, both_sides}
use Rattle.rules.specs.Answer.{Fault, fault, Policy, compared, first_fault, outcome, verdict_by, report_by, usual}
use Rattle.rules.specs.Refusals.{Passes, Decided, old_refused, old_alone, new_refused, new_alone, pair_refused, verdict, Numbered, PolicyRefusals, ReportRefusals, AcceptedPair, NewRefused, Sided, Alias, AliasPair, VerdictRefusals}
use Rattle.rules.proofs.Outcomes.{not_answered, nothing_told, nothing_written, fit_full, fit_filled, fit_else}
use Rattle.rules.proofs.Answer.{decided, decides, exactly, usual_fault, alias_fault_lem, usual_numbered}

-- ---- the test of a pair of aliases

-- what is found is an alias
found_alias : (n : Name) (l : List Decl) → is_alias (lookup name_of before n l) ≡ true
    → (d : Decl) × (lookup name_of before n l ≡ Some d) × (d.kind ≡ 6)
unfolding is_alias alias
found_alias n l = go (lookup name_of before n l) refl
  where
    go : (o : Option Decl) → lookup name_of before n l ≡ o → is_alias o ≡ true
        → (d : Decl) × (lookup name_of before n l ≡ Some d) × (d.kind ≡ 6)
    go None p e = no_both refl (sym e)
    go (Some d) p e = (d, p, eqb-true d.kind 6 e)

module _ (view : Schema → View) (rise : (s : Schema) → Rising name_of before (view s).standing) (x y : Schema) where
  pub pair_found : alias_pair (view x) (view y) ≡ true → AliasPair view x y
  unfolding alias_pair alias
  pair_found e =
      let own = lookup_own name_of by_name (view x).standing (rise x) in
      let t = any_found (λ d. alias d && is_alias (lookup name_of before d.name (view y).standing)) (view x).standing e in
      let b = both (alias t.0) (is_alias (lookup name_of before t.0.name (view y).standing)) t.2 in
      let f = found_alias t.0.name (view y).standing b.1 in
      record {
        name = t.0.name;
        in_old = record { decl = t.0; stands = all_in _ own t.1; generic = eqb-true t.0.kind 6 b.0 };
        in_new = record { decl = f.0; stands = f.1; generic = f.2 };
      }

  pub pair_given : AliasPair view x y → alias_pair (view x) (view y) ≡ true
  unfolding alias_pair alias is_alias
  pair_given a =
      any_in test (all_lookup name_of before (λ d. In d (view x).standing) a.name (view x).standing old.decl (all_listed (view x).standing) old.stands) passes
    where
      old : Alias view a.name x
      old = a.in_old

      test : Decl → Bool
      test d = alias d && is_alias (lookup name_of before d.name (view y).standing)

      passes : test old.decl ≡ true
      passes =
          rw (
            eq-eqb old.decl.kind 6 old.generic,
            lookup_key name_of by_name a.name (view x).standing old.decl
                old.stands,
            a.in_new.stands,
          )
          (eq-eqb a.in_new.decl.kind 6 a.in_new.generic)

-- ---- of any verdict

module _ (p : Policy) (numbered : Numbered p) (old new : List ℕ) where
  no_side_lem : {o : Outcome} → Decided p old new o → select o 0 ≡ 0 → select o 1 ≡ 0
  unfolding select selected
  no_side_lem (old_refused l q) z = absurd (omega arith)
  no_side_lem (old_alone q e) z = absurd ((numbered.alone _ _ e).0 z)
  no_side_lem (new_refused a l q) z = absurd (omega arith)
  no_side_lem (new_alone a q e) z = absurd ((numbered.alone _ _ e).0 z)
  no_side_lem (pair_refused a b e) z = absurd ((numbered.pair _ _ _ e).0 z)
  no_side_lem (verdict a b e) z = refl

  pub policy_refusals : PolicyRefusals p old new
  unfolding verdict_by
  policy_refusals = record {
    exactly = exactly p old new;
    no_side = no_side_lem (decided p old new);
    refusal = not_answered (outcome p old new);
  }

  -- 12 is the report's
  not_full : {o : Outcome} → Decided p old new o → select o 0 ≡ 12 → ⊥
  unfolding select selected
  not_full (old_refused l q) z = absurd (omega arith)
  not_full (old_alone q e) z = (numbered.alone _ _ e).1 z
  not_full (new_refused a l q) z = absurd (omega arith)
  not_full (new_alone a q e) z = (numbered.alone _ _ e).1 z
  not_full (pair_refused a b e) z = (numbered.pair _ _ _ e).1 z
  not_full (verdict a b e) z = absurd (omega arith)

  pub report_refusals : (room : ℕ) → ReportRefusals p old new room
  unfolding verdict_by report_by select selected
  report_refusals room =
      let o = outcome p old new in
      let n = not_full (decided p old new) in
      record {
        full = (λ z. (fit_full (number both_sides) room o n z).1, fit_filled (number both_sides) room o);
        both_sides = λ z. ap (λ u. select u 1) (fit_full (number both_sides) room o n z).0;
        fits = λ h k. ap (λ u. select u k) (fit_else (number both_sides) room o h);
        refusal = not_answered (report_by p old new room);
        nothing = nothing_told (report_by p old new room);
        untouched = nothing_written (report_by p old new room);
      }

-- ---- of a verdict that refuses no image alone, and two accepted images by numbers that are beyond those of one image

-- both images are accepted, by what they hold, and whatever holds of that
pub read_pair : {old new : List ℕ} {P : Schema → Schema → Type 0} {x y : Schema} {m n : ℕ} → read_image old ≡ ok x m → read_image new ≡ ok y n → P x y
    → AcceptedPair old new P
read_pair {x = x} {y = y} {m = m} {n = n} p q h =
    record { old_schema = x; new_schema = y; old_end = m; new_end = n; old_read = p; new_read = q; holds = h }

accepted_so : {old new : List ℕ} {P Q : Schema → Schema → Type 0} → ((x y : Schema) → P x y → Q x y) → AcceptedPair old new P → AcceptedPair old new Q
accepted_so f a = read_pair a.old_read a.new_read (f a.old_schema a.new_schema a.holds)

pub accepted_exactly : {A : Type 0} {old new : List ℕ} {P Q : Schema → Schema → Type 0} → (A ↔ AcceptedPair old new P)
    → ((x y : Schema) → P x y ↔ Q x y) → A ↔ AcceptedPair old new Q
accepted_exactly e f = (λ a. accepted_so (λ x y. (f x y).0) (e.0 a), λ b. e.1 (accepted_so (λ x y. (f x y).1) b))

-- no image is refused alone, and a pair by a number over 10 with both sides
pub record Paired (p : Policy) : Type 0 where
  pub alone : (x : Schema) → p.alone x ≡ None
  pub beyond : (x y : Schema) (f : Fault) → first_fault p.pair x y ≡ Some f → 10 < f.number
  pub sides : (x y : Schema) (f : Fault) → first_fault p.pair x y ≡ Some f → f.side ≡ number both_sides

-- the pair has no fault, and one with such a number
abbrev pub Faultless : Policy → Schema → Schema → Type 0
Faultless p x y = first_fault p.pair x y ≡ None

abbrev pub Faulty : Policy → ℕ → Schema → Schema → Type 0
Faulty p n x y = (f : Fault) × (first_fault p.pair x y ≡ Some f) × (f.number ≡ n)

module _ (p : Policy) (paired : Paired p) (old new : List ℕ) where
  abbrev Of : Outcome → Type 0
  Of = Decided p old new

  abbrev result : Outcome
  result = outcome p old new

  none_alone : {A : Type 0} {x : Schema} {k : ℕ} → p.alone x ≡ Some k → A
  none_alone {x = x} {k = k} e = absurd (none-some k (sym (paired.alone x) ∙ e))

  passes : (image : List ℕ) (x : Schema) (end : ℕ) → read_image image ≡ ok x end → Passes p image x
  passes image x end e = record { end = end; read = e; alone = paired.alone x }

  both_read : {P : Schema → Schema → Type 0} {x y : Schema} → Passes p old x → Passes p new y → P x y → AcceptedPair old new P
  both_read a b h = read_pair a.read b.read h

  module _ {P : Schema → Schema → Type 0} (a : AcceptedPair old new P) where
    old_passes : Passes p old a.old_schema
    old_passes = passes old a.old_schema a.old_end a.old_read

    new_passes : Passes p new a.new_schema
    new_passes = passes new a.new_schema a.new_end a.new_read

  -- ---- 0

  verdict_only : {o : Outcome} → Of o → select o 0 ≡ 0 → AcceptedPair old new (Faultless p)
  unfolding select selected
  verdict_only (old_refused l q) z = absurd (omega arith)
  verdict_only (old_alone q e) z = none_alone e
  verdict_only (new_refused a l q) z = absurd (omega arith)
  verdict_only (new_alone a q e) z = none_alone e
  verdict_only (pair_refused a b e) z = absurd (omega (arith, paired.beyond _ _ _ e))
  verdict_only (verdict a b e) z = both_read a b e

  -- two images that get a verdict get that of the clauses
  pub faultless_told : {P : Schema → Schema → Type 0} (a : AcceptedPair old new P) → Faultless p a.old_schema a.new_schema
      → result ≡ compared (changes p.reading (p.view a.old_schema) (p.view a.new_schema))
  faultless_told a e = decides p old new (verdict (old_passes a) (new_passes a) e)

  pub verdict_exactly : (select result 0 ≡ 0) ↔ AcceptedPair old new (Faultless p)
  unfolding select selected
  verdict_exactly = (verdict_only (decided p old new), λ a. ap (λ o. select o 0) (faultless_told a a.holds))

  -- ---- the numbers of the pair

  fault_only : (n : ℕ) → 10 < n → {o : Outcome} → Of o → select o 0 ≡ n → AcceptedPair old new (Faulty p n)
  unfolding select selected
  fault_only n h (old_refused l q) z = absurd (omega arith)
  fault_only n h (old_alone q e) z = none_alone e
  fault_only n h (new_refused a l q) z = absurd (omega arith)
  fault_only n h (new_alone a q e) z = none_alone e
  fault_only n h (pair_refused {f = f} a b e) z = both_read a b (f, e, z)
  fault_only n h (verdict a b e) z = absurd (omega arith)

  fault_given : (n : ℕ) → AcceptedPair old new (Faulty p n) → select result 0 ≡ n
  unfolding select selected
  fault_given n a =
      ap (λ o. select o 0) (decides p old new (pair_refused (old_passes a) (new_passes a) a.holds.1)) ∙ a.holds.2

  pub fault_exactly : (n : ℕ) → 10 < n → (select result 0 ≡ n) ↔ AcceptedPair old new (Faulty p n)
  fault_exactly n h = (fault_only n h (decided p old new), fault_given n)

  -- ---- those of one image, and the sides

  old_only : (k : ℕ) {o : Outcome} → Of o → (select o 0 ≡ k) × (select o 1 ≡ 1) → read_image old ≡ no k
  unfolding select selected
  old_only k (old_refused l q) z = q ∙ ap no z.0
  old_only k (old_alone q e) z = none_alone e
  old_only k (new_refused a l q) z = absurd (omega (arith, z.1))
  old_only k (new_alone a q e) z = none_alone e
  old_only k (pair_refused a b e) z = absurd (omega (arith, z.1, paired.sides _ _ _ e))
  old_only k (verdict a b e) z = absurd (omega (arith, z.1))

  old_given : (k : ℕ) → read_image old ≡ no k → (select result 0 ≡ k) × (select result 1 ≡ 1)
  unfolding select selected
  old_given k e = let d = decides p old new (old_refused (only_ten old k e) e) in (ap (λ o. select o 0) d, ap (λ o. select o 1) d)

  old_exactly : (k : ℕ) → ((select result 0 ≡ k) × (select result 1 ≡ 1)) ↔ (read_image old ≡ no k)
  old_exactly k = (old_only k (decided p old new), old_given k)

  new_only : (k : ℕ) {o : Outcome} → Of o → (select o 0 ≡ k) × (select o 1 ≡ 2) → NewRefused old new k
  unfolding select selected
  new_only k (old_refused l q) z = absurd (omega (arith, z.1))
  new_only k (old_alone q e) z = none_alone e
  new_only k (new_refused {x = x} a l q) z = record { old_schema = x; old_end = a.end; old_read = a.read; new_read = q ∙ ap no z.0 }
  new_only k (new_alone a q e) z = none_alone e
  new_only k (pair_refused a b e) z = absurd (omega (arith, z.1, paired.sides _ _ _ e))
  new_only k (verdict a b e) z = absurd (omega (arith, z.1))

  new_given : (k : ℕ) → NewRefused old new k → (select result 0 ≡ k) × (select result 1 ≡ 2)
  unfolding select selected
  new_given k r =
      let d = decides p old new (new_refused (passes old r.old_schema r.old_end r.old_read) (only_ten new k r.new_read) r.new_read) in
      (ap (λ o. select o 0) d, ap (λ o. select o 1) d)

  new_exactly : (k : ℕ) → ((select result 0 ≡ k) × (select result 1 ≡ 2)) ↔ NewRefused old new k
  new_exactly k = (new_only k (decided p old new), new_given k)

  both_sides_lem : {o : Outcome} → Of o → 10 < select o 0 → select o 1 ≡ number both_sides
  unfolding select selected
  both_sides_lem (old_refused l q) z = absurd (omega arith)
  both_sides_lem (old_alone q e) z = none_alone e
  both_sides_lem (new_refused a l q) z = absurd (omega arith)
  both_sides_lem (new_alone a q e) z = none_alone e
  both_sides_lem (pair_refused a b e) z = paired.sides _ _ _ e
  both_sides_lem (verdict a b e) z = absurd (omega arith)

  pub sided : Numbered p → Sided p old new
  unfolding verdict_by
  sided numbered =
      let r = policy_refusals p numbered old new in
      record {
        old_refused = old_exactly;
        new_refused = new_exactly;
        both_sides = both_sides_lem (decided p old new);
        no_side = r.no_side;
        refusal = r.refusal;
      }

  -- ---- all numbers: what holds of 0 to 10 and of those of the pair holds of the number, and of the report's if it holds of 12

  module _ (P : ℕ → Type 0) (ten : (n : ℕ) → n ≤ 10 → P n) (pair : (x y : Schema) (f : Fault) → first_fault p.pair x y ≡ Some f → P f.number) where
    each_number : {o : Outcome} → Of o → P (select o 0)
    unfolding select selected
    each_number (old_refused l q) = ten _ (omega arith)
    each_number (old_alone q e) = none_alone e
    each_number (new_refused a l q) = ten _ (omega arith)
    each_number (new_alone a q e) = none_alone e
    each_number (pair_refused a b e) = pair _ _ _ e
    each_number (verdict a b e) = ten 0 (omega arith)

    pub number_given : P (select result 0)
    number_given = each_number (decided p old new)

    pub number_reported : (room : ℕ) → P 12 → P (select (report_by p old new room) 0)
    unfolding report_by
    number_reported room twelve = go (eqb (select (report_by p old new room) 0) 12) refl
      where
        go : (u : Bool) → eqb (select (report_by p old new room) 0) 12 ≡ u → P (select (report_by p old new room) 0)
        go true e = rw (eqb-true (select (report_by p old new room) 0) 12 e) twelve
        go false e = rw (fit_else (number both_sides) room result (eqb-false (select (report_by p old new room) 0) 12 e)) number_given

-- no fault, if each is out of the question
pub no_fault : (p : Policy) (x y : Schema) → ((f : Fault) → first_fault p.pair x y ≡ Some f → ⊥) → Faultless p x y
no_fault p x y h = go (first_fault p.pair x y) refl
  where
    go : (o : Option Fault) → first_fault p.pair x y ≡ o → o ≡ None
    go None e = refl
    go (Some f) e = absurd (h f e)

-- ---- of a verdict whose one check is 11

module _ (view : Schema → View) (rise : (s : Schema) → Rising name_of before (view s).standing) (reading : Reading) where
  abbrev policy : Policy
  policy = usual view reading

  -- the number and the side that a fault of the pair has
  eleven : (x y : Schema) (f : Fault) → first_fault policy.pair x y ≡ Some f → (f.number ≡ 11) × (f.side ≡ number both_sides)
  eleven x y f e = let q = (usual_fault view x y f e).1 in (ap (λ (g : Fault). g.number) q, ap (λ (g : Fault). g.side) q)

  usual_paired : Paired policy
  usual_paired = record {
    alone = λ x. refl;
    beyond = λ x y f e. omega (arith, (eleven x y f e).0);
    sides = λ x y f e. (eleven x y f e).1;
  }

  unpaired : (x y : Schema) → Faultless policy x y ↔ ¬ AliasPair view x y
  unpaired x y = (
    λ e h. none-some _ (sym e ∙ alias_fault_lem view x y (pair_given view rise x y h)),
    λ h. no_fault policy x y (λ f e. h (pair_found view rise x y (usual_fault view x y f e).0)),
  )

  aliased : (x y : Schema) → Faulty policy 11 x y ↔ AliasPair view x y
  aliased x y = (
    λ q. pair_found view rise x y (usual_fault view x y q.0 q.1).0,
    λ h. (fault 11 (number both_sides), alias_fault_lem view x y (pair_given view rise x y h), refl),
  )

  module _ (old new : List ℕ) where
    -- two images that get a verdict get that of the clauses
    pub clauses_told : (a : AcceptedPair old new (λ x y. AliasPair view x y → ⊥))
        → outcome policy old new ≡ compared (changes reading (view a.old_schema) (view a.new_schema))
    clauses_told a = faultless_told policy usual_paired old new a ((unpaired a.old_schema a.new_schema).1 a.holds)

    pub verdict_refusals : VerdictRefusals view reading old new
    unfolding verdict_by
    verdict_refusals = record {
      verdict = accepted_exactly (verdict_exactly policy usual_paired old new) unpaired;
      alias_pair = accepted_exactly (fault_exactly policy usual_paired old new 11 (omega arith)) aliased;
      sides = sided policy usual_paired old new (usual_numbered view reading);
      most = number_given policy usual_paired old new (λ n. n ≤ 11) (λ n h. omega arith) (λ x y f e. omega (arith, (eleven x y f e).0));
      most_reported = λ room.
          number_reported policy usual_paired old new (λ n. n ≤ 12) (λ n h. omega arith) (λ x y f e. omega (arith, (eleven x y f e).0)) room (omega arith);
    }
