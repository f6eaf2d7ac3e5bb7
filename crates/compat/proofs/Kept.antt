-- What is asked of every policy, row by row or by what a row says. Assumes nothing.
use mathlib.Core.Path.{◌≡◌, refl, sym, ap, ◌∙◌}
use mathlib.Core.Bool.{Bool, true, false, cond}
use mathlib.Core.Logic.{◌⊎◌, inl, inr, ⊎_elim}
use native.Mathlib.Omega.{arith}
use Rattle.std.specs.Prelude.{Option, None, Some}
use Rattle.std.specs.Option.{option_or}
use Rattle.std.proofs.lemmas.Option.{none-some}
use mathlib.Core.List.{[], ◌∷◌}
use Rattle.image.specs.Schema.{Schema}
use Rattle.parts.specs.Codes.{number, both_sides}
use Rattle.parts.specs.Handles.{schema_in}
use Rattle.rules.specs.Survivors.{View}
use Rattle.rules.specs.Verdict.{alias_pair}
use Rattle.rules.specs.Answer.{Fault, fault, first_fault, alias_check, plain}
use Rattle.rules.specs.Reached.{reached_set}
use Rattle.rules.specs.Imports.{view_with, imports_view, imports}
use Rattle.rules.specs.Mended.{mended, mixed, mixed_check}
use Rattle.rules.specs.Refusals.{Numbered}
use Rattle.rules.proofs.Answer.{here_or_later, tested, usual_fault}
use Rattle.rules.proofs.Held.{Held}
use Rattle.rules.proofs.Weights.{Light}
use Rattle.rules.proofs.Bound.{Bounded, Sized, plain_bounded}
use Rattle.rules.proofs.Standing.{view_none}
use Rattle.rules.proofs.Imports.{imports_bounded}
use Rattle.rules.proofs.Mended.{mended_bounded}
use Rattle.lines.specs.Readings.{reading_of}
use Rattle.lines.specs.declared.Reading.{Reading}
use Rattle.lines.specs.declared.Reading.TheVariants as reading
use Rattle.checking.specs.Decls.{view_in, both_aliases, all_changes}
use Rattle.compat.specs.Policies.{view_by, checks_by, policy_of, ids_by, changes_by, format_fault, fault_if, alias_fault}
use Rattle.compat.specs.declared.policies.TheConstants.Policy.{PLAIN, IMPORTS, MENDED}
use Rattle.compat.specs.declared.policies.Policy.{Policy}
use Rattle.compat.specs.declared.prepared.Prepared.{Prepared}
use Rattle.compat.specs.Pairs.{changes_of}

-- ---- the rows are the three verdicts

pub plain_row : policy_of PLAIN ≡ plain
unfolding policy_of reading_of
plain_row = refl

pub imports_row : policy_of IMPORTS ≡ imports
unfolding policy_of reading_of
imports_row = refl

pub mended_row : policy_of MENDED ≡ mended
unfolding policy_of reading_of
mended_row = refl

-- ---- the checks of the pair

-- 11 is the last one
last_check : (view : Schema → View) (x y : Schema) → alias_fault (alias_pair (view x) (view y)) ≡ first_fault (alias_check view ∷ []) x y
unfolding alias_fault first_fault alias_check
last_check view x y = go (alias_pair (view x) (view y))
  where
    go : (u : Bool) → alias_fault u ≡ option_or (alias_fault u) None
    go true = refl
    go false = refl

-- what they say
pub policy_pair : (p : Policy) (x y : Schema)
    → option_or (format_fault p x y) (alias_fault (alias_pair ((policy_of p).view x) ((policy_of p).view y))) ≡ first_fault (policy_of p).pair x y
unfolding policy_of format_fault first_fault
policy_pair p x y = go p.tests_formats
  where
    go : (b : Bool) → option_or (cond b (mixed_check x y) None) (alias_fault (alias_pair (view_by p.follows x) (view_by p.follows y)))
        ≡ first_fault (checks_by b (view_by p.follows)) x y
    go true = ap (option_or (mixed_check x y)) (last_check (view_by p.follows) x y)
    go false = last_check (view_by p.follows) x y

-- 16, by whether it is tested
module _ (p : Policy) (x y : Schema) where
  pub formats_told : p.tests_formats ≡ true → fault_if (mixed x y) (fault 16 (number both_sides)) ≡ format_fault p x y
  unfolding fault_if format_fault mixed_check
  formats_told e = rw e refl

  pub formats_untold : p.tests_formats ≡ false → None ≡ format_fault p x y
  unfolding format_fault
  formats_untold e = rw e refl

-- their faults
faults_told : (view : Schema → View) (x y : Schema) (f : Fault) (b : Bool) → first_fault (checks_by b view) x y ≡ Some f
    → (f ≡ fault 16 (number both_sides)) ⊎ (f ≡ fault 11 (number both_sides))
unfolding mixed_check
faults_told view x y f false e = inr (usual_fault view x y f e).1
faults_told view x y f true e =
    ⊎_elim (λ q. inl (tested (fault 16 (number both_sides)) (mixed x y) f q).1) (λ q. inr (usual_fault view x y f q.1).1)
    (here_or_later mixed_check (alias_check view ∷ []) x y f e)

module _ (p : Policy) (x y : Schema) (f : Fault) (e : first_fault (policy_of p).pair x y ≡ Some f) where
  numbers : ((f.number ≡ 16) ⊎ (f.number ≡ 11)) × (f.side ≡ number both_sides)
  unfolding policy_of
  numbers = go (faults_told (view_by p.follows) x y f p.tests_formats e)
    where
      go : (f ≡ fault 16 (number both_sides)) ⊎ (f ≡ fault 11 (number both_sides)) → ((f.number ≡ 16) ⊎ (f.number ≡ 11)) × (f.side ≡ number both_sides)
      go (inl q) = (inl (ap (λ (g : Fault). g.number) q), ap (λ (g : Fault). g.side) q)
      go (inr q) = (inr (ap (λ (g : Fault). g.number) q), ap (λ (g : Fault). g.side) q)

-- the numbers of its checks are its own
pub policy_numbered : (p : Policy) → Numbered (policy_of p)
unfolding policy_of
policy_numbered p = record {
  alone = λ x k e. absurd (none-some k e);
  pair = λ x y f e. go f (numbers p x y f e).0;
}
  where
    go : (f : Fault) → (f.number ≡ 16) ⊎ (f.number ≡ 11) → (f.number ≡ 0 → ⊥) × (f.number ≡ 12 → ⊥)
    go f (inl q) = (λ z. omega arith, λ z. omega arith)
    go f (inr q) = (λ z. omega arith, λ z. omega arith)

-- ---- its report is shorter than 2^62 bytes

view_sized : (follows : Bool) (x : Schema) → Held x → Sized (view_by follows x)
view_sized true = imports_bounded.view
view_sized false = plain_bounded.view

reading_light : (r : Reading) → Light (reading_of r)
unfolding reading_of
reading_light reading.Plain = plain_bounded.light
reading_light reading.Mended = mended_bounded.light

pub policy_bounded : (p : Policy) → Bounded (policy_of p)
unfolding policy_of
policy_bounded p = record {
  view = view_sized p.follows;
  light = reading_light p.reading;
  alone = λ x k e. absurd (none-some k e);
  pair = λ x y f e.
      let q = numbers p x y f e in
      (⊎_elim (λ z. omega (arith, z)) (λ z. omega (arith, z)) q.0, omega (arith, q.1));
}

-- ---- what it compares is what stands with its ids

pub policy_view : (p : Policy) (x : Schema) → (policy_of p).view x ≡ view_with (ids_by p x) x
unfolding policy_of ids_by imports_view
policy_view p x = go p.follows
  where
    go : (b : Bool) → view_by b x ≡ view_with (cond b (reached_set x) []) x
    go true = refl
    go false = sym (view_none x)

-- ---- with the sets of ids that go with the images

module _ (w : Prepared) where
  old_view : view_in w.old ≡ (policy_of w.policy).view (schema_in w.old.image)
  old_view = ap (λ m. view_with m (schema_in w.old.image)) w.old_ids ∙ sym (policy_view w.policy (schema_in w.old.image))

  new_view : view_in w.new ≡ (policy_of w.policy).view (schema_in w.new.image)
  new_view = ap (λ m. view_with m (schema_in w.new.image)) w.new_ids ∙ sym (policy_view w.policy (schema_in w.new.image))

  -- what is reported by its reading are the changes of its views
  pub policy_changes : all_changes w.policy.reading w.old w.new ≡ changes_of w
  unfolding all_changes changes_by policy_of
  policy_changes = rw (old_view, new_view) refl

  -- and 11, after what comes before it, is told by them
  pub policy_aliases : {f : Option Fault} → f ≡ format_fault w.policy (schema_in w.old.image) (schema_in w.new.image)
      → option_or f (alias_fault (both_aliases w.old w.new)) ≡ first_fault (policy_of w.policy).pair (schema_in w.old.image) (schema_in w.new.image)
  unfolding both_aliases
  policy_aliases e = rw (e, old_view, new_view) (policy_pair w.policy (schema_in w.old.image) (schema_in w.new.image))
