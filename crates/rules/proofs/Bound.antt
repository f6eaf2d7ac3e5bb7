-- The report of two accepted images is shorter than 2^62 bytes, and so is every value that the verdict call selects. Assumes nothing.
use mathlib.Core.Path.{◌≡◌, ap}
use mathlib.Core.Bool.{Bool, true, false, cond}
use Rattle.std.specs.Prelude.{Option, None, Some}
use Rattle.std.proofs.lemmas.Option.{none-some}
use mathlib.Core.List.{List, [], ◌∷◌, ◌++◌}
use Prim.Native.Nat.{ℕ, zero, suc, ◌+◌, ◌*◌, ◌^◌, ◌≤◌, ◌<◌}
use native.Mathlib.Omega.{arith}
use lib.Dec.{eqb}
use lib.ListN.{length, get_or, length-append}
use Rattle.maps.specs.Lists.{largest, total, count, All}
use Rattle.maps.specs.Orders.{before}
use Rattle.maps.specs.Walk.{Rising}
use Rattle.maps.proofs.Lists.{all, total_less, length_flat_map}
use Rattle.maps.proofs.Survivors.{all_survivors}
use Rattle.maps.proofs.Sums.{total_survivors}
use Rattle.image.specs.Schema.{Decl, Schema}
use Rattle.image.specs.Words.{bytes}
use Rattle.image.specs.Parse.{ok}
use Rattle.image.specs.Image.{read_image}
use Rattle.rules.specs.Survivors.{Registry, name_of, stands_for, resolved, listed, View, view_of}
use Rattle.rules.specs.Types.{name_or_none, same_type}
use Rattle.rules.specs.Text.{joined}
use Rattle.rules.specs.Changes.{Change, kind_count}
use Rattle.rules.specs.Clauses.{Reading, changes}
use Rattle.rules.specs.Verdict.{bump_of, result_at, result_of, count_of}
use Rattle.rules.specs.Report.{bump_word, result_word, line, last_line, report}
use Rattle.rules.specs.Outcome.{Outcome, refused, selected, select}
use Rattle.rules.specs.Answer.{Fault, Policy, compared, counts, first_fault, verdict_by, usual, plain_reading, plain}
use Rattle.rules.specs.Reached.{IdSet}
use Rattle.rules.specs.Imports.{marked_ids, standing_with, view_with}
use Rattle.rules.specs.Refusals.{Decided, old_refused, old_alone, new_refused, new_alone, pair_refused, verdict}
use Rattle.rules.proofs.Sizes.{names_size, decl_size}
use Rattle.text.proofs.Numbers.{decimal_length}
use Rattle.rules.proofs.Texts.{word_length, Short, line_some}
use Rattle.rules.proofs.Scales.{line_length}
use Rattle.rules.proofs.Weights.{Light, clauses_light, changes_weight}
use Rattle.rules.proofs.Held.{Small, Held, accepted_held}
use Rattle.rules.proofs.Answer.{decided, usual_fault}
use Rattle.rules.proofs.Chain.{largest_two}
use Rattle.rules.proofs.Standing.{view_none, with_rises}

-- ---- what stands of what an image holds

ids_fewer : (id : ℕ) (m : IdSet) → length (marked_ids id m) ≤ length m
unfolding marked_ids
ids_fewer id [] = omega arith
ids_fewer id (true ∷ m) = omega (arith, ids_fewer (suc id) m)
ids_fewer id (false ∷ m) = omega (arith, ids_fewer (suc id) m)

entry_small : (R : Registry) (id : ℕ) → All Small R → Small (get_or R id None)
unfolding All Small
entry_small [] id h = tt
entry_small (e ∷ R) zero h = h.0
entry_small (e ∷ R) (suc id) h = entry_small R id h.1

small_short : (o : Option Decl) → Small o → names_size (name_or_none o) ≤ 32769
unfolding Small name_or_none names_size total decl_size
small_short None h = omega arith
small_short (Some d) h = omega arith

held_short : (x : Schema) → Held x → Short x.registry
unfolding stands_for
held_short x h = record { short = λ id. small_short (get_or x.registry id None) (entry_small x.registry id h.entries) }

module _ (R : Registry) (h : All Small R) where
  resolved_small : (o : Option Decl) → Small o → (ds : List Decl) → All (λ d. decl_size d ≤ 32768) ds
      → All (λ d. decl_size d ≤ 32768) (resolved o ds)
  unfolding resolved Small All
  resolved_small None p ds q = q
  resolved_small (Some d) p ds q = (p, q)

  listed_small : (ids : List ℕ) → All (λ d. decl_size d ≤ 32768) (listed R ids)
  unfolding listed stands_for All
  listed_small [] = tt
  listed_small (id ∷ ids) = resolved_small (get_or R id None) (entry_small R id h) (listed R ids) (listed_small ids)

  resolved_total : (o : Option Decl) → Small o → (ds : List Decl) → total decl_size (resolved o ds) ≤ 32768 + total decl_size ds
  unfolding resolved Small total
  resolved_total None p ds = omega arith
  resolved_total (Some d) p ds = omega arith

  listed_total : (ids : List ℕ) → total decl_size (listed R ids) ≤ 32768 * length ids
  unfolding listed stands_for total
  listed_total [] = omega arith
  listed_total (id ∷ ids) = omega (arith, resolved_total (get_or R id None) (entry_small R id h) (listed R ids), listed_total ids)

module _ (m : IdSet) (x : Schema) (h : Held x) where
  standing_small : All (λ d. decl_size d ≤ 32768) (standing_with m x)
  unfolding standing_with
  standing_small = all_survivors name_of before _ (listed x.registry (marked_ids 0 m ++ x.ids)) (listed_small x.registry h.entries (marked_ids 0 m ++ x.ids))

  -- as many as there are marks and listed ids, of 32,768 bytes each
  standing_total : total decl_size (standing_with m x) ≤ 32768 * (length m + 512)
  unfolding standing_with
  standing_total =
      omega (
        arith,
        total_survivors name_of before decl_size (listed x.registry (marked_ids 0 m ++ x.ids)),
        listed_total x.registry h.entries (marked_ids 0 m ++ x.ids),
        length-append (marked_ids 0 m) x.ids,
        ids_fewer 0 m,
        h.ids,
      )

-- ---- the report

last_length : (cs : List Change) → length (last_line cs) ≤ 40
unfolding last_line line joined bytes bump_word result_word largest
last_length cs = simp length-append (omega (arith, result, bump, decimal_length (length cs)))
  where
    result : length (result_word (result_at (bump_of cs))) ≤ 10
    result = word_length _ (result_at (bump_of cs))

    bump : length (bump_word (bump_of cs)) ≤ 5
    bump = word_length _ (bump_of cs)

-- the lines of the changes, and the last
report_lines : (cs : List Change) → length (report cs) ≡ total line_length cs + length (last_line cs)
unfolding report
report_lines cs = simp (length-append, length_flat_map)

-- ---- of any verdict

-- a view of what an image holds is no larger than that
pub record Sized (v : View) : Type 0 where
  pub namespace : names_size v.namespace ≤ 32768
  pub rises : Rising name_of before v.standing
  pub small : All (λ d. decl_size d ≤ 32768) v.standing
  pub size : total decl_size v.standing ≤ 2 ^ 40
  pub registry : Short v.registry

-- a fault that a selector can tell
abbrev pub Low : Fault → Type 0
Low f = (f.number < 2 ^ 62) × (f.side < 2 ^ 62)

-- what is asked of a policy
pub record Bounded (p : Policy) : Type 0 where
  pub view : (x : Schema) → Held x → Sized (p.view x)
  pub light : Light p.reading
  pub alone : (x : Schema) (k : ℕ) → p.alone x ≡ Some k → k < 2 ^ 62
  pub pair : (x y : Schema) (f : Fault) → first_fault p.pair x y ≡ Some f → Low f

module _ (p : Policy) (b : Bounded p) where
  held_bound : (x y : Schema) → Held x → Held y → length (report (changes p.reading (p.view x) (p.view y))) < 2 ^ 62
  held_bound x y h k =
      let v = b.view x h in
      let w = b.view y k in
      omega (
        arith,
        report_lines (changes p.reading (p.view x) (p.view y)),
        last_length (changes p.reading (p.view x) (p.view y)),
        changes_weight p.reading b.light (p.view x) (p.view y) v.registry w.registry v.rises w.rises v.small,
        v.size,
        w.size,
        v.namespace,
        w.namespace,
      )

-- ---- of two accepted images

pub report_bound : (p : Policy) → Bounded p → (old new : List ℕ) (x y : Schema) (m n : ℕ) → read_image old ≡ ok x m → read_image new ≡ ok y n
    → length (report (changes p.reading (p.view x) (p.view y))) < 2 ^ 62
report_bound p b old new x y m n q r = held_bound p b x y (accepted_held old q) (accepted_held new r)

-- ---- every selector

-- each change has a line, so no count is over the report's length
count_lines : (kind : ℕ) (cs : List Change) → count_of kind cs ≤ total line_length cs
unfolding count_of count
count_lines kind cs = total_less (λ c. cond (eqb c.kind kind) 1 0) line_length cs (all (λ c. go c (eqb c.kind kind)) cs)
  where
    go : (c : Change) (u : Bool) → cond u 1 0 ≤ line_length c
    go c true = line_some c
    go c false = omega arith

counts_below : (b n kind : ℕ) (cs : List Change) → total line_length cs < b → All (λ v. v < b) (counts n kind cs)
unfolding counts All
counts_below b zero kind cs h = tt
counts_below b (suc n) kind cs h = (omega (arith, count_lines kind cs), counts_below b n (suc kind) cs h)

result_one : (cs : List Change) → result_of cs ≤ 1
unfolding result_of
result_one cs = go (eqb (bump_of cs) 2)
  where
    go : (u : Bool) → cond u 1 0 ≤ 1
    go true = omega arith
    go false = omega arith

-- of a list whose elements are below a bound each is, also past its end
below_at : (b : ℕ) (l : List ℕ) (n : ℕ) → 0 < b → All (λ v. v < b) l → get_or l n 0 < b
unfolding All
below_at b [] n h k = h
below_at b (v ∷ l) zero h k = k.0
below_at b (v ∷ l) (suc n) h k = below_at b l n h k.1

refused_below : (number side n : ℕ) → number < 2 ^ 62 → side < 2 ^ 62 → select (refused number side) n < 2 ^ 62
unfolding select selected All
refused_below number side n h k =
    below_at (2 ^ 62) (number ∷ side ∷ 2 ∷ 1 ∷ []) n (omega arith) (h, (k, (omega arith, (omega arith, tt))))

compared_below : (cs : List Change) (n : ℕ) → length (report cs) < 2 ^ 62 → select (compared cs) n < 2 ^ 62
unfolding select selected bump_of All
compared_below cs n h =
    below_at (2 ^ 62) (selected (compared cs)) n (omega arith)
    (omega arith, (omega arith, (omega (arith, largest_two cs), (omega (arith, result_one cs), (h, counts_below (2 ^ 62) kind_count 0 cs (omega (arith, report_lines cs)))))))

pub selector_bound : (p : Policy) → Bounded p → (old new : List ℕ) (n : ℕ) → verdict_by p old new n < 2 ^ 62
unfolding verdict_by
selector_bound p b old new n = go (decided p old new)
  where
    go : {o : Outcome} → Decided p old new o → select o n < 2 ^ 62
    go (old_refused l q) = refused_below _ _ n (omega arith) (omega arith)
    go (old_alone q e) = refused_below _ _ n (b.alone _ _ e) (omega arith)
    go (new_refused a l q) = refused_below _ _ n (omega arith) (omega arith)
    go (new_alone a q e) = refused_below _ _ n (b.alone _ _ e) (omega arith)
    go (pair_refused a c e) = refused_below _ _ n (b.pair _ _ _ e).0 (b.pair _ _ _ e).1
    go (verdict {x = x} {y = y} a c e) = compared_below _ n (report_bound p b old new x y a.end c.end a.read c.read)

-- ---- of a verdict whose one check is 11

pub usual_bounded : (view : Schema → View) (reading : Reading) → ((x : Schema) → Held x → Sized (view x)) → Light reading → Bounded (usual view reading)
usual_bounded view reading sized light = record {
  view = sized;
  light = light;
  alone = λ x k e. absurd (none-some k e);
  pair = λ x y f e.
      let q = (usual_fault view x y f e).1 in
      (omega (arith, ap (λ (g : Fault). g.number) q), omega (arith, ap (λ (g : Fault). g.side) q));
}

-- a view of what stands with a set of no more ids than a registry has
pub with_sized : (m : IdSet) → length m ≤ 512 → (x : Schema) → Held x → Sized (view_with m x)
unfolding view_with
with_sized m l x h = record {
  namespace = h.segments;
  rises = with_rises m x;
  small = standing_small m x h;
  size = omega (arith, standing_total m x h);
  registry = held_short x h;
}

pub survivors_sized : (x : Schema) → Held x → Sized (view_of x)
survivors_sized x h = rw (← view_none x) (with_sized [] (omega arith) x h)

-- ---- of the verdict of document 01

pub plain_bounded : Bounded plain
plain_bounded = usual_bounded view_of plain_reading survivors_sized (clauses_light same_type)
