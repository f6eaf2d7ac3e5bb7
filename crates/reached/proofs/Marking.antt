-- Marks: of lists of ids one after the other, of an id, of a node, of a type by its inner types. Assumes nothing.
use mathlib.Core.Path.{◌≡◌, refl, sym, ap, ◌∙◌}
use mathlib.Core.Bool.{true, false}
use mathlib.Core.List.{List, [], ◌∷◌, ◌++◌}
use Prim.Native.Nat.{ℕ, ◌<◌}
use native.Mathlib.Omega.{arith}
use borrow.Author.Tests.{eq-eqb, ne_eqb}
use lib.ListN.{length, set}
use Rattle.std.specs.Prelude.{Option}
use Rattle.std.specs.Option.{is_some}
use Rattle.maps.specs.Lists.{pass}
use Rattle.maps.proofs.Lists.{pass_append}
use Rattle.image.specs.declared.tags.Tag.{Tag}
use Rattle.image.specs.declared.tags.Tag.TheVariants as tag
use Rattle.parts.specs.Codes.{number, named_tag}
use Rattle.parts.specs.Numbers.{tag_number}
use Rattle.parts.specs.Promise.{label_in, label_end, tree_in, type_end}
use Rattle.parts.specs.Handles.{schema_in, decl_of, label_of, Resolves, TypeAt}
use Rattle.parts.specs.declared.handles.Image.{Image}
use Rattle.parts.specs.declared.handles.Decl.{Decl}
use Rattle.parts.specs.declared.handles.TypeRef.{TypeRef}
use Rattle.parts.proofs.Promise.{same_tag}
use Rattle.rules.specs.Survivors.{stands_for}
use Rattle.rules.specs.Reached.{named_label, named_in, resolvable, IdSet, mark, mark_all}
use Rattle.rules.proofs.ReachedSets.{below_length, mark_all_below}
use Rattle.rules.proofs.Reached.{resolvable_in}
use Rattle.types.specs.Nodes.{Leaf, One, Two}
use Rattle.survivors.proofs.Laws.Better.{some_map}
use Rattle.reached.specs.Marks.{Ready, Marked, TypeMarked}

-- ---- ids one after the other

module _ {i : Image} {m n : IdSet} {ids : List ℕ} (d : Marked i m ids n) where
  pub marked_length : length n ≡ length m
  marked_length = ap length d.is ∙ sym (below_length (mark_all_below (schema_in i).registry m ids))

  pub ready_after : Ready i m → Ready i n
  ready_after r = record { room = omega (arith, r.room, marked_length) }

  pub marked_then : {ids' : List ℕ} {n' : IdSet} → Marked i n ids' n' → Marked i m (ids ++ ids') n'
  unfolding mark_all
  marked_then {ids'} e = record { is = rw (pass_append (mark (schema_in i).registry) m ids ids', ← d.is) e.is }

  pub marked_as : {ids' : List ℕ} → ids ≡ ids' → Marked i m ids' n
  marked_as e = rw (← e) d

-- in the same image
pub marked_in : {i k : Image} → i ≡ k → {m n : IdSet} {ids : List ℕ} → Marked i m ids n → Marked k m ids n
marked_in e d = rw e at d

pub ready_in : {i k : Image} → k ≡ i → {m : IdSet} → Ready i m → Ready k m
ready_in e r = rw e r

pub marked_none : {i : Image} {m : IdSet} → Marked i m [] m
unfolding mark_all pass
marked_none = record { is = refl }

-- after the marks of m, those of `rest` are to come, so that those of `whole` are added to m₀
pub record Owing (i : Image) (m₀ : IdSet) (whole : List ℕ) (m : IdSet) (rest : List ℕ) : Type 0 where
  pub is : mark_all (schema_in i).registry m rest ≡ mark_all (schema_in i).registry m₀ whole

pub owing_start : {i : Image} {m : IdSet} {whole rest : List ℕ} → whole ≡ rest → Owing i m whole m rest
owing_start {i} {m} e = record { is = ap (mark_all (schema_in i).registry m) (sym e) }

module _ {i : Image} {m₀ m : IdSet} {whole rest : List ℕ} (o : Owing i m₀ whole m rest) where
  pub owing_ready : Ready i m₀ → Ready i m
  owing_ready r = record { room = omega (arith, r.room, same) }
    where
      same : length m ≡ length m₀
      same =
          below_length (mark_all_below (schema_in i).registry m rest)
          ∙ (ap length o.is ∙ sym (below_length (mark_all_below (schema_in i).registry m₀ whole)))

  pub owing_turn : {xs rest' : List ℕ} → rest ≡ xs ++ rest' → {n : IdSet} → Marked i m xs n → Owing i m₀ whole n rest'
  unfolding mark_all
  owing_turn {xs} {rest'} e d = record {
    is = rw d.is (sym (pass_append (mark (schema_in i).registry) m xs rest') ∙ (ap (mark_all (schema_in i).registry m) (sym e) ∙ o.is));
  }

  pub owing_done : rest ≡ [] → Marked i m₀ whole m
  unfolding mark_all pass
  owing_done e = record { is = ap (mark_all (schema_in i).registry m) (sym e) ∙ o.is }

-- ---- an id

module _ {i : Image} {id : ℕ} {r : Option Decl} (h : Resolves i id r) where
  is_resolvable : is_some r ≡ resolvable (schema_in i).registry id
  unfolding resolvable stands_for
  is_resolvable = some_map decl_of r ∙ ap is_some h.value

  pub id_skipped : is_some r ≡ false → {m : IdSet} → Marked i m (id ∷ []) m
  unfolding mark_all pass mark
  id_skipped e = record { is = rw (← is_resolvable, e) }

  module _ (e : is_some r ≡ true) where
    pub id_marked : {m n : IdSet} → n ≡ set m id true → Marked i m (id ∷ []) n
    unfolding mark_all pass mark
    id_marked k = record { is = rw (← is_resolvable, e) k }

    pub id_inside : {m : IdSet} → Ready i m → id < length m
    id_inside d = omega (arith, resolvable_in (schema_in i).registry id (sym is_resolvable ∙ e), d.room)

-- ---- a node: x is its tag

module _ (t : TypeRef) (x : Tag) (e : tag_number x ≡ (label_of t).tag) where
  pub tag_named : x ≡ tag.Named → (label_of t).tag ≡ number named_tag
  tag_named z = sym e ∙ ap tag_number z

  pub label_named : x ≡ tag.Named → {id : ℕ} → id ≡ (label_of t).first → {m n : IdSet} → Marked t.image m (id ∷ []) n
      → Marked t.image m (named_label (label_of t)) n
  unfolding named_label
  label_named z f k = rw (eq-eqb (label_of t).tag (number named_tag) (tag_named z), ← f) k

  pub label_other : (x ≡ tag.Named → ⊥) → {m : IdSet} → Marked t.image m (named_label (label_of t)) m
  unfolding named_label
  label_other z = rw (ne_eqb (label_of t).tag (number named_tag) (λ y. z (same_tag x tag.Named (e ∙ y)))) marked_none

-- ---- a type, after its label: s are the bytes of its image

module _ (i : Image) (at : ℕ) {m n : IdSet} (k : Marked i m (named_label (label_in i.bytes.now at)) n) {p : ℕ} (f : p ≡ label_end i.bytes.now at) where
  abbrev s : List ℕ
  s = i.bytes.now

  pub leaf_marked : Leaf s at → TypeMarked i at m p n
  unfolding named_in
  leaf_marked l = record { end = f ∙ sym l.end; marks = rw l.tree k }

  -- and its first inner type
  module _ {q : ℕ} {n' : IdSet} (c : TypeMarked i p n q n') where
    pub second_at : q ≡ type_end s (label_end s at)
    second_at = c.end ∙ ap (type_end s) f

    first_marks : Marked i n (named_in (tree_in s (label_end s at))) n'
    first_marks = rw (← f) c.marks

    pub one_marked : One s at → TypeMarked i at m q n'
    unfolding named_in
    one_marked o = record { end = second_at ∙ sym o.end; marks = rw o.tree (marked_then k first_marks) }

    -- and its second one
    pub two_marked : Two s at → {r : ℕ} {n'' : IdSet} → TypeMarked i q n' r n'' → TypeMarked i at m r n''
    unfolding named_in
    two_marked t {r} {n''} d =
        let e : Marked i n' (named_in (tree_in s (type_end s (label_end s at)))) n'' = (rw (← second_at) d.marks) in
        record { end = d.end ∙ (ap (type_end s) second_at ∙ sym t.end); marks = rw t.tree (marked_then k (marked_then first_marks e)) }

-- an inner type, at the place that it was read from
module _ {i : Image} {left at : ℕ} {t : TypeRef} (x : TypeAt i left at t) {m : IdSet} where
  pub marked_at : {r : ℕ} {n : IdSet} → TypeMarked t.image t.at m r n → TypeMarked i at m r n
  marked_at d = rw (x.image, x.at) at d

-- what the code needs
pub ruleset ids = (id_skipped, id_marked, id_inside)
