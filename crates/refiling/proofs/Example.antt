-- The worked example holds: what the images hold by computation, their reports by the theorem and by computation. Assumes nothing.
use mathlib.Core.Path.{◌≡◌, refl, sym, ap}
use mathlib.Core.Bool.{false}
use Rattle.std.specs.Prelude.{Option, None, Some}
use mathlib.Core.List.{List, [], ◌∷◌}
use Prim.Native.Nat.{ℕ}
use native.Mathlib.Omega.{arith}
use lib.ListN.{get_or}
use Rattle.maps.specs.Lists.{All}
use Rattle.maps.specs.Reordered.{Reordered, here, later, nothing, each, EachTwo, Once}
use Rattle.maps.proofs.Tests.{no_both}
use Rattle.image.specs.Schema.{Name, unmarked, label, Ty, leaf, two, no_type, Field, Variant, Decl, decl, struck, Schema}
use Rattle.image.specs.Parse.{ok}
use Rattle.image.specs.Image.{read_image}
use Rattle.rules.specs.Equal.{same_name}
use Rattle.rules.specs.Survivors.{Registry, stands_for}
use Rattle.rules.specs.Outcome.{written}
use Rattle.rules.specs.Edges.{named as named_type, around, u8, impl}
use Rattle.rules.specs.Pinned.{told}
use Rattle.rules.proofs.Equal.{names}
use Rattle.rules.proofs.Computed.{reads, reports}
use Rattle.refiling.specs.Refiling.{entries, Impls, NamesOnce, NumbersOnce, NoRepeats, Unresolvable, RefiledId, unresolvable, RefiledType, a_leaf, a_one, a_two, RefiledField, RefiledVariant, RefiledDecl, Renumbered, Refiled, RefiledImage}
use Rattle.refiling.specs.Example.{first, first_anew, first_widened, first_struck, second, second_anew, second_widened, second_struck, Example}
use Rattle.refiling.proofs.Tables.{Rows, renumbered_by, moved_id, plain_field, item, stays, primitive_anew, named_anew, field_anew, item_anew, decl_anew}
use Rattle.refiling.proofs.FilingOrder.{refiled_image, filing_order}
use Rattle.refiling.proofs.Relation.{refilings}

-- ---- what the images hold; the bytes of the names are their numbers: M 77, U 85, F 70, E 69, N 78, K 75, and a 97

abbrev message : List Field → Decl
message fs = decl 0 (77 ∷ []) unmarked None fs [] no_type

abbrev union : List Variant → Decl
union vs = decl 3 (85 ∷ []) unmarked None [] vs no_type

abbrev flags : Option ℕ → List Variant → Decl
flags width vs = decl 2 (70 ∷ []) unmarked width [] vs no_type

abbrev enum : Option ℕ → List Variant → Decl
enum width vs = decl 1 (69 ∷ []) unmarked width [] vs no_type

abbrev newtype : Ty → Decl
newtype t = decl 4 (78 ∷ []) unmarked None [] [] t

abbrev config : Decl
config = decl 5 (75 ∷ []) unmarked None [] [] no_type

abbrev a : Ty → Field
a t = plain_field 0 (97 ∷ []) t

abbrev b : ℕ → Field
b id = plain_field 1 (98 ∷ []) (named_type id)

abbrev f : Field
f = plain_field 0 (102 ∷ []) u8

abbrev g : ℕ → Field
g id = plain_field 1 (103 ∷ []) (named_type id)

abbrev h : ℕ → Field
h id = plain_field 1 (104 ∷ []) (named_type id)

abbrev x : Variant
x = item 0 (120 ∷ []) [] []

abbrev y : List Field → List ℕ → Variant
y fs tombstones = item 1 (121 ∷ []) fs tombstones

abbrev p : Variant
p = item 0 (112 ∷ []) [] []

abbrev q : Variant
q = item 1 (113 ∷ []) [] []

abbrev r : Variant
r = item 0 (114 ∷ []) [] []

abbrev s : Variant
s = item 1 (115 ∷ []) [] []

-- map<E, bits { i, j }>
abbrev map_of : ℕ → Ty
map_of id = two (label 8 0 0 []) (named_type id) (leaf (label 16 0 0 ((105 ∷ []) ∷ (106 ∷ []) ∷ [])))

abbrev ride : List Name
ride = (114 ∷ 105 ∷ 100 ∷ 101 ∷ []) ∷ []

abbrev R : Registry
R =
    Some (message (a (around 5 (named_type 1)) ∷ b 9 ∷ [])) ∷ Some (union (x ∷ y (f ∷ g 0 ∷ []) [] ∷ [])) ∷ Some (flags None (p ∷ q ∷ []))
    ∷ Some impl ∷ Some impl ∷ []

-- with the width that F has, and what F, y, U and M strike off
abbrev R' : Option ℕ → List ℕ → List ℕ → List ℕ → List ℕ → Registry
R' w tf ty tu tm =
    None ∷ Some (struck (flags w (q ∷ p ∷ [])) tf) ∷ Some impl ∷ Some (struck (union (y (g 5 ∷ f ∷ []) ty ∷ x ∷ [])) tu) ∷ Some impl
    ∷ Some (struck (message (b 0 ∷ a (around 5 (named_type 3)) ∷ [])) tm) ∷ []

abbrev S : Registry
S =
    Some (message (a u8 ∷ b 5 ∷ [])) ∷ Some (union (y (f ∷ h 1 ∷ []) [] ∷ [])) ∷ Some (flags None (p ∷ [])) ∷ Some (enum None (r ∷ s ∷ []))
    ∷ Some (newtype (map_of 3)) ∷ Some config ∷ []

-- with the widths that E and F have, and what E, y and U strike off
abbrev S' : Option ℕ → Option ℕ → List ℕ → List ℕ → List ℕ → Registry
S' v w te ty tu =
    Some (newtype (map_of 2)) ∷ Some config ∷ Some (struck (enum v (s ∷ r ∷ [])) te) ∷ Some (flags w (p ∷ []))
    ∷ Some (struck (union (y (h 4 ∷ f ∷ []) ty ∷ [])) tu) ∷ Some (message (b 1 ∷ a u8 ∷ [])) ∷ []

abbrev ride_of : ℕ → Registry → List ℕ → Schema
ride_of format registry ids = record { format = format; registry = registry; ids = ids; namespace = ride }

first_read : read_image first ≡ ok (ride_of 1 R (0 ∷ 1 ∷ 2 ∷ 3 ∷ 9 ∷ 4 ∷ [])) 157
unfolding reads
first_read = refl

first_anew_read : read_image first_anew ≡ ok (ride_of 1 (R' None [] [] [] []) (4 ∷ 5 ∷ 0 ∷ 3 ∷ 1 ∷ 2 ∷ [])) 161
unfolding reads
first_anew_read = refl

first_widened_read : read_image first_widened ≡ ok (ride_of 2 (R' (Some 1) [] [] [] []) (4 ∷ 5 ∷ 0 ∷ 3 ∷ 1 ∷ 2 ∷ [])) 162
unfolding reads
first_widened_read = refl

first_struck_read : read_image first_struck ≡ ok (ride_of 3 (R' (Some 1) (7 ∷ []) (2 ∷ []) (9 ∷ 9 ∷ []) (0 ∷ [])) (4 ∷ 5 ∷ 0 ∷ 3 ∷ 1 ∷ 2 ∷ [])) 192
unfolding reads
first_struck_read = refl

second_read : read_image second ≡ ok (ride_of 1 S (0 ∷ 1 ∷ 2 ∷ 3 ∷ 4 ∷ [])) 173
unfolding reads
second_read = refl

second_anew_read : read_image second_anew ≡ ok (ride_of 1 (S' None None [] [] []) (0 ∷ 3 ∷ 5 ∷ 2 ∷ 4 ∷ [])) 173
unfolding reads
second_anew_read = refl

second_widened_read : read_image second_widened ≡ ok (ride_of 2 (S' (Some 8) (Some 4) [] [] []) (0 ∷ 3 ∷ 5 ∷ 2 ∷ 4 ∷ [])) 175
unfolding reads
second_widened_read = refl

second_struck_read : read_image second_struck ≡ ok (ride_of 3 (S' (Some 8) (Some 4) (5 ∷ []) (0 ∷ []) (0 ∷ [])) (0 ∷ 3 ∷ 5 ∷ 2 ∷ 4 ∷ [])) 197
unfolding reads
second_struck_read = refl

-- ---- no repeats

differ : {A : Type 0} (m n : Name) → same_name m n ≡ false → m ≡ n → A
differ m n e k = no_both (rw k (names.self n)) e

none_twice : (d : Decl) → d.fields ≡ [] → d.variants ≡ [] → NumbersOnce d
unfolding Once EachTwo All
none_twice d e k = record { fields = rw e tt; variants = rw k tt; variant_fields = rw k tt }

first_once : NoRepeats (ride_of 1 R (0 ∷ 1 ∷ 2 ∷ 3 ∷ 9 ∷ 4 ∷ []))
unfolding reports entries NamesOnce EachTwo All Once Impls
first_once = record {
  names = (
    (differ _ _ refl, (differ _ _ refl, (differ _ _ refl, (differ _ _ refl, tt)))),
    (
      (differ _ _ refl, (differ _ _ refl, (differ _ _ refl, tt))),
      ((differ _ _ refl, (differ _ _ refl, tt)), (((λ e. (refl, refl)), tt), (tt, tt))),
    ),
  );
  numbers = (
    record { fields = (((λ e. omega arith), tt), (tt, tt)); variants = tt; variant_fields = tt },
    (
      record { fields = tt; variants = (((λ e. omega arith), tt), (tt, tt)); variant_fields = (tt, ((((λ e. omega arith), tt), (tt, tt)), tt)) },
      (
        record { fields = tt; variants = (((λ e. omega arith), tt), (tt, tt)); variant_fields = (tt, (tt, tt)) },
        (none_twice _ refl refl, (none_twice _ refl refl, tt)),
      ),
    ),
  );
}

second_once : NoRepeats (ride_of 1 S (0 ∷ 1 ∷ 2 ∷ 3 ∷ 4 ∷ []))
unfolding reports entries NamesOnce EachTwo All Once Impls
second_once = record {
  names = (
    (differ _ _ refl, (differ _ _ refl, (differ _ _ refl, (differ _ _ refl, tt)))),
    (
      (differ _ _ refl, (differ _ _ refl, (differ _ _ refl, tt))),
      ((differ _ _ refl, (differ _ _ refl, tt)), ((differ _ _ refl, tt), (tt, tt))),
    ),
  );
  numbers = (
    record { fields = (((λ e. omega arith), tt), (tt, tt)); variants = tt; variant_fields = tt },
    (
      record { fields = tt; variants = (tt, tt); variant_fields = ((((λ e. omega arith), tt), (tt, tt)), tt) },
      (
        record { fields = tt; variants = (tt, tt); variant_fields = (tt, tt) },
        (
          record { fields = tt; variants = (((λ e. omega arith), tt), (tt, tt)); variant_fields = (tt, (tt, tt)) },
          (none_twice _ refl refl, (none_twice _ refl refl, tt)),
        ),
      ),
    ),
  );
}

-- ---- pieces of both releases, filed anew the other way round

module _ {R S : Registry} {to : ℕ → ℕ} where
  -- two bare items
  turned : (m n : Name) → Reordered (RefiledVariant R S to) (item 0 m [] [] ∷ item 1 n [] [] ∷ []) (item 1 n [] [] ∷ item 0 m [] [] ∷ [])
  turned m n = each (item_anew 0 m nothing) (each (item_anew 1 n nothing) nothing here) (later here)

  -- two fields, the second of a named type
  fields_anew : (m n : Name) {t u : Ty} {i j : ℕ} → RefiledType R S to t u → RefiledId R S to i j
      → Reordered (RefiledField R S to) (plain_field 0 m t ∷ plain_field 1 n (named_type i) ∷ []) (plain_field 1 n (named_type j) ∷ plain_field 0 m u ∷ [])
  fields_anew m n q r = each (field_anew 0 m q) (each (field_anew 1 n (named_anew r)) nothing here) (later here)

-- a whole release, by its entries and its ids
filed : {R S : Registry} {to from : ℕ → ℕ} {ids ids' : List ℕ} (format : ℕ) → Renumbered R S to from → Reordered (RefiledId R S to) ids ids'
    → Refiled (ride_of 1 R ids) (ride_of format S ids')
filed {to = to} {from = from} format r w = record { to = to; from = from; registry = r; ids = w; namespace = refl }

-- ---- the first filed anew

abbrev to : ℕ → ℕ
to i = get_or (5 ∷ 3 ∷ 1 ∷ 4 ∷ 2 ∷ []) i 0

abbrev from : ℕ → ℕ
from j = get_or (0 ∷ 2 ∷ 4 ∷ 1 ∷ 3 ∷ 0 ∷ []) j 0

module _ (format : ℕ) (w : Option ℕ) (tf ty tu tm : List ℕ) where
  -- the unresolvable id
  lost : RefiledId R (R' w tf ty tu tm) to 9 0
  unfolding Unresolvable stands_for
  lost = unresolvable refl refl

  message_anew : RefiledDecl R (R' w tf ty tu tm) to (message (a (around 5 (named_type 1)) ∷ b 9 ∷ []))
      (struck (message (b 0 ∷ a (around 5 (named_type 3)) ∷ [])) tm)
  unfolding stands_for
  message_anew =
      decl_anew 0 _ (fields_anew _ _ (a_one (stays 5 0 [] (λ e. omega arith)) (named_anew (moved_id 1 refl))) lost) nothing (primitive_anew 0)

  union_anew : RefiledDecl R (R' w tf ty tu tm) to (union (x ∷ y (f ∷ g 0 ∷ []) [] ∷ [])) (struck (union (y (g 5 ∷ f ∷ []) ty ∷ x ∷ [])) tu)
  unfolding stands_for
  union_anew =
      decl_anew 3 _ nothing
      (each (item_anew 0 _ nothing) (each (item_anew 1 _ (fields_anew _ _ (primitive_anew 1) (moved_id 0 refl))) nothing here) (later here))
      (primitive_anew 0)

  flags_anew : RefiledDecl R (R' w tf ty tu tm) to (flags None (p ∷ q ∷ [])) (struck (flags w (q ∷ p ∷ [])) tf)
  flags_anew = decl_anew 2 _ nothing (turned _ _) (primitive_anew 0)

  impl_anew : RefiledDecl R (R' w tf ty tu tm) to impl impl
  impl_anew = decl_anew 8 _ nothing nothing (primitive_anew 0)

  first_renumbered : Renumbered R (R' w tf ty tu tm) to from
  unfolding Rows stands_for
  first_renumbered =
      renumbered_by R (R' w tf ty tu tm) to from (
        (_, refl, refl, message_anew),
        ((_, refl, refl, union_anew), ((_, refl, refl, flags_anew), ((_, refl, refl, impl_anew), ((_, refl, refl, impl_anew), tt)))),
      )
      ((_, refl, refl), ((_, refl, refl), ((_, refl, refl), ((_, refl, refl), ((_, refl, refl), tt)))))

  first_anew_lem : Refiled (ride_of 1 R (0 ∷ 1 ∷ 2 ∷ 3 ∷ 9 ∷ 4 ∷ [])) (ride_of format (R' w tf ty tu tm) (4 ∷ 5 ∷ 0 ∷ 3 ∷ 1 ∷ 2 ∷ []))
  unfolding stands_for
  first_anew_lem =
      filed format first_renumbered
      (each (moved_id 0 refl)
      (each (moved_id 1 refl)
      (each (moved_id 2 refl)
      (each (moved_id 3 refl)
      (each lost (each (moved_id 4 refl) nothing here) here) here) (later (later here))) (later (later here))) (later here))

-- ---- the second filed anew

abbrev on : ℕ → ℕ
on i = get_or (5 ∷ 4 ∷ 3 ∷ 2 ∷ 0 ∷ 1 ∷ []) i 9

abbrev off : ℕ → ℕ
off j = get_or (4 ∷ 5 ∷ 3 ∷ 2 ∷ 1 ∷ 0 ∷ []) j 9

module _ (format : ℕ) (v w : Option ℕ) (te ty tu : List ℕ) where
  later_message : RefiledDecl S (S' v w te ty tu) on (message (a u8 ∷ b 5 ∷ [])) (message (b 1 ∷ a u8 ∷ []))
  unfolding stands_for
  later_message = decl_anew 0 _ (fields_anew _ _ (primitive_anew 1) (moved_id 5 refl)) nothing (primitive_anew 0)

  later_union : RefiledDecl S (S' v w te ty tu) on (union (y (f ∷ h 1 ∷ []) [] ∷ [])) (struck (union (y (h 4 ∷ f ∷ []) ty ∷ [])) tu)
  unfolding stands_for
  later_union = decl_anew 3 _ nothing (each (item_anew 1 _ (fields_anew _ _ (primitive_anew 1) (moved_id 1 refl))) nothing here) (primitive_anew 0)

  later_flags : RefiledDecl S (S' v w te ty tu) on (flags None (p ∷ [])) (flags w (p ∷ []))
  later_flags = decl_anew 2 _ nothing (each (item_anew 0 _ nothing) nothing here) (primitive_anew 0)

  enum_anew : RefiledDecl S (S' v w te ty tu) on (enum None (r ∷ s ∷ [])) (struck (enum v (s ∷ r ∷ [])) te)
  enum_anew = decl_anew 1 _ nothing (turned _ _) (primitive_anew 0)

  newtype_anew : RefiledDecl S (S' v w te ty tu) on (newtype (map_of 3)) (newtype (map_of 2))
  unfolding stands_for
  newtype_anew =
      decl_anew 4 _ nothing nothing
      (a_two (stays 8 0 [] (λ e. omega arith)) (named_anew (moved_id 3 refl)) (a_leaf (stays 16 0 _ (λ e. omega arith))))

  config_anew : RefiledDecl S (S' v w te ty tu) on config config
  config_anew = decl_anew 5 _ nothing nothing (primitive_anew 0)

  second_renumbered : Renumbered S (S' v w te ty tu) on off
  unfolding Rows stands_for
  second_renumbered =
      renumbered_by S (S' v w te ty tu) on off (
        (_, refl, refl, later_message),
        (
          (_, refl, refl, later_union),
          (
            (_, refl, refl, later_flags),
            ((_, refl, refl, enum_anew), ((_, refl, refl, newtype_anew), ((_, refl, refl, config_anew), tt))),
          ),
        ),
      )
      ((_, refl, refl), ((_, refl, refl), ((_, refl, refl), ((_, refl, refl), ((_, refl, refl), ((_, refl, refl), tt))))))

  second_anew_lem : Refiled (ride_of 1 S (0 ∷ 1 ∷ 2 ∷ 3 ∷ 4 ∷ [])) (ride_of format (S' v w te ty tu) (0 ∷ 3 ∷ 5 ∷ 2 ∷ 4 ∷ []))
  unfolding stands_for
  second_anew_lem =
      filed format second_renumbered
      (each (moved_id 0 refl)
      (each (moved_id 1 refl)
      (each (moved_id 2 refl)
      (each (moved_id 3 refl) (each (moved_id 4 refl) nothing here) (later here)) (later here)) (later (later (later here))))
      (later (later here)))

-- ---- the reports

old_anew_lem : RefiledImage NoRepeats first first_anew
old_anew_lem = refiled_image first_read first_anew_read first_once (first_anew_lem 1 None [] [] [] [])

old_widened : RefiledImage NoRepeats first first_widened
old_widened = refiled_image first_read first_widened_read first_once (first_anew_lem 2 (Some 1) [] [] [] [])

old_struck : RefiledImage NoRepeats first first_struck
old_struck = refiled_image first_read first_struck_read first_once (first_anew_lem 3 (Some 1) (7 ∷ []) (2 ∷ []) (9 ∷ 9 ∷ []) (0 ∷ []))

new_anew_lem : RefiledImage NoRepeats second second_anew
new_anew_lem = refiled_image second_read second_anew_read second_once (second_anew_lem 1 None None [] [] [])

new_widened : RefiledImage NoRepeats second second_widened
new_widened = refiled_image second_read second_widened_read second_once (second_anew_lem 2 (Some 8) (Some 4) [] [] [])

new_struck : RefiledImage NoRepeats second second_struck
new_struck = refiled_image second_read second_struck_read second_once (second_anew_lem 3 (Some 8) (Some 4) (5 ∷ []) (0 ∷ []) (0 ∷ []))

old_same : RefiledImage NoRepeats first first
old_same = refiled_image first_read first_read first_once (refilings.itself _)

new_same : RefiledImage NoRepeats second second
new_same = refiled_image second_read second_read second_once (refilings.itself _)

-- the same report in place of another
same_told : (old new : List ℕ) → RefiledImage NoRepeats first old → RefiledImage NoRepeats second new → told old new ≡ told first second
unfolding told
same_told old new o n = ap (λ c. written c []) (sym (filing_order.no_repeats first second old new o n).outcome)

pub example : Example
unfolding reports
example = record {
  old = old_anew_lem;
  new = new_anew_lem;
  report = refl;
  old_anew = same_told first_anew second old_anew_lem new_same;
  new_anew = same_told first second_anew old_same new_anew_lem;
  both_anew = same_told first_anew second_anew old_anew_lem new_anew_lem;
  old_widened = old_widened;
  new_widened = new_widened;
  both_widened = same_told first_widened second_widened old_widened new_widened;
  either = same_told first_widened second_anew old_widened new_anew_lem;
  old_struck = old_struck;
  new_struck = new_struck;
  both_struck = same_told first_struck second_struck old_struck new_struck;
  struck_old = same_told first_struck second_anew old_struck new_anew_lem;
  struck_new = same_told first_widened second_struck old_widened new_struck;
}
