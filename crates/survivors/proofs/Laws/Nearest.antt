-- Names of declarations, by the tests of the code: whether two are the same; whether a declaration more takes the place of the best so far.
-- Assumes nothing.
use mathlib.Core.Path.{◌≡◌, refl, sym, ap}
use Prim.Native.Nat.{ℕ, ◌+◌, ◌≤◌, ◌<◌}
use native.Mathlib.Omega.{arith}
use lib.ListN.{length, get_or, drop}
use mathlib.Core.Bool.{Bool, true, false}
use Rattle.std.specs.Prelude.{Option, None, Some, IfSome}
use Rattle.std.specs.Borrow.{Bor}
use Rattle.std.specs.Option.{option_map}
use Rattle.std.specs.Ordering.{is_lt, is_some_and, nat_cmp}
use Rattle.std.specs.Cmp.Lexicographic.{slice_partial_cmp}
use Rattle.maps.specs.Orders.{same, before, order_of}
use Rattle.maps.proofs.Names.{slice_before, same_told, ends_same, finds_other, other_length, goes_on}
use Rattle.maps.specs.Walk.{past, nearer}
use Rattle.image.specs.Schema.{Name}
use Rattle.parts.specs.Handles.{decl_of}
use Rattle.parts.specs.declared.handles.Decl.{Decl}
use Rattle.survivors.specs.Answers.{named, name_with, nearer_name, nearer_decl}
use Rattle.survivors.proofs.Laws.Better.{nearer_first, nearer_past, nearer_before}

module _ {r : Option Decl} where
  pub decl_none : r ≡ None → option_map decl_of r ≡ None
  decl_none e = rw e

  pub named_none : r ≡ None → named r ≡ None
  named_none e = rw e

  module _ {d : Decl} (e : r ≡ Some d) where
    pub decl_body : option_map decl_of r ≡ Some (decl_of d)
    decl_body = rw e

    pub named_body : named r ≡ Some (decl_of d).name
    named_body = rw e

-- two names, which agree as far as j
pub record Agree (a b : Name) (j : ℕ) : Type 0 where
  pub most : j ≤ length a
  pub order : order_of a b ≡ order_of (drop j a) (drop j b)

module _ {a b : Name} where
  pub agree_start : Agree a b 0
  agree_start = record { most = omega arith; order = refl }

  module _ {j : ℕ} (k : Agree a b j) where
    pub agree_end : j ≡ length a → length a ≡ length b → true ≡ same before a b
    agree_end e f = sym (same_told _ _ (sym (ends_same a b j k.order (omega arith) (omega arith))))

    module _ (l : j < length a) (m : j < length b) where
      pub agree_more : get_or a j 0 ≡ get_or b j 0 → Agree a b (j + 1)
      agree_more e = record { most = omega arith; order = goes_on a b j k.order l m e }

      pub agree_not : (get_or a j 0 ≡ get_or b j 0 → ⊥) → false ≡ same before a b
      agree_not n = sym (finds_other a b j k.order l m n)

pub agree_short : (a b : Name) → (length a ≡ length b → ⊥) → false ≡ same before a b
agree_short a b n = sym (other_length a b n)

pub ruleset agreeing = (agree_start, agree_short, agree_end, agree_more, agree_not)

-- the order of two names, as `<` tells it
pub names_before : {a b x y : Name} → x ≡ a → y ≡ b → {t : Bool} → t ≡ is_some_and is_lt (slice_partial_cmp (λ i j. Some (nat_cmp i j)) x y) → t ≡ before a b
names_before {a} {b} e f p = rw (← e, ← f) (slice_before _ _ p)

-- a name against the best so far
module _ (after : Option Name) (k : Name) {best : Option (Bor Name × Decl)} where
  pub name_first : best ≡ None → nearer_name after (name_with best) k ≡ past before after k
  unfolding nearer_name
  name_first f = sym (nearer_first (λ n. n) before _ _ _ refl (ap name_with f))

  module _ {b : Bor Name × Decl} (f : best ≡ Some b) where
    pub name_past : before b.0.now k ≡ false → nearer_name after (name_with best) k ≡ past before after k
    unfolding nearer_name
    name_past w = sym (nearer_past (λ n. n) before _ _ _ refl (ap name_with f) w)

    pub name_before : before b.0.now k ≡ true → nearer_name after (name_with best) k ≡ false
    unfolding nearer_name
    name_before w = sym (nearer_before (λ n. n) before _ _ _ (ap name_with f) w)

-- the best declaration so far, with its name
abbrev pub Named : Option (Bor Name × Decl) → Type 0
Named best = IfSome best (λ b. b.0.now ≡ (decl_of b.1).name)

-- the same of the declarations
pub by_names : (after : Option Name) (best : Option (Bor Name × Decl)) → Named best → (d : Decl) {k : Name} → k ≡ (decl_of d).name
    → nearer_name after (name_with best) k ≡ nearer_decl after (option_map (λ b. decl_of b.1) best) (Some (decl_of d))
unfolding nearer_name nearer_decl nearer
by_names after None n d e = rw e refl
by_names after (Some b) n d e = rw (e, n) refl
