-- What stands of a schema and of one filed anew is alike, and so the changes, and refusal 11, are the same. Assumes nothing.
use mathlib.Core.Path.{◌≡◌, refl, sym, ap, ◌∙◌, subst}
use mathlib.Core.Bool.{Bool, ◌&&◌}
use mathlib.Core.Logic.{◌⊎◌, inl, inr}
use Rattle.std.specs.Prelude.{Option, None, Some}
use mathlib.Core.List.{List, Forall₂}
use Prim.Native.Nat.{ℕ}
use Rattle.maps.specs.Orders.{before}
use Rattle.maps.specs.Keyed.{lookup}
use Rattle.maps.specs.Reordered.{Put, here, later, Reordered, nothing, each, EachTwo}
use Rattle.maps.proofs.Names.{by_name}
use Rattle.maps.proofs.Reorderings.{In, each_two, reordered_map, reordered_all}
use Rattle.maps.proofs.Alike.{Both, neither, these, survivors_alike, lookup_alike}
use Rattle.maps.specs.Lists.{any}
use Rattle.image.specs.Schema.{Ty, Decl, Schema}
use Rattle.rules.specs.Survivors.{Registry, stands_for, resolved, listed, name_of, declarations, view_of}
use Rattle.rules.specs.Types.{same_type}
use Rattle.rules.specs.Clauses.{clauses_by, changes}
use Rattle.rules.specs.Verdict.{alias, is_alias, alias_pair}
use Rattle.rules.specs.Answer.{first_fault, compare_pair, alias_check, plain}
use Rattle.refiling.specs.Refiling.{Impls, NumbersOnce, ListedOnce, Unresolvable, RefiledId, renumbered, unresolvable, RefiledDecl, Renumbered, Refiled}
use Rattle.refiling.proofs.Clauses.{moved, impls_turn, LikeDecl, refiled, impls, like_name, like_kind, all_same}

-- ---- what stands

module _ {R S : Registry} {to from : ℕ → ℕ} (N : Renumbered R S to from) where
  put_none : {j : ℕ} {is js : List ℕ} → stands_for S j ≡ None → Put j is js → listed S is ≡ listed S js
  unfolding listed resolved
  put_none p here = rw p
  put_none p (later {b = b} q) = ap (resolved (stands_for S b)) (put_none p q)

  put_some : {j : ℕ} {e : Decl} {is js : List ℕ} → stands_for S j ≡ Some e → Put j is js → Put e (listed S is) (listed S js)
  unfolding listed resolved
  put_some p here = rw p here
  put_some {e = e} p (later {b = b} {l = l} {m = m} q) = go (stands_for S b) (put_some p q)
    where
      go : (o : Option Decl) → Put e (listed S l) (listed S m) → Put e (resolved o (listed S l)) (resolved o (listed S m))
      go None ih = ih
      go (Some d) ih = later ih

  -- the listed declarations are refiled, in any order
  pub listed_refiled : {is js : List ℕ} → Reordered (RefiledId R S to) is js → Reordered (RefiledDecl R S to) (listed R is) (listed S js)
  unfolding listed resolved Unresolvable
  listed_refiled nothing = nothing
  listed_refiled (each {a = i} (renumbered r e) rest p) =
      let x = moved N i r in rw x.stood (each x.anew (listed_refiled rest) (put_some (ap (stands_for S) e ∙ x.stands) p))
  listed_refiled (each {l = l} (unresolvable a b) rest p) =
      rw a (subst (Reordered (RefiledDecl R S to) (listed R l)) (put_none b p) (listed_refiled rest))

-- of two listed declarations of one name, each became what the other did
like_agree : {R S : Registry} {to : ℕ → ℕ} {l : List Decl} → EachTwo (λ d e. d.name ≡ e.name → (d ≡ e) ⊎ Impls d e) l → (e d : Decl)
    → In e l → In d l → e.name ≡ d.name → (f : Decl) → LikeDecl R S to d f → LikeDecl R S to e f
unfolding Impls
like_agree {R} {S} {to} once e d i j n f x = go (each_two (λ a b. a.name ≡ b.name → (a ≡ b) ⊎ Impls a b) (λ a b h k. turn a b (h (sym k))) once i j)
  where
    turn : (a b : Decl) → (a ≡ b) ⊎ Impls a b → (b ≡ a) ⊎ Impls b a
    turn a b (inl p) = inl (sym p)
    turn a b (inr k) = inr (impls_turn a b k)

    both : (e ≡ d) ⊎ Impls e d → LikeDecl R S to e f
    both (inl p) = subst (λ a. LikeDecl R S to a f) (sym p) x
    both (inr k) = impls (k.0, sym (like_kind x) ∙ k.1) (n ∙ like_name x)

    go : (e ≡ d) ⊎ (e.name ≡ d.name → (e ≡ d) ⊎ Impls e d) → LikeDecl R S to e f
    go (inl p) = both (inl p)
    go (inr h) = both (h n)

standing_alike : (s t : Schema) → ListedOnce s → (r : Refiled s t)
    → Forall₂ (LikeDecl s.registry t.registry r.to) (declarations s) (declarations t)
unfolding declarations
standing_alike s t o r =
    survivors_alike name_of by_name (LikeDecl s.registry t.registry r.to) (λ d e x. like_name x) (listed s.registry s.ids)
    (listed t.registry t.ids)
    (reordered_map (λ d e x. refiled x.0 x.1) (reordered_all NumbersOnce o.numbers (listed_refiled r.registry r.ids)))
    (like_agree o.names)

-- ---- the changes, and refusal 11

any_alike : {A : Type 0} {P : A → A → Type 0} (p q : A → Bool) → ((a b : A) → P a b → p a ≡ q b) → {l m : List A} → Forall₂ P l m
    → any p l ≡ any q m
unfolding any
any_alike p q h Forall₂.nil = refl
any_alike p q h (Forall₂.cons {a = a} {b = b} r w) = rw (h a b r, any_alike p q h w)

alias_same : {R S : Registry} {to : ℕ → ℕ} {d e : Decl} → LikeDecl R S to d e → alias d ≡ alias e
unfolding alias
alias_same x = rw (like_kind x)

is_alias_same : {R S : Registry} {to : ℕ → ℕ} {o p : Option Decl} → Both (LikeDecl R S to) o p → is_alias o ≡ is_alias p
unfolding is_alias
is_alias_same neither = refl
is_alias_same (these x) = alias_same x

alias_found : {R R' S S' : Registry} {to to' : ℕ → ℕ} {m n : List Decl} → Forall₂ (LikeDecl S S' to') m n → (d e : Decl) → LikeDecl R R' to d e
    → alias d && is_alias (lookup name_of before d.name m) ≡ alias e && is_alias (lookup name_of before e.name n)
alias_found w d e x = cc (alias_same x, like_name x, is_alias_same (lookup_alike name_of before (λ f g y. like_name y) e.name w))

module _ {old old' new new' : Schema} (o : ListedOnce old) (n : ListedOnce new) (a : Refiled old old') (b : Refiled new new') where
  -- for any way to read types
  pub changes_refiled : (same : Ty → Ty → Bool)
      → changes (clauses_by same) (view_of old) (view_of new) ≡ changes (clauses_by same) (view_of old') (view_of new')
  unfolding changes view_of
  changes_refiled same =
      cc (a.namespace, b.namespace, all_same same a.registry b.registry (standing_alike old old' o a) (standing_alike new new' n b))

  pub alias_refiled : alias_pair (view_of old) (view_of new) ≡ alias_pair (view_of old') (view_of new')
  unfolding alias_pair view_of
  alias_refiled = any_alike _ _ (alias_found (standing_alike new new' n b)) (standing_alike old old' o a)

  pub pair_refiled : compare_pair plain old new ≡ compare_pair plain old' new'
  unfolding compare_pair first_fault alias_check
  pair_refiled = rw (alias_refiled, changes_refiled same_type)
