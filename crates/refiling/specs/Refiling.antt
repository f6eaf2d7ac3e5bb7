-- R-13 of document 02, "Filing order must not matter": when a schema has no repeats, when one is another filed anew, and what is claimed of
-- the calls then. Assumes nothing.
use Rattle.std.specs.Prelude.{◌≡◌, ◌⊎◌, Bool, List, [], ◌∷◌, ℕ, ◌≤◌, length, take, None, Some}
use Rattle.maps.specs.Lists.{All}
use Rattle.maps.specs.Reordered.{Reordered, EachTwo, Once}
use Rattle.image.specs.Schema.{Name, Label, label, Ty, leaf, one, two, Field, Variant, Decl, Schema}
use Rattle.image.specs.Codes.{number, impl_kind, named_tag}
use Rattle.image.specs.Parse.{ok}
use Rattle.image.specs.Image.{read_image}
use Rattle.rules.specs.Survivors.{Registry, stands_for, resolved, listed, ordinal_of, variant_ordinal, view_of}
use Rattle.rules.specs.Clauses.{clauses_by, changes}
use Rattle.rules.specs.Answer.{checked, verdict_of, returned, leaves}

-- ---- "Take images in which no two resolvable declarations share a name, impls among themselves excepted, and no two numbers repeat within
-- a body or variant."

-- both are impls, kind 8
unfoldable pub Impls : Decl → Decl → Type 0
Impls d e = (d.kind ≡ number impl_kind) × (e.kind ≡ number impl_kind)

-- two declarations that share a name are impls
unfoldable pub NamesOnce : List Decl → Type 0
NamesOnce ds = EachTwo (λ d e. d.name ≡ e.name → Impls d e) ds

-- no number stands twice among the fields, among the variants or bits, or among the fields of one variant
pub record NumbersOnce (d : Decl) : Type 0 where
  pub fields : Once ordinal_of d.fields
  pub variants : Once variant_ordinal d.variants
  pub variant_fields : All (λ v. Once ordinal_of v.fields) d.variants

-- what the entries hold that are not empty, listed or not
unfoldable pub entries : Registry → List Decl
entries [] = []
entries (e ∷ R) = resolved e (entries R)

-- names are looked at in the declaration list, where unresolvable ids are skipped, and numbers in every body
pub record NoRepeats (s : Schema) : Type 0 where
  pub names : NamesOnce (listed s.registry s.ids)
  pub numbers : All NumbersOnce (entries s.registry)

-- The other reading of "resolvable declarations": the entries of the registry, no two of which share a name; one may then be listed twice.
pub record EntriesOnce (s : Schema) : Type 0 where
  pub names : NamesOnce (entries s.registry)
  pub numbers : All NumbersOnce (entries s.registry)

-- What the proof needs is less than either: only listed declarations are looked at, and two of one name may hold the same.
pub record ListedOnce (s : Schema) : Type 0 where
  pub names : EachTwo (λ d e. d.name ≡ e.name → (d ≡ e) ⊎ Impls d e) (listed s.registry s.ids)
  pub numbers : All NumbersOnce (listed s.registry s.ids)

-- ---- "Reordering declarations, fields, variants and flag bits, and renumbering the registry with every id following"

-- "An id that is N or more, or whose entry is empty, is unresolvable"
unfoldable pub Unresolvable : Registry → ℕ → Type 0
Unresolvable R i = stands_for R i ≡ None

unfoldable pub Resolvable : Registry → ℕ → Type 0
Resolvable R i = Unresolvable R i → ⊥

-- R is the registry before, S the one after, and `to` gives an id its new number
module _ (R S : Registry) (to : ℕ → ℕ) where
  -- what an id becomes: its new number. "Unresolvable ids may become any other unresolvable ids.", each for itself.
  pub data RefiledId : ℕ → ℕ → Type 0 where
    renumbered : {i j : ℕ} → Resolvable R i → j ≡ to i → RefiledId i j
    unresolvable : {i j : ℕ} → Unresolvable R i → Unresolvable S j → RefiledId i j

  -- in a type every id follows, and nothing else changes: the names of inline `bits` keep their order
  pub data RefiledLabel : Label → Label → Type 0 where
    named : {i j second : ℕ} {names : List Name} → RefiledId i j
        → RefiledLabel (label (number named_tag) i second names) (label (number named_tag) j second names)
    other : {tag first second : ℕ} {m n : List Name} → (tag ≡ number named_tag → ⊥) → m ≡ n → RefiledLabel (label tag first second m) (label tag first second n)

  pub data RefiledType : Ty → Ty → Type 0 where
    a_leaf : {l m : Label} → RefiledLabel l m → RefiledType (leaf l) (leaf m)
    a_one : {l m : Label} {t u : Ty} → RefiledLabel l m → RefiledType t u → RefiledType (one l t) (one m u)
    a_two : {l m : Label} {t u v w : Ty} → RefiledLabel l m → RefiledType t u → RefiledType v w → RefiledType (two l t v) (two m u w)

  pub record RefiledField (f g : Field) : Type 0 where
    pub ordinal : f.ordinal ≡ g.ordinal
    pub name : f.name ≡ g.name
    pub marks : f.marks ≡ g.marks
    pub encoding : f.encoding ≡ g.encoding
    pub limit : f.limit ≡ g.limit
    pub type : RefiledType f.type g.type

  -- A variant of an enum or a union, or a bit of flags. That it keeps what it strikes off is not asked: the report of 01 skips it.
  pub record RefiledVariant (v w : Variant) : Type 0 where
    pub ordinal : v.ordinal ≡ w.ordinal
    pub name : v.name ≡ w.name
    pub fields : Reordered RefiledField v.fields w.fields

  -- that it keeps its width and what it strikes off is not asked: the report of 01 reads neither
  pub record RefiledDecl (d e : Decl) : Type 0 where
    pub kind : d.kind ≡ e.kind
    pub name : d.name ≡ e.name
    pub marks : d.marks ≡ e.marks
    pub fields : Reordered RefiledField d.fields e.fields
    pub variants : Reordered RefiledVariant d.variants e.variants
    pub inner : RefiledType d.inner e.inner

-- `to` and `from` take the resolvable ids of R and those of S into each other, each the other's inverse, and the entry of an id is refiled
-- under its new number
pub record Renumbered (R S : Registry) (to from : ℕ → ℕ) : Type 0 where
  pub there : (i : ℕ) → Resolvable R i → Resolvable S (to i) × (from (to i) ≡ i)
  pub back : (j : ℕ) → Resolvable S j → Resolvable R (from j) × (to (from j) ≡ j)
  pub entry : (i : ℕ) (d e : Decl) → stands_for R i ≡ Some d → stands_for S (to i) ≡ Some e → RefiledDecl R S to d e

-- t is s filed anew, in the same format or in another
pub record Refiled (s t : Schema) : Type 0 where
  pub to : ℕ → ℕ
  pub from : ℕ → ℕ
  pub registry : Renumbered s.registry t.registry to from
  pub ids : Reordered (RefiledId s.registry t.registry to) s.ids t.ids
  pub namespace : s.namespace ≡ t.namespace

-- Filing anew is an equivalence, and keeps what has no repeats so.
pub record Refilings : Type 0 where
  pub itself : (s : Schema) → Refiled s s
  pub back : (s t : Schema) → Refiled s t → Refiled t s
  pub further : (s t u : Schema) → Refiled s t → Refiled t u → Refiled s u
  pub no_repeats : (s t : Schema) → Refiled s t → NoRepeats s → NoRepeats t

-- ---- "must leave the report of 01 the same byte for byte. .. Accepted images on both sides are the premise, and a buffer that holds the
-- report."

-- a buffer that holds the report
abbrev pub Holds : List ℕ → List ℕ → List ℕ → Type 0
Holds old new out = verdict_of old new 4 ≤ length out

-- both images are accepted: P holds of the schema of a, and b holds that schema filed anew
pub record RefiledImage (P : Schema → Type 0) (a b : List ℕ) : Type 0 where
  pub before : Schema
  pub after : Schema
  pub before_end : ℕ
  pub after_end : ℕ
  pub before_read : read_image a ≡ ok before before_end
  pub after_read : read_image b ≡ ok after after_end
  pub holds : P before
  pub refiled : Refiled before after

-- Two pairs of images get one answer from both calls.
pub record SameAnswers (old new old' new' : List ℕ) : Type 0 where
  -- the refusal, by number and side, or the changes: all that the calls answer is made of it
  pub outcome : checked old new ≡ checked old' new'
  -- the verdict call, by selector
  pub verdict : (selector : ℕ) → verdict_of old new selector ≡ verdict_of old' new' selector
  -- the report call in one and the same buffer, large enough or not: what it returns, and the whole buffer after it
  pub returns : (out : List ℕ) → returned old new out ≡ returned old' new' out
  pub buffer : (out : List ℕ) → leaves old new out ≡ leaves old' new' out
  -- the report call in any two buffers that hold the report, whose length is selector 4: what it returns, and so many bytes of the buffer
  pub lengths : (out out' : List ℕ) → Holds old new out → Holds old' new' out' → returned old new out ≡ returned old' new' out'
  pub report : (out out' : List ℕ) → Holds old new out → Holds old' new' out'
      → take (returned old new out) (leaves old new out) ≡ take (returned old' new' out') (leaves old' new' out')

-- Filing anew does not affect the answers on images with P. Of those filed anew nothing is asked but that they are accepted.
abbrev pub Unaffected : (Schema → Type 0) → Type 0
Unaffected P = (old new old' new' : List ℕ) → RefiledImage P old old' → RefiledImage P new new' → SameAnswers old new old' new'

-- With either reading of "resolvable declarations", and with less; and over schemas, in whatever way a verdict reads types.
pub record FilingOrder : Type 0 where
  pub no_repeats : Unaffected NoRepeats
  pub entries_once : Unaffected EntriesOnce
  pub listed_once : Unaffected ListedOnce
  pub any_types : (same : Ty → Ty → Bool) (old new old' new' : Schema) → ListedOnce old → ListedOnce new → Refiled old old' → Refiled new new'
      → changes (clauses_by same) (view_of old) (view_of new) ≡ changes (clauses_by same) (view_of old') (view_of new')
