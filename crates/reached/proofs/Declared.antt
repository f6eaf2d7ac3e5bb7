-- Declarations marked: one by its kind, the entry of an id, the survivors by rising name. Assumes nothing.
use mathlib.Core.Path.{◌≡◌, refl, sym, ap, ◌∙◌}
use mathlib.Core.Bool.{Bool, true, false, false≢true}
use mathlib.Core.List.{List, [], flat_map, append-nil}
use Prim.Native.Nat.{ℕ, zero, suc, ◌<◌}
use native.Mathlib.Omega.{arith}
use borrow.Author.Tests.{eqb-true}
use lib.Dec.{eqb}
use Rattle.std.specs.Prelude.{Option, None, Some}
use Rattle.std.specs.Option.{option_map}
use Rattle.maps.specs.Keyed.{lookup}
use Rattle.maps.specs.Orders.{before}
use Rattle.maps.specs.Compare.{between}
use Rattle.image.specs.Schema.{Name, Decl as Declaration}
use Rattle.parts.specs.Kinds.{kind_of}
use Rattle.parts.specs.Promise.{decl_in, items_in}
use Rattle.parts.specs.Handles.{schema_in, decl_of, tree_of, Resolves}
use Rattle.parts.specs.declared.Shape.{Shape}
use Rattle.parts.specs.declared.handles.Image.{Image}
use Rattle.parts.specs.declared.handles.Decl.{Decl}
use Rattle.parts.specs.declared.handles.TypeRef.{TypeRef}
use Rattle.parts.proofs.Promise.{message_listed, union_listed}
use Rattle.members.specs.Handles.{ItemsAt}
use Rattle.members.specs.Kinds.{Sorted}
use Rattle.members.specs.declared.handles.Items.{Items}
use Rattle.members.specs.declared.kinds.Message.{Message}
use Rattle.members.specs.declared.kinds.Union.{Union}
use Rattle.members.specs.declared.kinds.Newtype.{Newtype}
use Rattle.members.specs.declared.kinds.ByKind.{ByKind}
use Rattle.members.specs.declared.kinds.ByKind.TheVariants as by
use Rattle.rules.specs.Survivors.{stands_for, name_of, declarations, view_of}
use Rattle.rules.specs.Clauses.{types_of}
use Rattle.rules.specs.Reached.{named_in, named_of, named_by, named_from, IdSet}
use Rattle.rules.proofs.ReachedSets.{mark_all_kept}
use Rattle.rules.proofs.Reached.{named_from_lem, survivor_named}
use Rattle.rules.proofs.Standing.{standing_none, view_rises}
use Rattle.survivors.specs.Answers.{standing_of, Survives, Follows, NextDecl}
use Rattle.survivors.specs.declared.decls.Declarations.{Declarations}
use Rattle.survivors.specs.declared.decls.StandingDecls.{StandingDecls}
use Rattle.survivors.proofs.Declarations.{survives_body, survives_image, follows_image}
use Rattle.survivors.proofs.Runs.{listed_hold}
use Rattle.survivors.proofs.Walks.{rest_decls, decls_start, decls_done, decls_turn}
use Rattle.reached.specs.Marks.{Started, Marked, StandsAt, Listed, OverSurvivors}
use Rattle.reached.specs.Named.{named_items}
use Rattle.reached.proofs.Marking.{ready_in, marked_in, marked_none, marked_as, Owing, owing_start, owing_ready, owing_turn, owing_done}
use Rattle.survivors.proofs.Walks.{each}
use Rattle.reached.proofs.Walks.{fields_named, variants_named, listed_marked}

-- ---- a declaration by its kind

no_types : (n : ℕ) (d : Declaration) → (n ≡ 0 → ⊥) → (n ≡ 3 → ⊥) → (n ≡ 4 → ⊥) → types_of (kind_of n) d ≡ []
unfolding types_of kind_of
no_types zero d a b c = absurd (a refl)
no_types (suc zero) d a b c = refl
no_types (suc (suc zero)) d a b c = refl
no_types (suc (suc (suc zero))) d a b c = absurd (b refl)
no_types (suc (suc (suc (suc zero)))) d a b c = absurd (c refl)
no_types (suc (suc (suc (suc (suc zero))))) d a b c = refl
no_types (suc (suc (suc (suc (suc (suc zero)))))) d a b c = refl
no_types (suc (suc (suc (suc (suc (suc (suc zero))))))) d a b c = refl
no_types (suc (suc (suc (suc (suc (suc (suc (suc zero)))))))) d a b c = refl
no_types (suc (suc (suc (suc (suc (suc (suc (suc (suc n))))))))) d a b c = refl

-- a kind that is known
named_kind : (d : Declaration) {c : ℕ} → d.kind ≡ c → flat_map named_in (types_of (kind_of c) d) ≡ named_of d
unfolding named_of
named_kind d z = ap (λ c. flat_map named_in (types_of (kind_of c) d)) (sym z)

-- a declaration of a kind, by what it holds
module _ {d : Decl} where
  pub message_marked : (a : Message) → a.decl ≡ d → {x : Items} → ItemsAt a.decl.image Shape.Field (items_in a.decl.image.bytes.now a.decl.at) x → {m n : IdSet}
      → Marked x.image m (named_items Shape.Field x) n → Marked d.image m (named_of (decl_of d)) n
  unfolding types_of kind_of
  message_marked a e f k =
      let l = message_listed a.decl.image.bytes.now a.decl.at a.decl.here a.is in
      rw e at (marked_in f.image (marked_as (listed_marked (listed_hold f l) k) (sym (fields_named (decl_of a.decl).fields) ∙ named_kind (decl_of a.decl) a.is)))

  pub union_marked : (a : Union) → a.decl ≡ d → {x : Items} → ItemsAt a.decl.image Shape.Variant (items_in a.decl.image.bytes.now a.decl.at) x → {m n : IdSet}
      → Marked x.image m (named_items Shape.Variant x) n → Marked d.image m (named_of (decl_of d)) n
  unfolding types_of kind_of
  union_marked a e f k =
      let l = union_listed a.decl.image.bytes.now a.decl.at a.decl.here a.is in
      rw e at (marked_in f.image (marked_as (listed_marked (listed_hold f l) k) (sym (variants_named (decl_of a.decl).variants) ∙ named_kind (decl_of a.decl) a.is)))

  pub newtype_marked : (a : Newtype) → a.decl ≡ d → (t : TypeRef) → t.image ≡ a.decl.image → tree_of t ≡ (decl_of a.decl).inner → {m n : IdSet}
      → Marked t.image m (named_in (tree_of t)) n → Marked d.image m (named_of (decl_of d)) n
  unfolding types_of kind_of flat_map
  newtype_marked a e t f g k =
      rw e at (marked_as (marked_in f k)
      (ap named_in g ∙ (sym (append-nil (named_in (decl_of a.decl).inner)) ∙ named_kind (decl_of a.decl) a.is)))

other_names : (d : Decl) → ((decl_of d).kind ≡ 0 → ⊥) → ((decl_of d).kind ≡ 3 → ⊥) → ((decl_of d).kind ≡ 4 → ⊥) → {m : IdSet}
    → Marked d.image m (named_of (decl_of d)) m
unfolding flat_map
other_names d a b c = marked_as marked_none (ap (flat_map named_in) (sym (no_types (decl_of d).kind (decl_of d) a b c)) ∙ named_kind (decl_of d) refl)

-- one that has no compared types
pub other_marked : (d : Decl) (r : ByKind) → Sorted d r → ((a : Message) → r ≡ by.Message a → ⊥) → ((a : Union) → r ≡ by.Union a → ⊥)
    → ((a : Newtype) → r ≡ by.Newtype a → ⊥) → {m : IdSet} → Marked d.image m (named_of (decl_of d)) m
other_marked d (by.Message a) o x y z = absurd (x a refl)
other_marked d (by.Enum a) o x y z =
    let k : (decl_of d).kind ≡ 1 = ap (λ e. (decl_of e).kind) (sym o) ∙ a.is in
    other_names d (λ e. absurd (omega arith)) (λ e. absurd (omega arith)) (λ e. absurd (omega arith))
other_marked d (by.Flags a) o x y z =
    let k : (decl_of d).kind ≡ 2 = ap (λ e. (decl_of e).kind) (sym o) ∙ a.is in
    other_names d (λ e. absurd (omega arith)) (λ e. absurd (omega arith)) (λ e. absurd (omega arith))
other_marked d (by.Union a) o x y z = absurd (y a refl)
other_marked d (by.Newtype a) o x y z = absurd (z a refl)
other_marked d by.Silent o x y z =
    let k : 4 < (decl_of d).kind = o in
    other_names d (λ e. absurd (omega arith)) (λ e. absurd (omega arith)) (λ e. absurd (omega arith))

-- ---- the entry of an id

module _ {i : Image} {id : ℕ} {r : Option Decl} (h : Resolves i id r) where
  pub entry_none : r ≡ None → {m : IdSet} → Marked i m (named_by (stands_for (schema_in i).registry id)) m
  unfolding named_by stands_for
  entry_none e = marked_as marked_none (ap named_by (sym (ap (option_map decl_of) e) ∙ h.value))

  module _ {d : Decl} (e : r ≡ Some d) where
    pub entry_image : d.image ≡ i
    entry_image = rw e at h.image

    pub entry_marked : {m n : IdSet} → Marked d.image m (named_of (decl_of d)) n → Marked i m (named_by (stands_for (schema_in i).registry id)) n
    unfolding named_by stands_for
    entry_marked k = marked_as (marked_in entry_image k) (ap named_by (sym (ap (option_map decl_of) e) ∙ h.value))

    -- what a survivor names is marked already
    pub entry_kept : {m : IdSet} → Started i m → {b : Bool} → StandsAt d b → b ≡ true → Marked i m (named_by (stands_for (schema_in i).registry id)) m
    entry_kept {m} w a t = entry_marked kept
      where
        kept : Marked d.image m (named_of (decl_of d)) m
        kept =
            let w' = rw (← entry_image) at w in
            record {
              is =
                  sym (mark_all_kept (schema_in d.image).registry m (named_of (decl_of d))
                  (λ j n. w'.first j (survivor_named (schema_in d.image) (decl_of d).name (decl_of d) (a.stands t) j n)));
            }

-- ---- the survivors

-- over the listed ids alone
pub listed_survive : {i : Image} (ds : Declarations) → ds.image ≡ i → ds.reached.now ≡ [] → Listed i ds
listed_survive {i} ds e f = record { image = e; standing = rw (e, f) (standing_none (schema_in i)) }

-- what was found over them under the name of a declaration
module _ {d : Decl} {ds : Declarations} (l : Listed d.image ds) {name : Name} (q : name ≡ (decl_of d).name) {r : Option Decl}
    (h : Survives (standing_of ds) ds.image name r) where
  pub stands_not : StandsAt d false
  stands_not = record { stands = λ t. absurd (false≢true t) }

  pub stands_there : {f : Decl} → r ≡ Some f → {b : Bool} → b ≡ eqb f.at d.at → StandsAt d b
  stands_there {f} e {b} u = record { stands = told }
    where
      told : b ≡ true → lookup name_of before (decl_of d).name (declarations (schema_in d.image)) ≡ Some (decl_of d)
      told t =
          let here : f.at ≡ d.at = eqb-true _ _ (sym u ∙ t) in
          rw (← q, ← l.standing) (survives_body h e)
          ∙ ap Some (ap (λ i. decl_in i.bytes.now f.at) (survives_image h e ∙ l.image) ∙ ap (decl_in d.image.bytes.now) here)

unfoldable pub to_mark_decls : Image → Option Decl → List ℕ
to_mark_decls i after = rest_decls (each named_of) (declarations (schema_in i)) [] after

-- a walk over the survivors: what the marks at its start are yet to have
pub record Marking (i : Image) (m₀ : IdSet) (whole : List ℕ) (m : IdSet) (w : StandingDecls) : Type 0 where
  pub listed : Listed i w.declarations
  pub owing : Owing i m₀ whole m (to_mark_decls i w.after)

pub decls_first : {i : Image} {w : StandingDecls} → OverSurvivors i w → {m : IdSet} → Marking i m (named_from (view_of (schema_in i))) m w
unfolding view_of to_mark_decls between each
decls_first {i} o = record {
  listed = o.listed;
  owing = rw o.after (owing_start (named_from_lem (view_of (schema_in i)) ∙ sym (decls_start (each named_of) (declarations (schema_in i)) [])));
}

module _ {i : Image} {m₀ m : IdSet} {whole : List ℕ} {w : StandingDecls} (v : Marking i m₀ whole m w) {w' : StandingDecls} where
  follows_in : {r : Option Decl} → NextDecl w r w' → Follows (declarations (schema_in i)) i w.after r
  follows_in n = rw (v.listed.standing, v.listed.image) at n.follows

  pub decls_last : NextDecl w None w' → Marked i m₀ whole m
  unfolding to_mark_decls
  decls_last n = owing_done v.owing (decls_done (each named_of) (declarations (schema_in i)) [] (follows_in n) refl)

  module _ {d : Decl} (n : NextDecl w (Some d) w') where
    pub decl_image : d.image ≡ i
    decl_image = follows_image (follows_in n) refl

    pub decls_go : {m' : IdSet} → Marked d.image m (named_of (decl_of d)) m' → Marking i m₀ whole m' w'
    unfolding to_mark_decls each view_of
    decls_go k = record {
      listed = rw (← n.declarations) at v.listed;
      owing =
          rw n.after
          (owing_turn v.owing (decls_turn (each named_of) (declarations (schema_in i)) [] (follows_in n) (view_rises (schema_in i)) refl) (marked_in decl_image k));
    }

-- what the code needs
pub ruleset kinds = (message_marked, union_marked, newtype_marked, other_marked, ready_in)

pub ruleset entries = (entry_none, entry_image, entry_marked, entry_kept, ready_in)

pub ruleset stands = (stands_not, stands_there)

pub ruleset survivors = (decls_first, decls_last, decl_image, decls_go, owing_ready, ready_in)
