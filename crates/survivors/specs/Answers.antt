-- What the searches answer as values, and the walks over what stands. Assumes nothing.
use Rattle.std.specs.Prelude.{◌≡◌, Bool, true, false, List, ◌++◌, ℕ, ltb, length, Option, None, Some, IfSome}
use Rattle.std.specs.Borrow.{Bor}
use Rattle.std.specs.Option.{option_map, is_some}
use Rattle.maps.specs.Keyed.{lookup}
use Rattle.maps.specs.Orders.{before}
use Rattle.maps.specs.Walk.{above, following, nearer, covers}
use Rattle.image.specs.Schema.{Name, Decl as Declaration}
use Rattle.parts.specs.Promise.{ordinal_in}
use Rattle.parts.specs.Handles.{schema_in, decl_of}
use Rattle.parts.specs.declared.handles.Image.{Image}
use Rattle.parts.specs.declared.handles.Decl.{Decl}
use Rattle.members.specs.Handles.{places_of}
use Rattle.members.specs.declared.handles.Items.{Items}
use Rattle.members.specs.declared.handles.Item.{Item}
use Rattle.rules.specs.Survivors.{listed, name_of}
use Rattle.rules.specs.Imports.{marked_ids, standing_with}
use Rattle.survivors.specs.Items.{place_map}
use Rattle.survivors.specs.declared.decls.Declarations.{Declarations}
use Rattle.survivors.specs.declared.decls.StandingDecls.{StandingDecls}
use Rattle.survivors.specs.declared.standing.StandingItems.{StandingItems}

-- ---- declarations: `standing` are those that stand in an image

abbrev pub standing_of : Declarations → List Declaration
standing_of ds = standing_with ds.reached.now (schema_in ds.image)

-- the name of a declaration, if there is one
abbrev pub named : Option Decl → Option Name
named r = option_map name_of (option_map decl_of r)

-- the declaration that stands under a name
pub record Survives (standing : List Declaration) (i : Image) (name : Name) (r : Option Decl) : Type 0 where
  pub value : option_map decl_of r ≡ lookup name_of before name standing
  pub image : IfSome r (λ d. d.image ≡ i)

-- the declaration that stands under the next name
pub record Follows (standing : List Declaration) (i : Image) (after r : Option Decl) : Type 0 where
  pub value : option_map decl_of r ≡ following name_of before (named after) standing
  pub image : IfSome r (λ d. d.image ≡ i)

-- a walk over the declarations that stand, at its start
pub record StandsAmong (ds : Declarations) (w : StandingDecls) : Type 0 where
  pub declarations : w.declarations ≡ ds
  pub after : w.after ≡ None

-- a step of it: the declaration that stands under the next name, and from there on
pub record NextDecl (w : StandingDecls) (r : Option Decl) (v : StandingDecls) : Type 0 where
  pub follows : Follows (standing_of w.declarations) w.declarations.image w.after r
  pub declarations : v.declarations ≡ w.declarations
  pub after : IfSome r (λ d. v.after ≡ Some d)

-- how many declarations it has yet to meet
unfoldable pub decls_left : Declarations → Option Decl → ℕ
decls_left ds after = length (above name_of before (named after) (standing_of ds))

-- a name that is lent, if there is one; with the declaration that has it
abbrev pub name_at : Option (Bor Name) → Option Name
name_at = option_map (λ n. n.now)

abbrev pub name_with : Option (Bor Name × Decl) → Option Name
name_with = option_map (λ b. b.0.now)

-- whether a name takes the place of the best name so far, if any
unfoldable pub nearer_name : Option Name → Option Name → Name → Bool
nearer_name b best k = nearer (λ n. n) before b best k

-- whether an entry more takes the place of the best declaration so far: one that is unresolvable is skipped
unfoldable pub nearer_decl : Option Name → Option Declaration → Option Declaration → Bool
nearer_decl b best None = false
nearer_decl b best (Some d) = nearer name_of before b best d

-- whether n has one under the name of a declaration, if there is one
unfoldable pub namesake_in : List Declaration → Option Declaration → Bool
namesake_in n None = true
namesake_in n (Some d) = is_some (lookup name_of before d.name n)

-- whether n has each name of what may stand
unfoldable pub names_covered : List Declaration → Declarations → Bool
names_covered n ds = covers name_of before n (listed (schema_in ds.image).registry (marked_ids 0 ds.reached.now ++ (schema_in ds.image).ids))

-- ---- items, as values

abbrev pub ordinal_at : Item → ℕ
ordinal_at i = ordinal_in i.image.bytes.now i.at

abbrev pub place_of : Item → ℕ
place_of i = i.at

-- an item in the image of others, and of their shape
pub record Among (x : Items) (i : Item) : Type 0 where
  pub image : i.image ≡ x.image
  pub shape : i.shape ≡ x.shape

-- the item at a place, if there is one, in the image of others and of their shape
pub record ItemAt (x : Items) (at : Option ℕ) (r : Option Item) : Type 0 where
  pub place : option_map place_of r ≡ at
  pub among : IfSome r (Among x)

-- the item that stands under an ordinal
pub record StandsUnder (x : Items) (k : ℕ) (r : Option Item) : Type 0 where
  pub item : ItemAt x (lookup (ordinal_in x.image.bytes.now) ltb k (place_map (places_of x))) r

-- the item that stands under the next ordinal
pub record StandsNext (x : Items) (after : Option ℕ) (r : Option Item) : Type 0 where
  pub item : ItemAt x (following (ordinal_in x.image.bytes.now) ltb after (place_map (places_of x))) r

-- a walk over the items that stand, at its start
pub record StandsIn (x : Items) (w : StandingItems) : Type 0 where
  pub items : w.items ≡ x
  pub after : w.after ≡ None

-- a step of it: the item that stands under the next ordinal, and from there on
pub record NextItem (w : StandingItems) (r : Option Item) (v : StandingItems) : Type 0 where
  pub follows : StandsNext w.items w.after r
  pub items : v.items ≡ w.items
  pub after : IfSome r (λ i. v.after ≡ Some (ordinal_at i))

-- how many items it has yet to meet
unfoldable pub items_left : Items → Option ℕ → ℕ
items_left x after = length (above (ordinal_in x.image.bytes.now) ltb after (place_map (places_of x)))
