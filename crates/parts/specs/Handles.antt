-- The values that handles stand for: an image, a declaration, a type. Assumes nothing.
use Rattle.std.specs.Prelude.{◌≡◌, List, ℕ, Option, None, Result, get_or, IfSome, IfOk}
use Rattle.std.specs.Option.{option_map}
use Rattle.image.specs.Image.{read_image}
use Rattle.image.specs.Schema.{Name, Schema, Label, Ty, Decl as Declaration}
use Rattle.image.specs.declared.refusals.Refusal.{Refusal}
use Rattle.reader.specs.Answer.{refused_by, refusal_in}
use Rattle.parts.specs.Promise.{schema_of, names_in, decl_in, label_in, tree_in}
use Rattle.parts.specs.declared.handles.Image.{Image}
use Rattle.parts.specs.declared.handles.Names.{Names}
use Rattle.parts.specs.declared.handles.Decl.{Decl}
use Rattle.parts.specs.declared.handles.TypeRef.{TypeRef}

abbrev pub schema_in : Image → Schema
schema_in i = schema_of i.bytes.now

abbrev pub names_of : Names → List Name
names_of n = names_in n.bytes.now n.run

abbrev pub decl_of : Decl → Declaration
decl_of d = decl_in d.image.bytes.now d.at

-- the label of a type's first node, and the type
abbrev pub label_of : TypeRef → Label
label_of t = label_in t.image.bytes.now t.at

abbrev pub tree_of : TypeRef → Ty
tree_of t = tree_in t.image.bytes.now t.at

-- bytes are read as an image of these bytes, or refused by the first refusal
pub record Reads (s : List ℕ) (r : Result Image Refusal) : Type 0 where
  pub refusal : refused_by r ≡ refusal_in (read_image s)
  pub bytes : IfOk r (λ i. i.bytes.now ≡ s)

-- the declaration of an image that an id stands for
pub record Resolves (i : Image) (id : ℕ) (r : Option Decl) : Type 0 where
  pub value : option_map decl_of r ≡ get_or (schema_in i).registry id None
  pub image : IfSome r (λ d. d.image ≡ i)

-- the type at a place of an image, of at most so many nodes on a path
pub record TypeAt (i : Image) (most place : ℕ) (r : TypeRef) : Type 0 where
  pub image : r.image ≡ i
  pub left : r.left ≡ most
  pub at : r.at ≡ place
