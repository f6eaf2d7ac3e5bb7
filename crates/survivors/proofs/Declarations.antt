-- What the searches over the declarations say of those that stand: for a walk over them by rising name. Assumes nothing.
use mathlib.Core.Path.{◌≡◌, sym, ◌∙◌}
use Rattle.std.specs.Prelude.{Option, None, Some}
use mathlib.Core.List.{List}
use Rattle.maps.specs.Orders.{before}
use Rattle.maps.specs.Keyed.{lookup}
use Rattle.maps.specs.Walk.{following}
use Rattle.image.specs.Schema.{Name, Decl as Declaration}
use Rattle.parts.specs.Handles.{decl_of}
use Rattle.parts.specs.declared.handles.Image.{Image}
use Rattle.parts.specs.declared.handles.Decl.{Decl}
use Rattle.rules.specs.Survivors.{name_of}
use Rattle.survivors.specs.Answers.{named, Survives, Follows}
-- a declaration that was found or not, and its name: where a walk starts, and the bound after a declaration
pub use Rattle.survivors.proofs.Laws.Nearest.{decl_none, decl_body, named_none, named_body}

-- ---- the answers, where m are the declarations that stand

-- of `survivor`
module _ {m : List Declaration} {i : Image} {name : Name} {r : Option Decl} (h : Survives m i name r) where
  pub survives_none : r ≡ None → lookup name_of before name m ≡ None
  survives_none e = sym h.value ∙ decl_none e

  module _ {d : Decl} (e : r ≡ Some d) where
    pub survives_body : lookup name_of before name m ≡ Some (decl_of d)
    survives_body = sym h.value ∙ decl_body e

    pub survives_image : d.image ≡ i
    survives_image = rw e at h.image

-- of `following`
module _ {m : List Declaration} {i : Image} {after r : Option Decl} (h : Follows m i after r) where
  pub follows_none : r ≡ None → following name_of before (named after) m ≡ None
  follows_none e = sym h.value ∙ decl_none e

  module _ {d : Decl} (e : r ≡ Some d) where
    pub follows_body : following name_of before (named after) m ≡ Some (decl_of d)
    follows_body = sym h.value ∙ decl_body e

    pub follows_image : d.image ≡ i
    follows_image = rw e at h.image
