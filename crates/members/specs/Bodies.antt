-- The bodies of declarations and variants: what they hold, and what they strike off. Assumes nothing.
use Rattle.std.specs.Prelude.{◌≡◌, List, ℕ, ◌≤◌, ◌<◌, Option, MatchOption}
use Rattle.image.specs.Codes.{number, union_kind}
use Rattle.image.specs.Kinds.{kind_of}
use Rattle.parts.specs.Promise.{items_in, shape_by, tombstones_in}
use Rattle.parts.specs.Handles.{decl_of}
use Rattle.parts.specs.declared.Shape.{Shape}
use Rattle.parts.specs.declared.handles.Decl.{Decl}
use Rattle.members.specs.Handles.{ItemsAt, place_after}
use Rattle.members.specs.declared.handles.Body.{Body}

-- the numbers that a body strikes off
abbrev pub struck_in : Body → List ℕ
struck_in b = tombstones_in b.items.image.bytes.now (place_after b.items)

-- the shape of the items of a kind: a kind that has none has no shape
abbrev pub ShapeOf : ℕ → Option Shape → Type 0
ShapeOf kind r = MatchOption r ((number union_kind) < kind) (λ h. (kind ≤ number union_kind) × (h ≡ shape_by (kind_of kind)))

-- the body of a declaration: of a kind that has none there is none
abbrev pub DeclBody : Decl → Option Body → Type 0
DeclBody d r =
    MatchOption r ((number union_kind) < (decl_of d).kind)
    (λ b. ((decl_of d).kind ≤ number union_kind) × ItemsAt d.image (shape_by (kind_of (decl_of d).kind)) (items_in d.image.bytes.now d.at) b.items)
