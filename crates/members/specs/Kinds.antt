-- What a declaration by its kind stands for. Assumes nothing.
use Rattle.std.specs.Prelude.{◌≡◌, ◌<◌}
use Rattle.image.specs.Codes.{number, newtype_kind}
use Rattle.parts.specs.Handles.{decl_of}
use Rattle.parts.specs.declared.handles.Decl.{Decl}
use Rattle.members.specs.declared.kinds.ByKind.{ByKind}
use Rattle.members.specs.declared.kinds.ByKind.TheVariants as by

abbrev pub Sorted : Decl → ByKind → Type 0
Sorted d (by.Message m) = m.decl ≡ d
Sorted d (by.Enum e) = e.decl ≡ d
Sorted d (by.Flags f) = f.decl ≡ d
Sorted d (by.Union u) = u.decl ≡ d
Sorted d (by.Newtype n) = n.decl ≡ d
Sorted d by.Silent = (number newtype_kind) < (decl_of d).kind
