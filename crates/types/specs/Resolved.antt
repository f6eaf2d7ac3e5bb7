-- What stands at a place of an accepted image, with the names of its own registry in the place of ids. Assumes nothing.
use Rattle.std.specs.Prelude.{List, ℕ}
use Rattle.image.specs.Schema.{Name, Label, Ty}
use Rattle.parts.specs.Promise.{schema_of, label_in, tree_in}
use Rattle.parts.specs.declared.handles.TypeRef.{TypeRef}
use Rattle.rules.specs.Survivors.{stands_for}
use Rattle.rules.specs.Types.{name_or_none, resolve_label, resolve}

-- the name that an id stands for, if it is resolvable
abbrev pub named_by : List ℕ → ℕ → List Name
named_by s id = name_or_none (stands_for (schema_of s).registry id)

abbrev pub node_in : List ℕ → ℕ → Label
node_in s at = resolve_label (schema_of s).registry (label_in s at)

abbrev pub type_in : List ℕ → ℕ → Ty
type_in s at = resolve (schema_of s).registry (tree_in s at)

-- of a type by its handle: its first node, and the whole
abbrev pub node_of : TypeRef → Label
node_of t = node_in t.image.bytes.now t.at

abbrev pub resolved : TypeRef → Ty
resolved t = type_in t.image.bytes.now t.at
