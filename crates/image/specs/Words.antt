-- The word of each kind, as `decl_kind_name` of compat.rs spells it. Assumes nothing.
use Rattle.std.specs.Prelude.{List, [], ◌∷◌, ℕ}
use Prim.Native.String.{String}
use Prim.Native.Char.{code}
use Rattle.image.specs.Kinds.{Kind, message, enum, flags, union, newtype, config, alias, trait, impl, other, kind_of}

-- the bytes of a text
unfoldable pub bytes : String → List ℕ
bytes String.[] = []
bytes (String.◌∷◌ c s) = code c ∷ bytes s

abbrev pub kind_name : Kind → String
kind_name message = "message"
kind_name enum = "enum"
kind_name flags = "flags"
kind_name union = "union"
kind_name newtype = "newtype"
kind_name config = "config"
kind_name alias = "generic_alias"
kind_name trait = "trait"
kind_name impl = "impl"
kind_name other = ""

-- by rising number
abbrev pub kind_names : List String
kind_names =
    kind_name message
    ∷ kind_name enum
    ∷ kind_name flags
    ∷ kind_name union
    ∷ kind_name newtype
    ∷ kind_name config
    ∷ kind_name alias
    ∷ kind_name trait
    ∷ kind_name impl
    ∷ []

unfoldable pub kind_word : ℕ → List ℕ
unfolding bytes
kind_word kind = bytes (kind_name (kind_of kind))
