-- The declarations of two images, compared by name: what is reported of them, part by part; and refusal 11. With each image goes a set of its
-- ids that may stand besides the listed ones. Assumes nothing.
use Rattle.std.specs.Prelude.{Bool, false, ◌&&◌, List, ◌++◌, Option, None, Some}
use Rattle.maps.specs.Orders.{before}
use Rattle.maps.specs.Keyed.{lookup}
use Rattle.maps.specs.Compare.{Rules, unmatched, matched, between}
use Rattle.image.specs.Words.{bytes}
use Rattle.image.specs.Schema.{Name, Decl as Declaration}
use Rattle.parts.specs.Handles.{schema_in, decl_of}
use Rattle.parts.specs.Kinds.{kind_of}
use Rattle.parts.specs.declared.handles.Image.{Image}
use Rattle.parts.specs.declared.handles.Decl.{Decl}
use Rattle.rules.specs.Survivors.{name_of, View}
use Rattle.rules.specs.Imports.{view_with}
use Rattle.rules.specs.Changes.{Change, change, minor, major, kind_at, DeclarationAdded, DeclarationRemoved}
use Rattle.rules.specs.Clauses.{compare_namespaces, compare_kind, compare_decls, decl_text, decl_rules, changes}
use Rattle.rules.specs.Verdict.{alias, is_alias, alias_pair}
use Rattle.tally.specs.Tallies.{kind_number, bump_value}
use Rattle.tally.specs.declared.Bump.{Bump}
use Rattle.tally.specs.declared.ChangeKind.{ChangeKind}
use Rattle.details.specs.Details.{verb_text}
use Rattle.details.specs.declared.Verb.{Verb}
use Rattle.lines.specs.Readings.{reading_of}
use Rattle.lines.specs.declared.Reading.{Reading}
use Rattle.survivors.specs.Answers.{standing_of}
use Rattle.survivors.specs.declared.decls.Declarations.{Declarations}
use Rattle.items.specs.Items.{context_of}
use Rattle.items.specs.Sides.{on, off}
use Rattle.items.specs.declared.Side.{Side}
use Rattle.items.specs.declared.Side.TheVariants as side

-- what is compared of an image
abbrev pub view_in : Declarations → View
view_in ds = view_with ds.reached.now (schema_in ds.image)

module _ (old new : Declarations) where
  -- ---- 11

  unfoldable pub both_aliases : Bool
  both_aliases = alias_pair (view_in old) (view_in new)

  -- of one name
  unfoldable pub aliases_at : Name → Bool
  aliases_at name = is_alias (lookup name_of before name (standing_of old)) && is_alias (lookup name_of before name (standing_of new))

  -- of what an id of the old image stands for: it is one too
  unfoldable pub aliases_of : Option Declaration → Bool
  aliases_of None = false
  aliases_of (Some d) = alias d && aliases_at d.name

-- ---- 1

abbrev pub of_namespaces : Image → Image → List Change
of_namespaces old new = compare_namespaces (schema_in old).namespace (schema_in new).namespace

-- ---- a declaration that stands on one side only: it is gone, or it came

abbrev pub lone_change : ChangeKind → Bump → Verb → Declaration → Change
lone_change kind bump v d = change (kind_number kind) (bump_value bump) d.name None (decl_text d ++ verb_text v)

abbrev pub lone_of : Side → Declaration → Change
lone_of side.Old d = change (kind_at DeclarationRemoved) major d.name None (decl_text d ++ bytes " was removed")
lone_of side.New d = change (kind_at DeclarationAdded) minor d.name None (decl_text d ++ bytes " was added")

module _ (reading : Reading) where
  -- ---- two declarations of one kind, and any two

  abbrev pub of_kind : Decl → Decl → List Change
  of_kind old new = compare_kind (kind_of (decl_of old).kind) (context_of reading old.image new.image) (decl_of old) (decl_of new)

  abbrev pub of_decls : Decl → Decl → List Change
  of_decls old new = compare_decls (context_of reading old.image new.image) (decl_of old) (decl_of new)

  -- an old declaration that stands in the new image too was kept
  unfoldable pub kept_decl : Declarations → Decl → List Change
  kept_decl new d =
      matched (decl_rules (context_of reading d.image new.image)).kept (Some (decl_of d)) (lookup name_of before (decl_of d).name (standing_of new))

  -- ---- all that stand

  module _ (old new : Declarations) where
    abbrev pub rules : Rules Declaration Change
    rules = decl_rules (context_of reading old.image new.image)

    abbrev pub lone : Side → Declaration → List Change
    lone side.Old = rules.gone
    lone side.New = rules.came

    unfoldable pub unmatched_decls : Side → List Change
    unmatched_decls s = between name_of before (unmatched (lone s)) (standing_of (on s old new)) (standing_of (off s old new))

    -- of one on a side
    unfoldable pub unmatched_decl : Side → Decl → List Change
    unmatched_decl s d = unmatched (lone s) (Some (decl_of d)) (lookup name_of before (decl_of d).name (standing_of (off s old new)))

    unfoldable pub kept_decls : List Change
    kept_decls = between name_of before (matched rules.kept) (standing_of old) (standing_of new)

    -- all clauses
    unfoldable pub all_changes : List Change
    all_changes = changes (reading_of reading) (view_in old) (view_in new)
