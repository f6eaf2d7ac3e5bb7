-- The change of an item that stands on one side only: it is gone, or it came. Assumes nothing.
use Rattle.std.specs.Prelude.{List, ◌++◌, ℕ, Some}
use Rattle.parts.specs.Promise.{ordinal_in}
use Rattle.members.specs.Handles.{name_in}
use Rattle.members.specs.declared.handles.Item.{Item}
use Rattle.rules.specs.Changes.{Change, change, numbered}
use Rattle.tally.specs.Tallies.{kind_number, bump_value}
use Rattle.tally.specs.declared.Bump.{Bump}
use Rattle.tally.specs.declared.ChangeKind.{ChangeKind}
use Rattle.details.specs.Details.{declaration_of, word_text, verb_text}
use Rattle.details.specs.declared.Scope.{Scope}
use Rattle.details.specs.declared.Word.{Word}
use Rattle.details.specs.declared.Verb.{Verb}
use Rattle.items.specs.declared.Owner.{Owner}
use Rattle.items.specs.declared.Owner.TheVariants as owner
use Rattle.items.specs.declared.Side.{Side}
use Rattle.items.specs.declared.Side.TheVariants as side

-- WORD 'NAME' @ORDINAL
abbrev pub item_text : Word → Item → List ℕ
item_text w i = numbered (word_text w) (name_in i) (ordinal_in i.image.bytes.now i.at)

abbrev pub lone_change : ChangeKind → Bump → Scope → Word → Verb → Item → Change
lone_change kind bump scope w v i =
    change (kind_number kind) (bump_value bump) (declaration_of scope) (Some (name_in i)) (item_text w i ++ verb_text v)

abbrev pub gone_of : ChangeKind → Scope → Word → Item → Change
gone_of kind scope w i = lone_change kind Bump.Major scope w Verb.Removed i

abbrev pub came_of : ChangeKind → Bump → Scope → Word → Item → Change
came_of kind bump scope w i = lone_change kind bump scope w Verb.Added i

abbrev pub lone_of : Owner → Side → Item → Change
lone_of (owner.Fields scope) side.Old i = gone_of ChangeKind.FieldRemoved scope Word.Field i
lone_of (owner.Fields scope) side.New i = came_of ChangeKind.FieldAdded Bump.Major scope Word.Field i
lone_of (owner.Enum name bump) side.Old i = gone_of ChangeKind.VariantRemoved (Scope.Decl name) Word.Variant i
lone_of (owner.Enum name bump) side.New i = came_of ChangeKind.VariantAdded bump (Scope.Decl name) Word.Variant i
lone_of (owner.Flags name) side.Old i = gone_of ChangeKind.FlagsBitRemoved (Scope.Decl name) Word.Bit i
lone_of (owner.Flags name) side.New i = came_of ChangeKind.FlagsBitAdded Bump.Minor (Scope.Decl name) Word.Bit i
lone_of (owner.Union name) side.Old i = gone_of ChangeKind.VariantRemoved (Scope.Decl name) Word.Variant i
lone_of (owner.Union name) side.New i = came_of ChangeKind.VariantAdded Bump.Minor (Scope.Decl name) Word.Variant i
