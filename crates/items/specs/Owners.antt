-- Whose items they are: of which shape, and what the clauses report of them. Assumes nothing.
use Rattle.std.specs.Prelude.{[]}
use Rattle.maps.specs.Compare.{Rules}
use Rattle.parts.specs.Promise.{ItemOf}
use Rattle.parts.specs.declared.Shape.{Shape}
use Rattle.rules.specs.Changes.{Change}
use Rattle.rules.specs.Clauses.{Context, field_rules, variant_gone, variant_came, flags_rules, union_rules}
use Rattle.tally.specs.Tallies.{bump_value}
use Rattle.details.specs.Details.{declaration_of}
use Rattle.items.specs.declared.Owner.{Owner}
use Rattle.items.specs.declared.Owner.TheVariants as owner

abbrev pub shape_of : Owner → Shape
shape_of (owner.Fields scope) = Shape.Field
shape_of (owner.Enum name bump) = Shape.Bare
shape_of (owner.Flags name) = Shape.Bare
shape_of (owner.Union name) = Shape.Variant

abbrev pub rules_of : Context → (o : Owner) → Rules (ItemOf (shape_of o)) Change
rules_of r (owner.Fields scope) = field_rules r (declaration_of scope)
rules_of r (owner.Enum name bump) = record { gone = variant_gone name.now; came = variant_came (bump_value bump) name.now; kept = λ v w. [] }
rules_of r (owner.Flags name) = flags_rules name.now
rules_of r (owner.Union name) = union_rules r name.now
