-- What the rules report of an item that stands on one side only is the change of a site, whoever owns it. Assumes nothing.
use Rattle.std.proofs.Common.{◌≡◌, [], ◌∷◌, refl}
use Rattle.parts.specs.declared.Shape.TheVariants as shape
use Rattle.parts.proofs.Promise.{bare_ordinal, field_name, field_ordinal, variant_name_lem, variant_ordinal_lem}
use Rattle.members.specs.declared.handles.Item.{Item}
use Rattle.members.proofs.Runs.{named}
use Rattle.rules.specs.Clauses.{Context, field_rules, field_text, variant_text, variant_gone, variant_came, bit_text, flags_rules, union_rules}
use Rattle.survivors.specs.Runs.{item_of}
use Rattle.items.specs.Owners.{shape_of, rules_of}
use Rattle.items.specs.Lone.{lone_of}
use Rattle.items.specs.declared.Owner.{Owner}
use Rattle.items.specs.declared.Owner.TheVariants as owner
use Rattle.items.specs.declared.Side.TheVariants as side

module _ (r : Context) where
  pub gone_is : (o : Owner) (i : Item) → i.shape ≡ shape_of o → (rules_of r o).gone (item_of (shape_of o) i) ≡ lone_of o side.Old i ∷ []
  unfolding field_rules field_text variant_gone variant_text flags_rules bit_text union_rules
  gone_is (owner.Fields c) i e = let h = (rw e at i.here) in rw (field_name _ _ h, field_ordinal _ _ h, named shape.Field refl i e) refl
  gone_is (owner.Enum n b) i e = rw (bare_ordinal _ _ (rw e at i.here), named shape.Bare refl i e) refl
  gone_is (owner.Flags n) i e = rw (bare_ordinal _ _ (rw e at i.here), named shape.Bare refl i e) refl
  gone_is (owner.Union n) i e = let h = (rw e at i.here) in rw (variant_name_lem _ _ h, variant_ordinal_lem _ _ h, named shape.Variant refl i e) refl

  pub came_is : (o : Owner) (i : Item) → i.shape ≡ shape_of o → (rules_of r o).came (item_of (shape_of o) i) ≡ lone_of o side.New i ∷ []
  unfolding field_rules field_text variant_came variant_text flags_rules bit_text union_rules
  came_is (owner.Fields c) i e = let h = (rw e at i.here) in rw (field_name _ _ h, field_ordinal _ _ h, named shape.Field refl i e) refl
  came_is (owner.Enum n b) i e = rw (bare_ordinal _ _ (rw e at i.here), named shape.Bare refl i e) refl
  came_is (owner.Flags n) i e = rw (bare_ordinal _ _ (rw e at i.here), named shape.Bare refl i e) refl
  came_is (owner.Union n) i e = let h = (rw e at i.here) in rw (variant_name_lem _ _ h, variant_ordinal_lem _ _ h, named shape.Variant refl i e) refl
