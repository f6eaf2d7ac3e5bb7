-- By the tag.
use Rattle.std.proofs.Common.{sym, ◌∙◌}
use denote.Enum.Bare.{same_true, same_false}
use Rattle.image.specs.contracts.tags.Tag.{the_type}
use Rattle.reached.proofs.Marking.{label_named, label_other, tag_named}
use Rattle.reached.proofs.nodes.mark_label.Goals as goal

pub id-requires : goal.id-requires
id-requires c = tag_named c.args.t _ c.tag.ensures (same_true the_type tt _ _ (sym c.eq.ensures ∙ c.if-eq.true))

pub returns-then-eq : goal.returns-then-eq
returns-then-eq c = label_named c.args.t _ c.tag.ensures (same_true the_type tt _ _ (sym c.eq.ensures ∙ c.if-eq.true)) c.id.ensures c.mark_id.ensures

pub returns-else-eq : goal.returns-else-eq
returns-else-eq c = label_other c.args.t _ c.tag.ensures (same_false the_type _ _ (sym c.eq.ensures ∙ c.if-eq.false))
