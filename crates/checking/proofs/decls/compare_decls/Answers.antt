-- `checking::decls::compare_decls` meets its contract: of two kinds they are reported, of one kind compared. Assumes nothing.
use Rattle.std.proofs.Common.{sym, ap, ◌∙◌}
use denote.Enum.Bare.{differs_true, differs_false}
use Rattle.image.specs.contracts.kinds.Kind.{the_type}
use Rattle.parts.specs.Numbers.{kind_number}
use Rattle.parts.proofs.Promise.{same_kind}
use Rattle.checking.proofs.Compared.{kinds_differ, agree_reports}
use Rattle.checking.proofs.decls.compare_decls.Goals as goal

pub returns-then-ne : goal.returns-then-ne
returns-then-ne c =
    kinds_differ c.args.old c.args.new (λ q. differs_true the_type _ _ (sym c.ne.ensures ∙ c.if-ne.true) (same_kind _ _ (c.kind-kind.ensures ∙ q ∙ sym c.kind.ensures)))
    c.kind_changed.result c.kind_changed.ensures c.emit.ensures

pub compare_kind-requires : goal.compare_kind-requires
compare_kind-requires c =
    sym c.kind.ensures ∙ sym (ap kind_number (differs_false the_type tt _ _ (sym c.ne.ensures ∙ c.if-ne.false))) ∙ c.kind-kind.ensures

pub returns : goal.returns
returns c =
    agree_reports c.args.old c.args.new (sym c.kind.ensures ∙ sym (ap kind_number (differs_false the_type tt _ _ (sym c.ne.ensures ∙ c.if-ne.false))) ∙ c.kind-kind.ensures)
    c.compare_widths.ensures c.compare_kind.ensures c.compare_last.ensures

pub compare_last-requires : goal.compare_last-requires
compare_last-requires c =
    sym c.kind.ensures ∙ sym (ap kind_number (differs_false the_type tt _ _ (sym c.ne.ensures ∙ c.if-ne.false))) ∙ c.kind-kind.ensures
