-- `checking::decls::compare_kind` meets its contract: in each arm the kind is known. Assumes nothing.
use Rattle.std.proofs.Common.{◌∙◌}
use Rattle.parts.specs.Kinds.{kind_of}
use Rattle.rules.specs.Clauses.{compare_kind}
use Rattle.lines.proofs.Reports.{reports_none}
use Rattle.image.specs.declared.kinds.Kind.TheVariants as kind
use Rattle.parts.proofs.Promise.{same_kind}
use Rattle.checking.proofs.Compared.{kind_reports, no_clause}
use Rattle.checking.proofs.decls.compare_kind.Goals as goal

pub returns-in-Message : goal.returns-in-Message
unfolding compare_kind kind_of
returns-in-Message c = kind_reports c.args.old c.args.new c.kind.ensures c.in-Message.is c.compare_messages.ensures

pub returns-in-Enum : goal.returns-in-Enum
unfolding compare_kind kind_of
returns-in-Enum c = kind_reports c.args.old c.args.new c.kind.ensures c.in-Enum.is c.compare_enums.ensures

pub returns-in-Flags : goal.returns-in-Flags
unfolding compare_kind kind_of
returns-in-Flags c = kind_reports c.args.old c.args.new c.kind.ensures c.in-Flags.is c.compare_flags.ensures

pub returns-in-Union : goal.returns-in-Union
unfolding compare_kind kind_of
returns-in-Union c = kind_reports c.args.old c.args.new c.kind.ensures c.in-Union.is c.compare_unions.ensures

pub returns-in-Newtype : goal.returns-in-Newtype
unfolding compare_kind kind_of
returns-in-Newtype c = kind_reports c.args.old c.args.new c.kind.ensures c.in-Newtype.is c.compare_newtypes.ensures

pub returns-in_default : goal.returns-in_default
returns-in_default c =
    let d = c.in_default in
    reports_none
    (no_clause _ _ _ _ (λ e. d.not-Message (same_kind _ kind.Message (c.kind.ensures ∙ e))) (λ e. d.not-Enum (same_kind _ kind.Enum (c.kind.ensures ∙ e)))
    (λ e. d.not-Flags (same_kind _ kind.Flags (c.kind.ensures ∙ e))) (λ e. d.not-Union (same_kind _ kind.Union (c.kind.ensures ∙ e)))
    (λ e. d.not-Newtype (same_kind _ kind.Newtype (c.kind.ensures ∙ e))))
