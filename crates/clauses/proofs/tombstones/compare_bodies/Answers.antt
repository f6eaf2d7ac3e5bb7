-- `clauses::tombstones::compare_bodies` meets its contract. Assumes nothing.
use Rattle.lines.proofs.Reports.{reports_none, reports_as}
use Rattle.clauses.proofs.Bodies.{unlike_silent, decls_silent, decls_told}
use Rattle.clauses.proofs.tombstones.compare_bodies.Goals as goal

pub returns-in_default : goal.returns-in_default
returns-in_default c = reports_none (decls_silent c.args.old c.args.new (rw c.in_default.is at c.body_of.ensures))

pub returns-in_default-body_of : goal.returns-in_default-body_of
returns-in_default-body_of c = reports_none (unlike_silent c.args.old c.args.new c.requires (rw c.in_default-body_of.is at c.body_of-2.ensures))

pub returns : goal.returns
returns c =
    reports_as
    (decls_told c.args.old c.args.new c.in-Some.was c.in-Some-body_of.is' (rw c.in-Some.is at c.body_of.ensures) (rw c.in-Some-body_of.is at c.body_of-2.ensures) c.name.ensures)
    c.compare_struck.ensures
