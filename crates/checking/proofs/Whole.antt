-- All changes, part by part. Assumes nothing.
use mathlib.Core.List.{◌++◌}
use Rattle.maps.specs.Compare.{compare}
use Rattle.rules.specs.Imports.{view_with}
use Rattle.rules.specs.Clauses.{changes}
use Rattle.lines.specs.declared.Reading.{Reading}
use Rattle.survivors.specs.declared.decls.Declarations.{Declarations}
use Rattle.lines.specs.Reports.{Reports}
use Rattle.lines.specs.declared.Report.{Report}
use Rattle.lines.proofs.Reports.{reports_then}
use Rattle.items.specs.declared.Side.{Side}
use Rattle.checking.specs.Decls.{of_namespaces, unmatched_decls, kept_decls, all_changes}

-- in the order of the report
pub all_reported : (old new : Declarations) {a b c d e : Report}
    → Reports a (of_namespaces old.image new.image) b
    → Reports b (unmatched_decls b.reading old new Side.Old) c
    → Reports c (unmatched_decls c.reading old new Side.New) d
    → Reports d (kept_decls d.reading old new) e
    → Reports a (all_changes a.reading old new) e
unfolding all_changes changes view_with compare unmatched_decls kept_decls
all_reported old new names gone came kept =
    let last = reports_then (λ (r : Reading). kept_decls r old new) came kept in
    let lone = reports_then (λ (r : Reading). unmatched_decls r old new Side.New ++ kept_decls r old new) gone last in
    reports_then (λ (r : Reading). unmatched_decls r old new Side.Old ++ (unmatched_decls r old new Side.New ++ kept_decls r old new)) names lone
