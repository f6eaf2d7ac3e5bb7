-- One declaration: what is reported of it, from what stands under its name on the other side. Assumes nothing.
use mathlib.Core.Path.{◌≡◌, refl, sym, ap, ◌∙◌}
use mathlib.Core.Bool.{Bool, true, false}
use Rattle.std.specs.Prelude.{Option, None, Some}
use Rattle.std.specs.Option.{is_some}
use mathlib.Core.List.{List, [], ◌∷◌}
use Rattle.maps.specs.Orders.{before}
use Rattle.maps.specs.Keyed.{lookup}
use Rattle.maps.proofs.Walking.{covered_none}
use Rattle.image.specs.Schema.{Name, Decl as Declaration}
use Rattle.parts.specs.Handles.{decl_of}
use Rattle.parts.specs.declared.handles.Image.{Image}
use Rattle.parts.specs.declared.handles.Decl.{Decl}
use Rattle.rules.specs.Survivors.{name_of}
use Rattle.rules.specs.Imports.{standing_with}
use Rattle.rules.specs.Changes.{Change}
use Rattle.rules.specs.Clauses.{compare_decls, decl_rules}
use Rattle.lines.specs.declared.Reading.{Reading}
use Rattle.survivors.specs.Answers.{standing_of, Survives, names_covered}
use Rattle.survivors.specs.declared.decls.Declarations.{Declarations}
use Rattle.survivors.proofs.Laws.Better.{some_map}
use Rattle.survivors.proofs.Declarations.{survives_none, survives_body, survives_image}
use Rattle.lines.specs.Sites.{change_of}
use Rattle.lines.specs.Reports.{Reports}
use Rattle.lines.specs.declared.Report.{Report}
use Rattle.lines.specs.declared.Site.{Site}
use Rattle.lines.proofs.Reports.{reports_none, reports_as}
use Rattle.items.specs.Items.{context_of}
use Rattle.items.specs.Sides.{on, off}
use Rattle.items.specs.declared.Side.{Side}
use Rattle.items.specs.declared.Side.TheVariants as side
use Rattle.items.proofs.Standing.{unmatched_has, unmatched_lacks, matched_none, matched_some}
use Rattle.checking.specs.Decls.{lone_of, lone, unmatched_decls, unmatched_decl, kept_decl, of_decls}

-- what stands under a name stands under one that equals it
pub under : {m : List Declaration} {i : Image} {name key : Name} {r : Option Decl} → name ≡ key → Survives m i name r → Survives m i key r
under e h = rw (← e) h

module _ (reading : Reading) (old new : Declarations) where
  -- what is gone, or came, is the change of a site
  lone_is : (s : Side) (d : Declaration) → lone reading old new s d ≡ lone_of s d ∷ []
  unfolding decl_rules
  lone_is side.Old d = refl
  lone_is side.New d = refl

  -- each name of what may stand on a side stands on the other
  pub none_unmatched : (s : Side) {own other : Declarations} → own ≡ on s old new → other ≡ off s old new
      → {t : Bool} → t ≡ names_covered (standing_of other) own → t ≡ true → unmatched_decls reading old new s ≡ []
  unfolding unmatched_decls standing_with names_covered
  none_unmatched s p q e t = covered_none name_of before (lone reading old new s) (standing_of (off s old new)) _ (rw (p, q) at (sym e ∙ t))

-- ---- on one side only: k says what stands on the other under the name of a declaration

module _ (old new : Declarations) (s : Side) {other : Declarations} (q : other ≡ off s old new) (d : Decl) {name : Name} (u : name ≡ (decl_of d).name)
    {o : Option Decl} (k : Survives (standing_of other) other.image name o) {t : Bool} (p : t ≡ is_some o) where
  there : t ≡ is_some (lookup name_of before (decl_of d).name (standing_of (off s old new)))
  there = p ∙ some_map decl_of o ∙ ap is_some (rw (q, u) at k.value)

  pub stands_off : t ≡ true → {r : Report} → Reports r (unmatched_decl r.reading old new s d) r
  unfolding unmatched_decl
  stands_off e {r} = reports_none (unmatched_has (lone r.reading old new s) _ _ (sym there ∙ e))

  pub stands_alone : t ≡ false → (c : Site) → change_of c ≡ lone_of s (decl_of d)
      → {r r' : Report} → Reports r (change_of c ∷ []) r' → Reports r (unmatched_decl r.reading old new s d) r'
  unfolding unmatched_decl
  stands_alone e c f {r} h =
      reports_as
      (unmatched_lacks (lone r.reading old new s) _ _ (sym there ∙ e)
      ∙ lone_is r.reading old new s (decl_of d)
      ∙ ap (λ (l : Change). l ∷ []) (sym f))
      h

-- ---- on both: k says what stands in the new image

module _ (new : Declarations) (d : Decl) {name : Name} (u : name ≡ (decl_of d).name) {o : Option Decl} (k : Survives (standing_of new) new.image name o) where
  pub new_none : o ≡ None → {r : Report} → Reports r (kept_decl r.reading new d) r
  unfolding kept_decl
  new_none e {r} = reports_none (matched_none (decl_rules (context_of r.reading d.image new.image)).kept _ (survives_none (under u k) e))

  pub both_kept : {f : Decl} → o ≡ Some f → {r r' : Report} → Reports r (of_decls r.reading d f) r' → Reports r (kept_decl r.reading new d) r'
  unfolding kept_decl decl_rules
  both_kept {f} e {r} h =
      reports_as
      (matched_some (decl_rules (context_of r.reading d.image new.image)).kept _ (survives_body (under u k) e)
      ∙ ap (λ (i : Image). compare_decls (context_of r.reading d.image i) (decl_of d) (decl_of f)) (sym (survives_image k e)))
      h
