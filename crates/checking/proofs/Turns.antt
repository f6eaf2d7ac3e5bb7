-- The walks over the declarations that stand, by rising name: over those of a side, of which those are reported that the other side has not; and
-- over the old ones, of which those are compared that the new image has too. Assumes nothing.
use mathlib.Core.Path.{◌≡◌, refl, sym, ap, ◌∙◌}
use Rattle.std.specs.Prelude.{Option, None, Some}
use mathlib.Core.List.{List, ◌++◌}
use Rattle.maps.specs.Orders.{before}
use Rattle.maps.specs.Keyed.{lookup}
use Rattle.maps.specs.Compare.{unmatched, matched, between}
use Rattle.parts.specs.Handles.{decl_of}
use Rattle.parts.specs.declared.handles.Image.{Image}
use Rattle.parts.specs.declared.handles.Decl.{Decl}
use Rattle.image.specs.Schema.{Decl as Declaration}
use Rattle.rules.specs.Survivors.{name_of}
use Rattle.rules.specs.Changes.{Change}
use Rattle.rules.specs.Clauses.{decl_rules}
use Rattle.rules.proofs.Standing.{standing_rises}
use Rattle.lines.specs.declared.Reading.{Reading}
use Rattle.lines.specs.Reports.{Reports}
use Rattle.lines.specs.declared.Report.{Report}
use Rattle.lines.proofs.Reports.{Left, left_start, left_reading, left_turn, left_done}
use Rattle.survivors.specs.Answers.{standing_of, Follows, StandsAmong, NextDecl}
use Rattle.survivors.specs.declared.decls.Declarations.{Declarations}
use Rattle.survivors.specs.declared.decls.StandingDecls.{StandingDecls}
use Rattle.survivors.proofs.Declarations.{follows_image}
use Rattle.survivors.proofs.Walks.{rest_decls, decls_start, decls_done, decls_turn}
use Rattle.items.specs.Items.{context_of}
use Rattle.items.specs.Sides.{on, off}
use Rattle.items.specs.declared.Side.{Side}
use Rattle.checking.specs.Decls.{rules, lone, unmatched_decls, unmatched_decl, kept_decls, kept_decl}

-- a walk over the declarations of ds: what the report at its start has to be yet; g says what is reported of one, with what n has under its name
pub record Walking (ds : Declarations) (g : Option Declaration → Option Declaration → List Change) (n : List Declaration) (a : Report) (all : List Change)
    (b : Report) (w : StandingDecls) : Type 0 where
  pub declarations : w.declarations ≡ ds
  pub left : Left a all b (rest_decls g (standing_of ds) n w.after)

module _ {ds : Declarations} (g : Option Declaration → Option Declaration → List Change) {n : List Declaration} {a : Report} {all : List Change} where
  walk_start : between name_of before g (standing_of ds) n ≡ all → {y : Declarations} → y ≡ ds → {w : StandingDecls} → StandsAmong y w → Walking ds g n a all a w
  walk_start e q {w} h = record {
    declarations = h.declarations ∙ q;
    left = rw h.after (left_start (sym e ∙ sym (decls_start g (standing_of ds) n)));
  }

  module _ {b : Report} {w : StandingDecls} (v : Walking ds g n a all b w) {w' : StandingDecls} where
    follows_in : {r : Option Decl} → NextDecl w r w' → Follows (standing_of ds) ds.image w.after r
    follows_in m = rw v.declarations at m.follows

    module _ {d : Decl} (m : NextDecl w (Some d) w') where
      walk_image : d.image ≡ ds.image
      walk_image = follows_image (follows_in m) refl

      walk_turn : {cs : List Change} → g (Some (decl_of d)) (lookup name_of before (decl_of d).name n) ≡ cs → {c : Report} → Reports b cs c → Walking ds g n a all c w'
      walk_turn {cs} u h = record {
        declarations = m.declarations ∙ v.declarations;
        left =
            rw m.after
            (left_turn v.left
            (decls_turn g (standing_of ds) n (follows_in m) (standing_rises _ _) refl
            ∙ ap (λ (l : List Change). l ++ rest_decls g (standing_of ds) n (Some d)) u)
            h);
      }

    walk_done : NextDecl w None w' → Reports a all b
    walk_done m = left_done v.left (decls_done g (standing_of ds) n (follows_in m) refl)

-- ---- what stands on one side only

abbrev pub Unmatched : Declarations → Declarations → Side → Report → List Change → Report → StandingDecls → Type 0
Unmatched old new s a all b w = Walking (on s old new) (unmatched (lone a.reading old new s)) (standing_of (off s old new)) a all b w

module _ (old new : Declarations) (s : Side) {a : Report} where
  pub unmatched_start : {own : Declarations} → own ≡ on s old new → {w : StandingDecls} → StandsAmong own w
      → Unmatched old new s a (unmatched_decls a.reading old new s) a w
  unfolding unmatched_decls
  unmatched_start = walk_start (unmatched (lone a.reading old new s)) refl

  module _ {all : List Change} {b : Report} {w : StandingDecls} (v : Unmatched old new s a all b w) {w' : StandingDecls} where
    pub unmatched_turn : {d : Decl} → NextDecl w (Some d) w' → {c : Report} → Reports b (unmatched_decl b.reading old new s d) c → Unmatched old new s a all c w'
    unfolding unmatched_decl
    unmatched_turn {d} m h = walk_turn (unmatched (lone a.reading old new s)) v m (ap (λ (x : Reading). unmatched_decl x old new s d) (sym (left_reading v.left))) h

    pub unmatched_done : NextDecl w None w' → Reports a all b
    unmatched_done = walk_done (unmatched (lone a.reading old new s)) v

-- ---- what was kept

abbrev pub Kept : Declarations → Declarations → Report → List Change → Report → StandingDecls → Type 0
Kept old new a all b w = Walking old (matched (rules a.reading old new).kept) (standing_of new) a all b w

module _ (old new : Declarations) {a : Report} where
  pub kept_start : {w : StandingDecls} → StandsAmong old w → Kept old new a (kept_decls a.reading old new) a w
  unfolding kept_decls
  kept_start = walk_start (matched (rules a.reading old new).kept) refl {y = old} refl

  module _ {all : List Change} {b : Report} {w : StandingDecls} (v : Kept old new a all b w) {w' : StandingDecls} where
    pub kept_turn : {d : Decl} → NextDecl w (Some d) w' → {c : Report} → Reports b (kept_decl b.reading new d) c → Kept old new a all c w'
    unfolding kept_decl
    kept_turn {d} m h =
        walk_turn (matched (rules a.reading old new).kept) v m
        (ap (λ (i : Image). matched (decl_rules (context_of a.reading i new.image)).kept (Some (decl_of d)) (lookup name_of before (decl_of d).name (standing_of new)))
        (sym (walk_image (matched (rules a.reading old new).kept) v m))
        ∙ ap (λ (x : Reading). kept_decl x new d) (sym (left_reading v.left)))
        h

    pub kept_done : NextDecl w None w' → Reports a all b
    kept_done = walk_done (matched (rules a.reading old new).kept) v

-- what the code needs
pub ruleset unmatching = (unmatched_start, unmatched_turn, unmatched_done)

pub ruleset keeping = (kept_start, kept_turn, kept_done)
