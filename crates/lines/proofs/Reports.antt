-- Reporters one after the other. Assumes nothing.
use mathlib.Core.Path.{◌≡◌, refl, sym, ap, ◌∙◌}
use mathlib.Core.List.{List, [], ◌++◌, flat_map}
use Rattle.maps.specs.Lists.{pass}
use Rattle.text.specs.Writers.{after}
use Rattle.text.proofs.Writers.{after_after}
use Rattle.rules.specs.Changes.{Change}
use Rattle.tally.specs.Tallies.{tally_from, lines_of}
use Rattle.tally.proofs.Totals.{tally_append, lines_append}
use Rattle.lines.specs.declared.Reading.{Reading}
use Rattle.lines.specs.Reports.{writer_of, with_text, reported, Reports}
use Rattle.lines.specs.declared.Report.{Report}

-- ---- changes one after the other

pub reported_none : (r : Report) → reported r [] ≡ r
unfolding reported with_text tally_from pass lines_of flat_map after
reported_none r = refl

pub reported_more : (r : Report) (xs ys : List Change) → reported (reported r xs) ys ≡ reported r (xs ++ ys)
unfolding reported with_text
reported_more r xs ys =
    let lines : after (after (writer_of r) (lines_of xs)) (lines_of ys) ≡ after (writer_of r) (lines_of (xs ++ ys)) =
    after_after (writer_of r) (lines_of xs) (lines_of ys) ∙ ap (after (writer_of r)) (sym (lines_append xs ys)) in
    let tally : tally_from (tally_from r.tally xs) ys ≡ tally_from r.tally (xs ++ ys) = sym (tally_append r.tally xs ys) in
    (λ i. record r { out = (lines i).out; length = (lines i).at; tally = tally i })

-- types are read as before
pub reported_reading : (r : Report) (cs : List Change) → (reported r cs).reading ≡ r.reading
unfolding reported with_text
reported_reading r cs = refl

-- ---- reporters

-- of nothing
pub reports_none : {r : Report} {cs : List Change} → cs ≡ [] → Reports r cs r
reports_none {r} e = record { is = rw e (sym (reported_none r)) }

-- the same changes otherwise written
pub reports_as : {a b : Report} {xs ys : List Change} → ys ≡ xs → Reports a xs b → Reports a ys b
reports_as e h = rw e h

pub reading_kept : {a b : Report} {cs : List Change} → Reports a cs b → b.reading ≡ a.reading
reading_kept {a} {cs = cs} h = ap (λ (r : Report). r.reading) h.is ∙ reported_reading a cs

-- one after the other
pub reports_more : {a b c : Report} {xs ys : List Change} → Reports a xs b → Reports b ys c → Reports a (xs ++ ys) c
reports_more {a} {xs = xs} {ys = ys} h k = record { is = k.is ∙ ap (λ (r : Report). reported r ys) h.is ∙ reported_more a xs ys }

-- where what is reported second depends on how types are read
pub reports_then : (ys : Reading → List Change) {a b c : Report} {xs : List Change} → Reports a xs b → Reports b (ys b.reading) c → Reports a (xs ++ ys a.reading) c
reports_then ys h k = reports_more h (reports_as (ap ys (sym (reading_kept h))) k)

-- ---- a loop over what is reported: b is a report on the way from a to all, and the rest is left

pub record Left (a : Report) (all : List Change) (b : Report) (rest : List Change) : Type 0 where
  pub is : reported b rest ≡ reported a all

pub left_start : {a : Report} {all rest : List Change} → all ≡ rest → Left a all a rest
left_start e = record { is = rw e refl }

pub left_reading : {a b : Report} {all rest : List Change} → Left a all b rest → b.reading ≡ a.reading
left_reading {a} {b} {all} {rest} l =
    sym (reported_reading b rest) ∙ ap (λ (r : Report). r.reading) l.is ∙ reported_reading a all

pub left_turn : {a b c : Report} {all rest cs more : List Change} → Left a all b rest → rest ≡ cs ++ more → Reports b cs c → Left a all c more
left_turn {a} {b} {c} {all} {rest} {cs} {more} l e h = record {
  is = ap (λ (r : Report). reported r more) h.is ∙ reported_more b cs more ∙ ap (reported b) (sym e) ∙ l.is;
}

pub left_done : {a b : Report} {all rest : List Change} → Left a all b rest → rest ≡ [] → Reports a all b
left_done {a} {b} {all} {rest} l e = record { is = sym (reported_none b) ∙ ap (reported b) (sym e) ∙ l.is }
