-- Filing order does not matter: R-13 over byte lists. Assumes nothing.
use mathlib.Core.Path.{◌≡◌, sym, ap, ◌∙◌}
use mathlib.Core.List.{List}
use Prim.Native.Nat.{ℕ}
use lib.ListN.{length, take}
use Rattle.image.specs.Schema.{Schema}
use Rattle.image.specs.Parse.{ok}
use Rattle.image.specs.Image.{read_image}
use Rattle.rules.specs.Outcome.{Outcome, select, fit, text_length, written}
use Rattle.image.specs.Codes.{number, both_sides}
use Rattle.rules.specs.Answer.{judged, on_side, accept_new, accept_old, outcome, verdict_by, report_by, plain, checked}
use Rattle.rules.proofs.Answer.{plain_numbered}
use Rattle.rules.proofs.Calls.{room_enough_lem, same_text_lem}
use Rattle.refiling.specs.Refiling.{ListedOnce, Refiled, RefiledImage, Holds, SameAnswers, FilingOrder}
use Rattle.refiling.proofs.Standing.{changes_refiled, pair_refiled}
use Rattle.refiling.proofs.Repeats.{no_repeats_listed, entries_once_listed}

module _ (old new old' new' : List ℕ) where
  -- all that the calls answer is made of the outcome
  same_answers : checked old new ≡ checked old' new' → SameAnswers old new old' new'
  unfolding verdict_by report_by
  same_answers e = record {
    outcome = e;
    verdict = λ selector. ap (λ o. select o selector) e;
    returns = λ out. ap (returned_of out) e;
    buffer = λ out. ap (leaves_of out) e;
    lengths = λ out out' h h'. room_enough_lem plain plain_numbered old new out h ∙ (sym (room_enough_lem plain plain_numbered old new out' (held out' h')) ∙ ap (returned_of out') e);
    report = λ out out' h h'. same_text_lem plain plain_numbered old new out out' h (held out' h') ∙ ap (λ o. take (returned_of out' o) (leaves_of out' o)) e;
  }
    where
      held : (out : List ℕ) → Holds old' new' out → Holds old new out
      held out h = rw (ap (λ o. select o 4) e) h

      returned_of : List ℕ → Outcome → ℕ
      returned_of out o = text_length (fit (number both_sides) (length out) o)

      leaves_of : List ℕ → Outcome → List ℕ
      leaves_of out o = written (fit (number both_sides) (length out) o) out

  listed_once_lem : RefiledImage ListedOnce old old' → RefiledImage ListedOnce new new' → SameAnswers old new old' new'
  unfolding outcome accept_old accept_new on_side judged
  listed_once_lem a b =
      same_answers
      (rw (a.before_read, a.after_read, b.before_read, b.after_read) (pair_refiled a.holds b.holds a.refiled b.refiled))

-- two accepted images, by what they hold
pub refiled_image : {P : Schema → Type 0} {a b : List ℕ} {s t : Schema} {m n : ℕ} → read_image a ≡ ok s m → read_image b ≡ ok t n → P s → Refiled s t
    → RefiledImage P a b
refiled_image {s = s} {t = t} {m = m} {n = n} p q h r =
    record { before = s; after = t; before_end = m; after_end = n; before_read = p; after_read = q; holds = h; refiled = r }

-- a premise that says less
less : {P Q : Schema → Type 0} {a b : List ℕ} → ((s : Schema) → P s → Q s) → RefiledImage P a b → RefiledImage Q a b
less f r = refiled_image r.before_read r.after_read (f r.before r.holds) r.refiled

pub filing_order : FilingOrder
filing_order = record {
  no_repeats = λ old new old' new' a b. listed_once_lem old new old' new' (less no_repeats_listed a) (less no_repeats_listed b);
  entries_once = λ old new old' new' a b. listed_once_lem old new old' new' (less entries_once_listed a) (less entries_once_listed b);
  listed_once = listed_once_lem;
  any_types = λ same old new old' new' o n a b. changes_refiled o n a b same;
}
