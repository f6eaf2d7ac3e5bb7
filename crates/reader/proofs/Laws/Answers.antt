-- The public answer. Assumes nothing.
use mathlib.Core.Path.{◌≡◌, refl, sym, ap, ◌∙◌}
use Rattle.std.specs.Prelude.{Some, None, Result, Ok, Err}
use Rattle.image.specs.Numbers.{refusal_number}
use Rattle.image.specs.Parse.{Parsed, ok, no}
use Rattle.image.specs.WellFormed.{Good}
use Rattle.image.specs.Reads.{Read, read_of, skip}
use Rattle.image.specs.declared.refusals.Refusal.{Refusal}
use Rattle.reader.specs.Answer.{refused_by, refusal_in}

-- a read is refused as what it reads is
pub read_refused : {A : Type 0} (p : Parsed A) (x : Read) → read_of x ≡ skip p → refused_by x ≡ refusal_in p
unfolding read_of skip refused_by refusal_in
read_refused {A} p x e = told x ∙ ap refusal_in e ∙ skipped p
  where
    told : (x : Read) → refused_by x ≡ refusal_in (read_of x)
    told (Ok n) = refl
    told (Err k) = refl

    skipped : (p : Parsed A) → refusal_in (skip p) ≡ refusal_in p
    skipped (ok a n) = refl
    skipped (no k) = refl

-- what a caller learns from an answer
module _ {A B : Type 0} (p : Parsed A) {r : Result B Refusal} (e : refused_by r ≡ refusal_in p) where
  pub accepted_good : {b : B} → r ≡ Ok b → Good p
  unfolding refused_by refusal_in Good
  accepted_good h = go p (sym (ap refused_by h) ∙ e)
    where
      go : (p : Parsed A) → None ≡ refusal_in p → Good p
      go (ok a n) e = tt
      go (no k) e = absurd (let z : ⊥ = cc in z)

  pub rejected_no : {k : Refusal} → r ≡ Err k → p ≡ no (refusal_number k)
  unfolding refused_by refusal_in
  rejected_no {k} h = go p (sym (ap refused_by h) ∙ e)
    where
      go : (p : Parsed A) → Some (refusal_number k) ≡ refusal_in p → p ≡ no (refusal_number k)
      go (ok a n) e = absurd (let z : ⊥ = cc in z)
      go (no j) e = ap no (let d : j ≡ refusal_number k = cc in d)
