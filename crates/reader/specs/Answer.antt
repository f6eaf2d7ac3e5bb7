-- What an answer of the code says of the definitions: by what it is refused. Assumes nothing.
use Rattle.std.specs.Prelude.{ℕ, Option, None, Some, Result, Ok, Err, ⊤}
use Rattle.image.specs.Numbers.{refusal_number}
use Rattle.image.specs.Parse.{Parsed, ok, no}
use Rattle.image.specs.declared.refusals.Refusal.{Refusal}

-- an image is accepted, or it is refused
abbrev pub Acceptance : Type 0
Acceptance = Result ⊤ Refusal

-- the number of the refusal that an answer is, and that a parse is; an answer or a parse that gives a value is none
unfoldable pub refused_by : {A : Type 0} → Result A Refusal → Option ℕ
refused_by (Ok a) = None
refused_by (Err k) = Some (refusal_number k)

unfoldable pub refusal_in : {A : Type 0} → Parsed A → Option ℕ
refusal_in (ok a n) = None
refusal_in (no k) = Some k
