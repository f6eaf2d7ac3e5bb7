-- What a call comes to: a refusal, or an answer with its text; what its selectors give, and what it leaves in a buffer. For the report and
-- for the listing. Assumes nothing.
use Rattle.std.specs.Prelude.{cond, List, [], ◌∷◌, ◌++◌, ℕ, leb, length, get_or, drop, replicate}
use Rattle.image.specs.Codes.{number, not_refused, full_refusal, no_side}
use Rattle.rules.specs.Changes.{kind_count}

-- what is told where nothing is refused: bump and result, 0 where the call has none; the text; the counts
pub record Answer : Type 0 where
  pub bump : ℕ
  pub result : ℕ
  pub text : List ℕ
  pub counts : List ℕ

-- a refusal with its number and side, or an answer
pub data Outcome : Type 0 where
  refused : ℕ → ℕ → Outcome
  answered : Answer → Outcome

-- an answer that is a text and no more
abbrev pub text_only : List ℕ → Outcome
text_only text = answered (record { bump = 0; result = 0; text = text; counts = replicate kind_count 0 })

-- ---- the verdict call

-- by selector: "0 the number, 1 the side .., 2 the bump .., 3 the result .., 4 the length, from 5 the counts in the order of `ChangeKind`"
-- "A refusal is number and side .., with bump Major, result Breaking, all counts and length 0"
unfoldable pub selected : Outcome → List ℕ
selected (refused number side) = number ∷ side ∷ 2 ∷ 1 ∷ []
selected (answered a) = number not_refused ∷ number no_side ∷ a.bump ∷ a.result ∷ length a.text ∷ a.counts

-- "a selector beyond them gives 0"
unfoldable pub select : Outcome → ℕ → ℕ
select o selector = get_or (selected o) selector 0

-- ---- the call with a buffer

-- in a buffer of so many bytes: a text that is longer is refused, by 12 and with this side
unfoldable pub fit : ℕ → ℕ → Outcome → Outcome
fit side room (refused number own) = refused number own
fit side room (answered a) = cond (leb (length a.text) room) (answered a) (refused (number full_refusal) side)

-- it "returns the length, 0 if refused"
unfoldable pub text_length : Outcome → ℕ
text_length (refused number side) = 0
text_length (answered a) = length a.text

-- what it leaves in the buffer: "Bytes past the length stay"; "an untouched buffer"
unfoldable pub written : Outcome → List ℕ → List ℕ
written (refused number side) out = out
written (answered a) out = a.text ++ drop (length a.text) out
