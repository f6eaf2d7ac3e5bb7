-- What is promised of the calls, demand by demand, in terms of what their contracts name. By the verdict of 01 the verdict call answers
-- `verdict_of old new selector`; the report call returns `returned old new out` and leaves `leaves old new out` in the buffer out; the values
-- call returns what the verdict call answers to 0, and leaves in each place of its buffer what that answers to the place's index (`Valued` of
-- the crate vexil_compat). Of the calls with imports the same holds with `verdict_by imports`, `returned_by imports` and `leaves_by imports`, and
-- of the mended ones with `mended` in the place of `imports`. The listing's verdict call answers `listing_verdict image room selector`, and the
-- listing call returns `text_length` of `outcome image room` and leaves `written` of it. That each call does so, for all bytes, buffers and
-- selectors, within bounds and to an end, is its contract, which has no precondition. The value of this page is proofs/Claims.antt. Assumes
-- nothing.
use Rattle.std.specs.Prelude.{◌≡◌, ◌↔◌, ℕ, ◌^◌, ◌≤◌, ◌<◌, length, take, drop}
use Rattle.maps.specs.Lists.{All}
use Rattle.image.specs.Schema.{Ty, Schema}
use Rattle.image.specs.Parse.{ok, no}
use Rattle.image.specs.Image.{read_image}
use Rattle.refusals.specs.Refusals.{ExactlyIf}
use Rattle.written.specs.Limits.{Each, Byte, Within}
use Rattle.written.specs.Writer.{write}
use Rattle.rules.specs.Survivors.{view_of}
use Rattle.rules.specs.Changes.{ordinal_kinds}
use Rattle.rules.specs.Clauses.{changes}
use Rattle.rules.specs.Answer.{Policy, compared, outcome, verdict_by, returned_by, leaves_by, plain_reading, plain}
use Rattle.rules.specs.Refusals.{AcceptedPair, AliasPair, PolicyRefusals, ReportRefusals, VerdictRefusals}
use Rattle.rules.specs.Distance.{Image, holds_vectors, count_between, DistanceRule}
use Rattle.rules.specs.Edges.{Edges}
use Rattle.rules.specs.Pinned.{Pinned}
use Rattle.rules.specs.Reached.{ReachedIs}
use Rattle.rules.specs.Imports.{imports_view, imports, Imported}
use Rattle.rules.specs.OneSide.{OneSide}
use Rattle.rules.specs.ImportEdges.{ImportEdges}
use Rattle.rules.specs.PinnedImports.{PinnedImports}
use Rattle.rules.specs.Tombstones.{uses_struck, StruckOff}
use Rattle.rules.specs.Mended.{ThreeAnswers, mended, mended_kinds, Otherwise}
use Rattle.rules.specs.AllElse.{AllElse}
use Rattle.rules.specs.Reuse.{NoReuseHidden}
use Rattle.rules.specs.MendedRefusals.{Mixed, MendedRefusals}
use Rattle.rules.specs.Ignored.{EarlierIgnore}
use Rattle.rules.specs.PinnedIgnored.{PinnedIgnored}
use Rattle.rules.specs.MendedEdges.{MendedEdges}
use Rattle.rules.specs.TombstoneEdges.{TombstoneEdges}
use Rattle.rules.specs.PinnedMended.{PinnedMended}
use Rattle.rules.specs.PinnedReuse.{PinnedReuse}
use Rattle.rules.specs.PinnedBuffers.{PinnedBuffers}
use Rattle.listing.specs.Refusals.{ListingRefusals}
use Rattle.listing.specs.Ignored.{ListingIgnores}
use Rattle.refiling.specs.Refiling.{Refilings, FilingOrder}
use Rattle.refiling.specs.Example.{Example, Readings, Needed}
use Rattle.claims.specs.Widths.{Widths, WidthsMet}

-- ---- of a verdict on two images, by what it is made of: `plain` is that of 01, `imports` the one with imports, `mended` the mended one

module _ (policy : Policy) where
  -- demand 1, where `Numbers` says when each number is given and with which side
  pub record RefusingTwo (Numbers : Image → Image → Type 0) : Type 0 where
    -- by which stage two images are decided, what a refusal is, and that it leaves the buffer as it was
    pub stages : (old new : Image) → PolicyRefusals policy old new
    pub verdict : (old new : Image) → Numbers old new
    pub report : (old new : Image) (room : ℕ) → ReportRefusals policy old new room
    -- no value that is told is cut off
    pub values : (old new : Image) (selector : ℕ) → verdict_by policy old new selector < 2 ^ 62

  -- demand 2, where two accepted images get a verdict if `Get` holds of what they hold
  pub record ComparingTwo (Get : Schema → Schema → Type 0) : Type 0 where
    -- all that is told of two images that get a verdict is made of the changes of the clauses
    pub clauses : (old new : Image) (a : AcceptedPair old new Get)
        → outcome policy old new ≡ compared (changes policy.reading (policy.view a.old_schema) (policy.view a.new_schema))
    -- "The three `..OrdinalChanged` counts are 0."
    pub ordinals : (old new : Image) → All (λ kind. count_between (verdict_by policy) kind old new ≡ 0) ordinal_kinds
    -- who asks for the length first has room enough; the text is one and the same in every buffer that holds it; the bytes past it stay
    pub room_enough : (old new out : Image) → verdict_by policy old new 4 ≤ length out → returned_by policy old new out ≡ verdict_by policy old new 4
    pub same_text : (old new out out' : Image) → verdict_by policy old new 4 ≤ length out → verdict_by policy old new 4 ≤ length out'
        → take (returned_by policy old new out) (leaves_by policy old new out) ≡ take (returned_by policy old new out') (leaves_by policy old new out')
    pub rest_stays : (old new out : Image) → drop (returned_by policy old new out) (leaves_by policy old new out) ≡ drop (returned_by policy old new out) out

  -- demand 3, as 01 reads types: chain, self and swap
  abbrev Distances : Type 0
  Distances = DistanceRule (verdict_by policy) (holds_vectors policy.view)

-- ---- the demands

-- Demand 1: "Faulty input gets a refusal number from document 01, and the report buffer then holds what it held before."
pub record Refusing : Type 0 where
  -- one image is accepted exactly if it is what is written of a schema within 01's limits; else its number is one of 1 to 10, and 1 to 5
  -- are given exactly if
  pub accepted : (s : Image) → Each Byte s → (x : Schema) (n : ℕ) → (read_image s ≡ ok x n) ↔ (Within x × (s ≡ write x) × (n ≡ length s))
  pub ten : (s : Image) (k : ℕ) → read_image s ≡ no k → (1 ≤ k) × (k ≤ 10)
  pub five : (s : Image) → ExactlyIf s
  pub two : RefusingTwo plain (VerdictRefusals view_of plain_reading)
  -- and of the listing of one
  pub listing : (image : Image) (room : ℕ) → ListingRefusals image room

-- Demand 2: "For every pair of images that 01 accepts, the changes, result and bump .. are proved equal to the clauses as 01 writes them."
pub record Comparing : Type 0 where
  pub two : ComparingTwo plain (λ x y. ¬ AliasPair view_of x y)
  -- the edges of 01, and what the Rust answered on whole pairs, by computation
  pub edges : Edges
  pub pinned : Pinned

-- R-2: "Follow the imports."
pub record Importing : Type 0 where
  -- what is reached is what is computed
  pub reached : (s : Schema) → ReachedIs s
  -- under each name the survivor stands, or else the highest id that is reached; each reached name once; where nothing is imported the
  -- verdict is that of 01
  pub imported : Imported
  -- "A name that one side alone has, as survivor or reached, is removed or added": told once, and no other is
  pub one_side : OneSide
  -- "A second verdict, with a report": the demands hold of it, over what stands then
  pub refusing : RefusingTwo imports (VerdictRefusals imports_view plain_reading)
  pub comparing : ComparingTwo imports (λ x y. ¬ AliasPair imports_view x y)
  -- "the distance rule covers it as well, its compared types being those of all entries that stand"
  pub distance : Distances imports
  -- its edges, and pairs of images on which it and the verdict of 01 differ, by computation
  pub edges : ImportEdges
  pub pinned : PinnedImports

-- R-5: "Three answers from the type comparison."
pub record Mending : Type 0 where
  -- when each answer is given, and that the verdict of 01, and so the one with imports, reads the third as different
  pub answers : (t u : Ty) → ThreeAnswers t u
  -- "A mended verdict, otherwise by the clauses of 01 and with its own report, reads it as equal": the demands hold of it, with R-6's and
  -- R-10's 16, WidthChanged, TombstoneReused and TombstoneDropped; and where it does not refuse by 16, reports none of these, and one image has
  -- no vector, quaternion or matrix in a compared type, it is that of 01
  pub refusing : RefusingTwo mended MendedRefusals
  pub comparing : ComparingTwo mended (λ x y. ¬ Mixed x y × ¬ AliasPair view_of x y)
  pub otherwise : Otherwise
  -- and of every two images that get it, whatever they hold: all but changed types and those three kinds is told as by that of 01
  pub all_else : AllElse
  -- "there every image that gets a verdict against itself is at distance 0 from itself. The chain rule covers the mended verdict as well.";
  -- R-10: "one that strikes off a number and uses it in the same surviving declaration, or surviving variant of one, is now at distance 2 from
  -- itself; every other one stays at 0"; and the swap of counts, but of R-10's two
  pub distance : DistanceRule (verdict_by mended) uses_struck
  -- its edges, and images with vectors by the three verdicts, by computation
  pub edges : MendedEdges
  pub pinned : PinnedMended

-- none of these kinds is counted
abbrev pub Uncounted : Policy → Type 0
Uncounted policy = (old new : Image) → All (λ kind. count_between (verdict_by policy) kind old new ≡ 0) mended_kinds

-- R-6: "Widths written out."; R-10: "Struck-off ordinals." What the mended verdict makes of widths and tombstones is above.
pub record Widening : Type 0 where
  -- "a differing width between two enums or two flags .. both numbers as stored": each has one, no other kind has, and both are told if they differ
  pub widths : Widths
  pub widths_met : WidthsMet
  -- "The earlier verdicts accept both formats and ignore the width.", they "skip tombstones": two images that hold the same but for format,
  -- widths and tombstones get the same answers from every earlier call, on either side of any pair, and from the listing; and such images, by
  -- computation
  pub ignored : EarlierIgnore
  pub listing : ListingIgnores
  pub pinned : PinnedIgnored
  -- "The list of counts gains this name at its end, always 0 in the earlier verdicts."; R-10's two "are 0 in the earlier verdicts"
  pub plain_counts : Uncounted plain
  pub imports_counts : Uncounted imports

-- R-10: "Struck-off ordinals." That the mended verdict reports them is above, and that the earlier ones skip them.
pub record Striking : Type 0 where
  -- what is reported of two declarations or variants, when nothing is, that no release in the middle hides a reuse; and what "uses" means
  pub struck_off : StruckOff
  -- "Repeated tombstones count as one."; "a chain cannot hide a reuse behind a middle release", however long it is and whatever stands between
  pub hidden : NoReuseHidden
  -- its edges, and chains that reuse a number, by computation
  pub edges : TombstoneEdges
  pub pinned : PinnedReuse

-- R-13: "Filing order must not matter."
pub record Filing : Type 0 where
  pub order : FilingOrder
  -- filing anew is an equivalence
  pub anew : Refilings
  -- two releases filed anew in each format; how the readings of the premise differ; and what can't be left out of it
  pub example : Example
  pub readings : Readings
  pub needed : Needed

pub record Claims : Type 0 where
  pub refusing : Refusing
  pub comparing : Comparing
  pub distance : Distances plain
  pub importing : Importing
  pub mending : Mending
  pub widening : Widening
  pub striking : Striking
  pub filing : Filing
  -- the report calls with imports and mended, in buffers that are long enough and a byte short, by computation
  pub buffers : PinnedBuffers
