-- What the code's readings make of types that are alike, and what they report besides the clauses: the mended one reports widths first and
-- tombstones last, and the plain one nothing. Assumes nothing.
use mathlib.Core.Path.{◌≡◌, refl, sym}
use mathlib.Core.List.{[]}
use Rattle.image.specs.Schema.{Name, Ty, Variant, Decl}
use Rattle.rules.specs.Widths.{compare_widths}
use Rattle.rules.specs.Tombstones.{compare_last, compare_last_in}
use Rattle.rules.specs.Mended.{likeness, read_as, mended_type}
use Rattle.rules.proofs.Mended.{three_answers}
use Rattle.lines.specs.Readings.{reading_of}
use Rattle.lines.specs.declared.Reading.{Reading}
use Rattle.lines.specs.declared.Reading.TheVariants.{Plain, Mended}
use Rattle.clauses.specs.Readings.{reads_alike}

-- document 01 reads the third answer as different, and the mended verdict as equal
pub read : (reading : Reading) (t u : Ty) → read_as (reads_alike reading) (likeness t u) ≡ (reading_of reading).same t u
unfolding reads_alike reading_of mended_type
read Plain t u = sym (three_answers t u).plainly
read Mended t u = refl

module _ {r : Reading} (p : r ≡ Plain) where
  pub none_first : (d e : Decl) → (reading_of r).first d e ≡ []
  unfolding reading_of
  none_first d e = rw p

  pub none_last : (d e : Decl) → (reading_of r).last d e ≡ []
  unfolding reading_of
  none_last d e = rw p

  pub none_last_in : (name : Name) (v w : Variant) → (reading_of r).last_in name v w ≡ []
  unfolding reading_of
  none_last_in name v w = rw p

module _ {r : Reading} (p : r ≡ Mended) where
  pub mended_first : (d e : Decl) → (reading_of r).first d e ≡ compare_widths d e
  unfolding reading_of
  mended_first d e = rw p

  pub mended_last : (d e : Decl) → (reading_of r).last d e ≡ compare_last d e
  unfolding reading_of
  mended_last d e = rw p

  pub mended_last_in : (name : Name) (v w : Variant) → (reading_of r).last_in name v w ≡ compare_last_in name v w
  unfolding reading_of
  mended_last_in name v w = rw p
