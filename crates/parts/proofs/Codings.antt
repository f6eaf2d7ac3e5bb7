-- Codings are told apart by their codes. Assumes nothing.
use mathlib.Core.Path.{◌≡◌, refl}
use denote.Enum.Bare.{sameb}
use lib.Dec.{eqb}
use Rattle.parts.specs.Promise.{coding_number}
use Rattle.parts.specs.contracts.Coding.{the_type}
use Rattle.parts.specs.declared.Coding.{Coding}
use Rattle.parts.specs.declared.Coding.TheVariants as coding

pub same_codes : (x y : Coding) → sameb the_type x y ≡ eqb (coding_number x) (coding_number y)
same_codes coding.Default coding.Default = refl
same_codes coding.Default coding.Varint = refl
same_codes coding.Default coding.Zigzag = refl
same_codes coding.Varint coding.Default = refl
same_codes coding.Varint coding.Varint = refl
same_codes coding.Varint coding.Zigzag = refl
same_codes coding.Zigzag coding.Default = refl
same_codes coding.Zigzag coding.Varint = refl
same_codes coding.Zigzag coding.Zigzag = refl
