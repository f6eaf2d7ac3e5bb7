-- Words in one text, byte after byte; and a list of words as such a text. Assumes nothing.
use mathlib.Core.Path.{◌≡◌, refl, ap, ◌∙◌}
use mathlib.Core.Bool.{Bool, true, cond, not, ◌&&◌}
use mathlib.Core.List.{List, [], ◌∷◌, ◌++◌}
use Prim.Native.Nat.{ℕ, zero, suc, ◌+◌, ◌-◌, ◌≤◌, ◌<◌}
use Prim.Native.String.{String}
use native.Mathlib.Omega.{arith}
use native.Mathlib.Numerals.{add-one}
use borrow.Author.Tests.{ne_eqb, not-true}
use lib.Dec.{eqb}
use lib.ListN.{length, get_or, drop, drop_of_length-le}
use lib.Seq.{drop-cons}
use Rattle.image.specs.Words.{bytes, kind_word}
use Rattle.parts.specs.Kinds.{kind_of}
use Rattle.image.specs.declared.kinds.Kind.{Kind}
use Rattle.image.specs.declared.kinds.Kind.TheVariants as kind
use Rattle.parts.specs.Numbers.{kind_number}
use Rattle.parts.specs.Promise.{coding_number}
use Rattle.parts.specs.declared.Coding.{Coding}
use Rattle.parts.specs.declared.Coding.TheVariants as coding
use Rattle.maps.proofs.Tests.{both}
use Rattle.rules.specs.Text.{word}
use Rattle.text.specs.Writers.{after}
use Rattle.text.specs.declared.Writer.{Writer}
use Rattle.display.specs.Words.{word_in}

-- ---- a byte of the text, where so many words are left before the one that is meant

module _ (b : ℕ) (words : List ℕ) (left : ℕ) where
  word_end : b ≡ 32 → left ≡ 0 → word_in (b ∷ words) left ≡ []
  unfolding word_in
  word_end e z = rw (z, e)

  next_word : b ≡ 32 → 0 < left → word_in (b ∷ words) left ≡ word_in words (left - 1)
  unfolding word_in
  next_word e l = go left l
    where
      go : (n : ℕ) → 0 < n → word_in (b ∷ words) n ≡ word_in words (n - 1)
      go zero l = absurd (omega arith)
      go (suc n) l = let k : suc n - 1 ≡ n = omega arith in rw (e, k)

  word_byte : (b ≡ 32 → ⊥) → left ≡ 0 → word_in (b ∷ words) left ≡ b ∷ word_in words left
  unfolding word_in
  word_byte d z = rw (z, ne_eqb b 32 d)

  other_byte : (b ≡ 32 → ⊥) → 0 < left → word_in (b ∷ words) left ≡ word_in words left
  unfolding word_in
  other_byte d l = go left l
    where
      go : (n : ℕ) → 0 < n → word_in (b ∷ words) n ≡ word_in words n
      go zero l = absurd (omega arith)
      go (suc n) l = rw (ne_eqb b 32 d)

module _ (words : List ℕ) (at left : ℕ) where
  pub scan_end : length words ≤ at → word_in (drop at words) left ≡ []
  unfolding word_in
  scan_end l = rw (drop_of_length-le words {i = at} l)

  module _ (l : at < length words) where
    first : drop at words ≡ get_or words at 0 ∷ drop (at + 1) words
    first = rw (add-one at) (drop-cons words at 0 l)

    pub scan_word_end : get_or words at 0 ≡ 32 → left ≡ 0 → word_in (drop at words) left ≡ []
    scan_word_end e z = rw first (word_end _ _ left e z)

    pub scan_next_word : get_or words at 0 ≡ 32 → 0 < left → word_in (drop at words) left ≡ word_in (drop (at + 1) words) (left - 1)
    scan_next_word e h = rw first (next_word _ _ left e h)

    pub scan_word_byte : (get_or words at 0 ≡ 32 → ⊥) → left ≡ 0 → word_in (drop at words) left ≡ get_or words at 0 ∷ word_in (drop (at + 1) words) left
    scan_word_byte d z = rw first (word_byte _ _ left d z)

    pub scan_other_byte : (get_or words at 0 ≡ 32 → ⊥) → 0 < left → word_in (drop at words) left ≡ word_in (drop (at + 1) words) left
    scan_other_byte d h = rw first (other_byte _ _ left d h)

pub after_byte_then : (w : Writer) (b : ℕ) (xs : List ℕ) → after (after w (b ∷ [])) xs ≡ after w (b ∷ xs)
unfolding after
after_byte_then w b xs = refl

pub after_nil : (w : Writer) → after w [] ≡ w
unfolding after
after_nil w = refl

-- what the code needs
pub ruleset scanning = (scan_end, scan_word_end, scan_next_word, scan_word_byte, scan_other_byte, after_byte_then, after_nil)

-- ---- words as one text

unfoldable pub table : List String → List ℕ
table [] = []
table (w ∷ ws) = bytes w ++ (32 ∷ table ws)

-- no word has a space
unfoldable pub whole : List ℕ → Bool
whole [] = true
whole (x ∷ xs) = not (eqb x 32) && whole xs

unfoldable pub whole_words : List String → Bool
whole_words [] = true
whole_words (w ∷ ws) = whole (bytes w) && whole_words ws

module _ (rest : List ℕ) where
  whole_word : (w : List ℕ) → whole w ≡ true → word_in (w ++ (32 ∷ rest)) 0 ≡ w
  unfolding whole word_in
  whole_word [] h = refl
  whole_word (x ∷ xs) h =
      let p = both (not (eqb x 32)) (whole xs) h in
      rw (not-true (eqb x 32) p.0, whole_word xs p.1)

  whole_after : (n : ℕ) (w : List ℕ) → whole w ≡ true → word_in (w ++ (32 ∷ rest)) (suc n) ≡ word_in rest n
  unfolding whole word_in
  whole_after n [] h = refl
  whole_after n (x ∷ xs) h =
      let p = both (not (eqb x 32)) (whole xs) h in
      ap (λ (b : Bool). word_in (xs ++ (32 ∷ rest)) (cond b n (suc n))) (not-true (eqb x 32) p.0) ∙ whole_after n xs p.1

-- the words of a table are those of the list
table_word : (ws : List String) → whole_words ws ≡ true → (n : ℕ) → word_in (table ws) n ≡ word ws n
unfolding table whole_words word bytes word_in
table_word [] h n = refl
table_word (w ∷ ws) h zero =
    let p = both (whole (bytes w)) (whole_words ws) h in
    whole_word (table ws) (bytes w) p.0
table_word (w ∷ ws) h (suc n) =
    let p = both (whole (bytes w)) (whole_words ws) h in
    whole_after (table ws) n (bytes w) p.0 ∙ table_word ws p.1 n

pub words_are : (text : List ℕ) (ws : List String) → text ≡ table ws → whole_words ws ≡ true → (n : ℕ) → word_in text n ≡ word ws n
words_are text ws e h n = rw e (table_word ws h n)

-- ---- words that the code writes each by its own arm

abbrev coding_text : Coding → List ℕ
coding_text coding.Default = bytes "default"
coding_text coding.Varint = bytes "varint"
coding_text coding.Zigzag = bytes "zigzag"

pub coding_told : (c : Coding) → word ("default" ∷ "varint" ∷ "zigzag" ∷ []) (coding_number c) ≡ coding_text c
unfolding word
coding_told coding.Default = refl
coding_told coding.Varint = refl
coding_told coding.Zigzag = refl

abbrev kind_text : Kind → List ℕ
kind_text kind.Message = bytes "message"
kind_text kind.Enum = bytes "enum"
kind_text kind.Flags = bytes "flags"
kind_text kind.Union = bytes "union"
kind_text kind.Newtype = bytes "newtype"
kind_text kind.Config = bytes "config"
kind_text kind.Alias = bytes "generic_alias"
kind_text kind.Trait = bytes "trait"
kind_text kind.Impl = bytes "impl"

pub kind_told : (k : Kind) → kind_word (kind_number k) ≡ kind_text k
unfolding kind_word kind_of
kind_told kind.Message = refl
kind_told kind.Enum = refl
kind_told kind.Flags = refl
kind_told kind.Union = refl
kind_told kind.Newtype = refl
kind_told kind.Config = refl
kind_told kind.Alias = refl
kind_told kind.Trait = refl
kind_told kind.Impl = refl
