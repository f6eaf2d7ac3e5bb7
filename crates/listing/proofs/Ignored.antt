-- R-6 and R-10: the listing ignores the format, widths and tombstones. Assumes nothing.
use mathlib.Core.Path.{◌≡◌, refl}
use mathlib.Core.List.{List, [], ◌∷◌, map}
use Rattle.std.specs.Prelude.{Option, None, Some, option_map}
use Prim.Native.Nat.{ℕ, suc}
use Rattle.image.specs.Schema.{Decl, Schema}
use Rattle.rules.specs.Ignored.{stripped, stripped_schema, SameStripped}
use Rattle.listing.specs.Listing.{entry_line, entry_text, lines_from, listing, accept, outcome}
use Rattle.listing.specs.Ignored.{ListingIgnores}

-- of the entries without widths and tombstones
entry_ignores : (id : ℕ) (e : Option Decl) → entry_text id (option_map stripped e) ≡ entry_text id e
unfolding entry_text entry_line stripped
entry_ignores id None = refl
entry_ignores id (Some d) = refl

lines_ignore : (id : ℕ) (es : List (Option Decl)) → lines_from id (map (option_map stripped) es) ≡ lines_from id es
unfolding lines_from
lines_ignore id [] = refl
lines_ignore id (e ∷ es) = rw (entry_ignores id e, lines_ignore (suc id) es)

listing_ignores : (x : Schema) → listing (stripped_schema x) ≡ listing x
unfolding listing stripped_schema
listing_ignores x = lines_ignore 0 x.registry

same : (a b : List ℕ) → SameStripped a b → (room : ℕ) → outcome a room ≡ outcome b room
unfolding outcome accept
same a b s room =
    rw (s.old_read, s.new_read, ← listing_ignores s.old_schema, ← listing_ignores s.new_schema, s.holds)

pub ignores : ListingIgnores
ignores = record { same = same }
