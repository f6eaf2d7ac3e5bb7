-- The edges of R-2 hold, by computation from the definitions alone, and every entry of a chain of imports is reached, by induction.
-- Assumes nothing.
use mathlib.Core.Path.{◌≡◌, refl, ap, ◌∙◌}
use mathlib.Core.Bool.{true}
use Rattle.std.specs.Prelude.{Some}
use mathlib.Core.List.{[], ◌∷◌, flat_map}
use Prim.Native.Nat.{ℕ, zero, suc, ◌+◌, ◌≤◌, ◌<◌}
use native.Mathlib.Omega.{arith}
use Rattle.maps.specs.Lists.{pass, among}
use Rattle.maps.specs.Keyed.{insert, survivors}
use Rattle.std.specs.Option.{is_some}
use Rattle.maps.proofs.Tests.{no_both}
use Rattle.maps.proofs.Any.{among_here}
use Rattle.image.specs.Schema.{Schema}
use Rattle.image.specs.Kinds.{kind_of}
use Rattle.rules.specs.Survivors.{stands_for, resolved, listed, declarations, view_of}
use Rattle.rules.specs.Clauses.{types_of, compared_types}
use Rattle.rules.specs.Reached.{named_label, named_in, named_of, named_from, resolvable, Reached, by_survivor, by_reached, has, reached_set}
use Rattle.rules.specs.Imports.{OnlyListed}
use Rattle.rules.specs.Edges.{u8}
use Rattle.rules.specs.ImportEdges.{told, entry, naming, listing, under, link, links, chain, ImportEdges}
use Rattle.rules.proofs.Reached.{reached_is}
use Rattle.rules.proofs.Computed.{reports}

-- ---- a chain of imports

-- each entry of the chain is there
link_at : (n from k : ℕ) → k < n → stands_for (links from n) k ≡ Some (link (from + k))
unfolding links stands_for
link_at zero from k l = absurd (omega arith)
link_at (suc n) from zero l = ap (λ i. Some (link i)) (omega arith)
link_at (suc n) from (suc k) l = link_at n (suc from) k (omega arith) ∙ ap (λ i. Some (link i)) (omega arith)

module _ (n : ℕ) where
  entry_at : (id : ℕ) → id ≤ n → stands_for (chain n).registry id ≡ Some (link id)
  unfolding chain
  entry_at id l = link_at (suc n) 0 id (omega arith) ∙ ap (λ i. Some (link i)) (omega arith)

  there : (id : ℕ) → id ≤ n → resolvable (chain n).registry id ≡ true
  unfolding resolvable
  there id l = ap is_some (entry_at id l)

  -- each names the next
  names_next : (id : ℕ) → among (suc id) (named_of (link id)) ≡ true
  unfolding named_of types_of kind_of flat_map named_in named_label
  names_next id = among_here (suc id) []

  chain_reached : (id : ℕ) → suc id ≤ n → Reached (chain n) (suc id)
  unfolding chain links named_from compared_types view_of declarations listed stands_for resolved survivors pass insert types_of kind_of flat_map named_in named_label
  chain_reached zero l = by_survivor (among_here 1 []) (there 1 l)
  chain_reached (suc id) l = by_reached (chain_reached id (omega arith)) (entry_at (suc id) (omega arith)) (names_next (suc id)) (there (suc (suc id)) l)

steps : (n id : ℕ) → 1 ≤ id → id ≤ n → Reached (chain n) id
steps n zero l h = absurd (omega arith)
steps n (suc id) l h = chain_reached n id h

-- ---- an entry that is reached and listed

abbrev listed_too : Schema
listed_too = listing (naming (entry "B" u8 ∷ [])) (1 ∷ [])

reached_listed_lem : Reached listed_too 1
unfolding reports
reached_listed_lem = by_survivor refl refl

only_listed_lem : OnlyListed listed_too
unfolding reports
only_listed_lem id q = go id (((reached_is listed_too).exactly id).1 q)
  where
    go : (id : ℕ) → has (reached_set listed_too) id ≡ true → among id listed_too.ids ≡ true
    go zero e = no_both e refl
    go (suc zero) e = refl
    go (suc (suc id)) e = no_both e refl

-- ---- the rest by computation

pub import_edges : ImportEdges
unfolding told under reports
import_edges = assumption (reached_listed_lem, only_listed_lem, steps, steps 500 500 (omega arith) (omega arith))
