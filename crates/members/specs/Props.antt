-- What is known of items at their places is a fact: of each there is one proof at most. Assumes nothing.
use Rattle.std.specs.Prelude.{ℕ, List}
use Rattle.parts.specs.Promise.{ItemHere, ItemsHere, items_end, Closed}
use Rattle.parts.specs.Props.{good_prop}
use Rattle.parts.specs.declared.Shape.{Shape}
use Rattle.parts.specs.declared.Run.{Run}

pub items_prop : (h : Shape) (s : List ℕ) (count at : ℕ) → IsProp (ItemsHere h s count at)
unfolding ItemsHere
items_prop h s count at = good_prop _

pub item_prop : (h : Shape) (s : List ℕ) (at : ℕ) → IsProp (ItemHere h s at)
unfolding ItemHere
item_prop h s at = good_prop _

-- numbers that are struck off stand after so many items, in a format that stores them
abbrev pub ClosedAfter : List ℕ → Shape → Run → Type 0
ClosedAfter s h n = Closed s (items_end h s n.count n.start)

pub closed_prop : (s : List ℕ) (h : Shape) (n : Run) → IsProp (ClosedAfter s h n)
unfolding Closed
closed_prop s h n = good_prop _
