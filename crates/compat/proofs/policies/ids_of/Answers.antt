-- `compat::policies::ids_of` meets its contract: what is reached, or nothing. Assumes nothing.
use Rattle.std.proofs.Common.{◌≡◌, true, false, refl, arith}
use Rattle.parts.specs.declared.handles.Image.{Image}
use Rattle.reached.specs.Marks.{ReachedIn}
use Rattle.reached.specs.declared.Reached.{Reached}
use Rattle.compat.specs.Policies.{ids_by, HasIds}
use Rattle.compat.specs.declared.policies.Policy.{Policy}
use Rattle.compat.proofs.policies.ids_of.Goals as goal

module _ {p : Policy} {i : Image} {r : Reached} where
  no_ids : p.follows ≡ false → r.count ≡ 0 → HasIds p i r
  unfolding ids_by
  no_ids e z = record { marks = rw (z, e) refl; few = omega arith; room = omega arith }

  reached_ids : p.follows ≡ true → ReachedIn i r → HasIds p i r
  unfolding ids_by
  reached_ids e h = record { marks = rw e h.marks; few = h.few; room = h.room }

pub returns-then-policy : goal.returns-then-policy
returns-then-policy c = reached_ids c.if-policy.true c.reached.ensures

pub returns : goal.returns
returns c = no_ids c.if-policy.false c.nothing.ensures
