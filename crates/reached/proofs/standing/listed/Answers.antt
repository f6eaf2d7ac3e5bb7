use Rattle.std.proofs.Common.{refl}
use Rattle.reached.proofs.Declared.{listed_survive}
use Rattle.reached.proofs.standing.listed.Goals as goal

pub returns : goal.returns
returns c = listed_survive _ refl refl
