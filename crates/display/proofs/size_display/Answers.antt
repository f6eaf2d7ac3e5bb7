use Rattle.std.proofs.Common.{sym}
use Rattle.text.proofs.Writers.{adds_nil, adds_as}
use Rattle.display.proofs.Laws.Texts.{size_none}
use Rattle.display.proofs.size_display.Goals as goal

pub returns-in_default : goal.returns-in_default
returns-in_default c = adds_as (sym (size_none _ _ _ c.tag.ensures c.in_default.not-FixedArray)) adds_nil
