-- Without its position the answer is refused as the read is.
use Rattle.std.proofs.Common.{ap, sym, ◌∙◌}
use Rattle.reader.specs.Answer.{refused_by}
use Rattle.reader.proofs.Laws.Answers.{read_refused}
use Rattle.reader.proofs.read_image.Goals as goal

pub returns-in-Ok : goal.returns-in-Ok
unfolding refused_by
returns-in-Ok c = sym (ap refused_by c.in-Ok.is) ∙ read_refused _ _ c.read_whole.ensures

pub returns-in-Err : goal.returns-in-Err
unfolding refused_by
returns-in-Err c = sym (ap refused_by c.in-Err.is) ∙ read_refused _ _ c.read_whole.ensures
