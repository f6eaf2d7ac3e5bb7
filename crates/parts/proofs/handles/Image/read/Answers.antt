-- `parts::handles::Image::read` meets its contract. Assumes nothing.
use Rattle.std.proofs.Common.{refl, sym, ap, ◌∙◌}
use Rattle.std.proofs.lemmas.Result.{err_from_is_err_and}
use Rattle.reader.specs.Answer.{refused_by}
use Rattle.parts.proofs.Promise.{accepted}
use Rattle.parts.proofs.handles.Image.read.Goals as goal

pub invariant_of-result : goal.invariant_of-result
invariant_of-result c = record { accepted = accepted _ c.read_image.ensures c.in_ok-read_image.was }

pub returns : goal.returns
unfolding refused_by
returns c = record { refusal = sym (ap refused_by c.in_ok-read_image.was) ∙ c.read_image.ensures; bytes = refl }

pub returns-in_err-read_image : goal.returns-in_err-read_image
unfolding refused_by
returns-in_err-read_image c =
    let p = err_from_is_err_and c.from_residual.result c.from_residual.ensures.1 in
    rw (p.1, p.2) (record { refusal = sym (ap refused_by c.in_err-read_image.was) ∙ c.read_image.ensures; bytes = tt })
