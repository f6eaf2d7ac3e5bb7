-- `text::copy` meets its contract. Assumes nothing.
use Rattle.std.proofs.Common.{refl, length, ◌∙◌, arith}
use Rattle.std.proofs.lemmas.Slice.{put_mid-paste}
use Rattle.text.proofs.Writing.{paste_put}
use Rattle.text.proofs.copy.Goals as goal

pub returns : goal.returns
returns c = put_mid-paste _ _ _ _ c.args.s.now (length c.args.s.now) c.copy_from_slice.ensures.after (omega arith) refl ∙ paste_put _ _ _
