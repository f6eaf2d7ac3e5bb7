-- `listing::measured` meets its contract: 12, or the length that the pass found. Assumes nothing.
use Rattle.std.proofs.Common.{◌∙◌}
use Rattle.text.proofs.Writers.{adds_at}
use Rattle.verdicts.specs.Verdicts.{answer_values}
use Rattle.listing.proofs.Outcomes.{measured_is, measured_full, measured_fits}
use Rattle.listing.proofs.measured.Goals as goal

pub returns-then-room-length : goal.returns-then-room-length
unfolding answer_values
returns-then-room-length c = measured_full _ c.args.image.accepted _ (measured_is _ c.args.image.accepted (adds_at c.put_listing.ensures c.new-w.ensures.start)) c.if-room-length.true

pub returns : goal.returns
returns c = c.of_tally.ensures ∙ measured_fits _ c.args.image.accepted _ (measured_is _ c.args.image.accepted (adds_at c.put_listing.ensures c.new-w.ensures.start)) c.if-room-length.false c.empty.ensures
