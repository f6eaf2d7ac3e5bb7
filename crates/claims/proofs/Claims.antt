-- The claims hold: each is proved in the crate that it is about. Assumes nothing.
use mathlib.Core.Path.{◌≡◌}
use Rattle.maps.specs.Lists.{All}
use Rattle.image.specs.Schema.{Schema}
use Rattle.refusals.proofs.Refusals.{only_ten, exactly_if}
use Rattle.written.proofs.Accepted.{accepted_exactly}
use Rattle.rules.specs.Survivors.{view_of}
use Rattle.rules.specs.Types.{same_type}
use Rattle.rules.specs.Changes.{ordinal_kinds}
use Rattle.rules.specs.Clauses.{changes}
use Rattle.rules.specs.Answer.{Policy, compared, outcome, plain_reading, plain}
use Rattle.rules.specs.Refusals.{Numbered, AcceptedPair}
use Rattle.rules.specs.Distance.{Image}
use Rattle.rules.specs.Imports.{imports_view, imports}
use Rattle.rules.specs.Mended.{mended}
use Rattle.rules.proofs.Answer.{plain_numbered}
use Rattle.rules.proofs.Refusals.{policy_refusals, report_refusals, clauses_told, verdict_refusals}
use Rattle.rules.proofs.Bound.{Bounded, selector_bound, plain_bounded}
use Rattle.rules.proofs.Unreported.{Ordinary, clauses_ordinary, no_ordinal_changed, no_mended_changed}
use Rattle.rules.proofs.Calls.{room_enough_lem, same_text_lem, rest_stays_lem}
use Rattle.rules.proofs.Edges.{edges}
use Rattle.rules.proofs.Pinned.{pinned}
use Rattle.rules.proofs.Distance.{distance_rule}
use Rattle.rules.proofs.Reached.{reached_is}
use Rattle.rules.proofs.Standing.{view_rises}
use Rattle.rules.proofs.Imports.{imports_rise, imported_holds, imports_numbered, imports_bounded, imports_refusals, imports_distance_rule}
use Rattle.rules.proofs.OneSide.{one_side}
use Rattle.rules.proofs.ImportEdges.{import_edges}
use Rattle.rules.proofs.PinnedImports.{pinned_imports}
use Rattle.rules.proofs.Ignored.{earlier_ignore}
use Rattle.rules.proofs.PinnedIgnored.{pinned_ignored}
use Rattle.rules.proofs.Tombstones.{struck_off}
use Rattle.rules.proofs.Mended.{three_answers, mended_bounded, mended_ordinary, otherwise, mended_distance_rule}
use Rattle.rules.proofs.AllElse.{all_else}
use Rattle.rules.proofs.Reuse.{no_reuse_hidden}
use Rattle.rules.proofs.MendedRefusals.{mended_numbered, mended_told_lem, mended_refusals}
use Rattle.rules.proofs.MendedEdges.{mended_edges}
use Rattle.rules.proofs.TombstoneEdges.{tombstone_edges}
use Rattle.rules.proofs.PinnedMended.{pinned_mended}
use Rattle.rules.proofs.PinnedReuse.{pinned_reuse}
use Rattle.rules.proofs.PinnedBuffers.{pinned_buffers}
use Rattle.listing.proofs.Refusals.{listing_refusals}
use Rattle.listing.proofs.Ignored.{ignores}
use Rattle.refiling.proofs.FilingOrder.{filing_order}
use Rattle.refiling.proofs.Relation.{refilings}
use Rattle.refiling.proofs.Example.{example}
use Rattle.refiling.proofs.Needed.{readings, needed}
use Rattle.claims.specs.Claims.{RefusingTwo, ComparingTwo, Refusing, Comparing, Importing, Mending, Widening, Striking, Filing, Claims}
use Rattle.claims.proofs.Widths.{widths, widths_met}

-- ---- of two images, by any verdict

module _ (p : Policy) (numbered : Numbered p) where
  refusing_two : {Numbers : Image → Image → Type 0} → Bounded p → ((old new : Image) → Numbers old new) → RefusingTwo p Numbers
  refusing_two bounded numbers = record {
    stages = policy_refusals p numbered;
    verdict = numbers;
    report = report_refusals p numbered;
    values = selector_bound p bounded;
  }

  comparing_two : {Get : Schema → Schema → Type 0} → All (λ j. Ordinary j p.reading) ordinal_kinds
      → ((old new : Image) (a : AcceptedPair old new Get) → outcome p old new ≡ compared (changes p.reading (p.view a.old_schema) (p.view a.new_schema)))
      → ComparingTwo p Get
  comparing_two ordinary told = record {
    clauses = told;
    ordinals = no_ordinal_changed p ordinary;
    room_enough = room_enough_lem p numbered;
    same_text = same_text_lem p numbered;
    rest_stays = rest_stays_lem p numbered;
  }

plain_ordinary : All (λ j. Ordinary j plain_reading) ordinal_kinds
unfolding All
plain_ordinary = (clauses_ordinary same_type _, (clauses_ordinary same_type _, (clauses_ordinary same_type _, tt)))

-- ---- the demands

refusing : Refusing
refusing = record {
  accepted = accepted_exactly;
  ten = only_ten;
  five = exactly_if;
  two = refusing_two plain plain_numbered plain_bounded (verdict_refusals view_of view_rises plain_reading);
  listing = listing_refusals;
}

comparing : Comparing
comparing = record {
  two = comparing_two plain plain_numbered plain_ordinary (clauses_told view_of view_rises plain_reading);
  edges = edges;
  pinned = pinned;
}

importing : Importing
importing = record {
  reached = reached_is;
  imported = imported_holds;
  one_side = one_side;
  refusing = refusing_two imports imports_numbered imports_bounded imports_refusals;
  comparing = comparing_two imports imports_numbered plain_ordinary (clauses_told imports_view imports_rise plain_reading);
  distance = imports_distance_rule;
  edges = import_edges;
  pinned = pinned_imports;
}

mending : Mending
mending = record {
  answers = three_answers;
  refusing = refusing_two mended mended_numbered mended_bounded mended_refusals;
  comparing = comparing_two mended mended_numbered mended_ordinary mended_told_lem;
  otherwise = otherwise;
  all_else = all_else;
  distance = mended_distance_rule;
  edges = mended_edges;
  pinned = pinned_mended;
}

widening : Widening
widening = record {
  widths = widths;
  widths_met = widths_met;
  ignored = earlier_ignore;
  listing = ignores;
  pinned = pinned_ignored;
  plain_counts = no_mended_changed view_of same_type;
  imports_counts = no_mended_changed imports_view same_type;
}

striking : Striking
striking = record { struck_off = struck_off; hidden = no_reuse_hidden; edges = tombstone_edges; pinned = pinned_reuse }

filing : Filing
filing = record { order = filing_order; anew = refilings; example = example; readings = readings; needed = needed }

pub claims : Claims
claims = record {
  refusing = refusing;
  comparing = comparing;
  distance = distance_rule;
  importing = importing;
  mending = mending;
  widening = widening;
  striking = striking;
  filing = filing;
  buffers = pinned_buffers;
}
