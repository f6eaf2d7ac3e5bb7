-- What is right, in the order of document 01: Survivors, Types, Text (how types are shown), Changes, Clauses (the eight clauses),
-- Verdict, Report; Outcome, Answer: the calls over byte lists. Equal: tests of equality. Reached, Imports: R-2, what is reached through
-- named nodes, and the verdict over it. Widths: R-6, what is reported of widths. Tombstones: R-10, what is reported of numbers that are struck
-- off, and what holds of it. Mended: R-5, the three answers of the type comparison, and the mended verdict, with its check 16.
-- Statements that are proved of them: Refusals (when each number is given), Distance (demand 3), OneSide (R-2, a name that one side alone
-- has), AllElse (R-5, what the mended verdict has in common with that of document 01), Reuse (R-10, that no chain of images hides a reuse),
-- Edges (document 01's edges), Pinned (what the Rust answered), ImportEdges and PinnedImports (R-2, on small schemas and over byte lists),
-- MendedEdges, TombstoneEdges and PinnedMended (R-5, R-6 and R-10, the same), MendedRefusals (R-6 and R-10, when each number is given by the
-- mended verdict), Ignored and PinnedIgnored (R-6 and R-10, that the earlier verdicts ignore widths and tombstones, and images on which the
-- mended one does not), PinnedBuffers (the report calls), PinnedPremises (premises of claims, met) and PinnedReuse (a reuse along chains).
pub mod Equal
pub mod Survivors
pub mod Types
pub mod Text
pub mod Changes
pub mod Clauses
pub mod Verdict
pub mod Report
pub mod Outcome
pub mod Answer
pub mod Reached
pub mod Imports
pub mod OneSide
pub mod Widths
pub mod Tombstones
pub mod Mended
pub mod AllElse
pub mod Reuse
pub mod Refusals
pub mod MendedRefusals
pub mod Ignored
pub mod Distance
pub mod Edges
pub mod ImportEdges
pub mod MendedEdges
pub mod TombstoneEdges
pub mod Pinned
pub mod PinnedImports
pub mod PinnedMended
pub mod PinnedIgnored
pub mod PinnedBuffers
pub mod PinnedPremises
pub mod PinnedReuse
