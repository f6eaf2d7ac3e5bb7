-- Equal, Types: the tests are sound. Mirror, Readings: what the three claims ask for. Chain, Self,
-- Swap: the three claims of the distance rule, of the clauses over any views and any lawful reading. Answer: the four cases of two images.
-- Distance: the distance rule. Refusals: when each number is given. MendedRefusals: when each is by the mended verdict.
-- Calls: what both calls say together.
-- Unreported: the kinds that no clause reports, whose counts are always 0. Sizes, Texts, Scales, Weights, Held, Bound: how long a report can be.
-- Tombstones, TombstoneLines: R-10, what is reported of numbers that are struck off, and how long its lines are.
-- ReachedSets, Reached: what is computed is what is reached through named nodes. Standing: what stands with a set of ids. Imports: the
-- verdict with imports. OneSide: a name that one side alone has. Agreed: readings that agree on the types that are compared. Widths: R-6, what
-- is reported of widths. Related: what two readings report of the same views. Otherwise: lists of changes without some kinds. Mended: the three
-- answers of the type comparison, and the mended verdict. AllElse: what that has in common with the verdict of document 01. Reuse: R-10, that
-- no chain of images hides a reuse.
-- Forgotten: what is read where a part of each declaration is forgotten. Ignored: the earlier verdicts ignore widths and tombstones.
-- Computed: what is unfolded to compute. Edges, ImportEdges, MendedEdges, TombstoneEdges, Pinned, PinnedImports, PinnedMended,
-- PinnedIgnored, PinnedBuffers, PinnedPremises, PinnedReuse: what is computed from the definitions alone.
pub mod Equal
pub mod Types
pub mod Mirror
pub mod Readings
pub mod Chain
pub mod Self
pub mod Swap
pub mod Outcomes
pub mod Answer
pub mod ReachedSets
pub mod Reached
pub mod Standing
pub mod Distance
pub mod Refusals
pub mod MendedRefusals
pub mod Calls
pub mod Unreported
pub mod Tombstones
pub mod Sizes
pub mod Texts
pub mod Scales
pub mod Weights
pub mod Held
pub mod Bound
pub mod Imports
pub mod OneSide
pub mod Agreed
pub mod Widths
pub mod TombstoneLines
pub mod Related
pub mod Otherwise
pub mod Mended
pub mod AllElse
pub mod Reuse
pub mod Forgotten
pub mod Ignored
pub mod Computed
pub mod Edges
pub mod ImportEdges
pub mod MendedEdges
pub mod TombstoneEdges
pub mod Pinned
pub mod PinnedImports
pub mod PinnedMended
pub mod PinnedIgnored
pub mod PinnedBuffers
pub mod PinnedPremises
pub mod PinnedReuse
