-- The results of the orders so far.
use Rattle.std.proofs.Common.{take}
use Rattle.dam_results.specs.Published.{AreRowResults}
use Rattle.dam_results.proofs.row_results.row_results.Given as goal

abbrev pub invariant-loop-row : goal.invariant-loop-row
invariant-loop-row g l = AreRowResults l.problem l.selection l.clearing.prices.items (take l.row-index l.rows) l.results.items
