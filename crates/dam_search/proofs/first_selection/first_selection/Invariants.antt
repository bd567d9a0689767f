-- The selection found so far is eligible, and has no less welfare than the empty selection.
use Rattle.std.proofs.Common.{◌≡◌, ℤ, pos, ◌≤ℤ◌, Some}
use Rattle.dam_blocks.specs.Selection.{empty_selection}
use Rattle.dam_blocks.specs.Eligible.{IsEligible, selection_welfare}
use Rattle.dam_search.proofs.first_selection.first_selection.Given as goal

abbrev pub invariant-loop : goal.invariant-loop
invariant-loop g l = record {
  eligible : IsEligible l.problem l.best.selection (pos l.best.welfare);
  least : (welfare : ℤ) → selection_welfare l.problem empty_selection ≡ Some welfare → welfare ≤ℤ pos l.best.welfare;
}
