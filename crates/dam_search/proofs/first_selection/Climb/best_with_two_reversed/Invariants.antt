-- The best so far is eligible, and has no less welfare than the one before.
use Rattle.dam_search.proofs.Common.{pos, ◌≤◌, IsEligible}
use Rattle.dam_search.proofs.first_selection.Climb.best_with_two_reversed.Given as goal

abbrev pub invariant-loop-place : goal.invariant-loop-place
invariant-loop-place g l = record {
  eligible : IsEligible l.self.problem.now l.greatest.selection (pos l.greatest.welfare);
  rises : l.initial.greatest.welfare ≤ l.greatest.welfare;
}
