-- The entries that are left have the first fault of all.
use Rattle.std.proofs.Common.{◌≡◌, ◌+◌, drop}
use Rattle.dam_gate.specs.inside.Tally.{first_mismatch_in_marks}
use Rattle.dam_gate.proofs.tally.first_mismatch_in_marks.Given as goal

abbrev pub invariant-loop-mark : goal.invariant-loop-mark
invariant-loop-mark l = record {
  numbered : l.number ≡ l.mark-index;
  rest : first_mismatch_in_marks (l.number + 1) (drop l.mark-index l.found) ≡ first_mismatch_in_marks 1 l.initial.found;
}
