-- The journal that is settled is always the given one.
use Rattle.std.proofs.Common.{◌≡◌}
use Rattle.dam_refusals.proofs.day.settle_again.Given as goal

abbrev pub invariant-loop-refused : goal.invariant-loop-refused
invariant-loop-refused l = l.journal ≡ l.initial.journal
