-- No place so far is alike.
use Rattle.dam_bound.proofs.Common.{◌≡◌, ◌-◌, first_from}
use Rattle.dam_bound.proofs.classes.first_of_class.Given as goal

abbrev pub invariant-loop-other : goal.invariant-loop-other
invariant-loop-other l = first_from l.blocks l.at l.other (l.at - l.other) ≡ first_from l.blocks l.at 0 l.at
