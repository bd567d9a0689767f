-- The shift is no greater than 31.
use Rattle.std.proofs.Common.{◌-◌, ◌≤◌}
use Rattle.dam_curve.proofs.curves.shift_of.Given as goal

abbrev pub invariant-loop-shift : goal.invariant-loop-shift
invariant-loop-shift l = l.shift ≤ 31

abbrev pub decreases-loop-shift : goal.decreases-loop-shift
decreases-loop-shift l = 31 - l.shift
