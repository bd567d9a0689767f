-- The welfare of each class is under its line.
use Rattle.dam_bound.proofs.Lining.{bounds_welfare}
use Rattle.dam_bound.proofs.laws.lines_bound_welfare.Goals as goal

pub returns : goal.returns
returns c = bounds_welfare
