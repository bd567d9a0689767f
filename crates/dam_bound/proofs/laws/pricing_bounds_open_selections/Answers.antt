-- The bound of a pricing, over the gains of an open selection.
use Rattle.dam_bound.proofs.Common.{arith, ints}
use Rattle.dam_bound.proofs.Opening.{open_gains}
use Rattle.dam_bound.proofs.laws.pricing_bounds_open_selections.Goals as goal

pub returns : goal.returns
returns c problem pricing accepted selection left w is long free opened e =
    let above = is.above selection w e in
    let gains = open_gains pricing.gains left accepted selection is.many long free opened in
    omega (arith, ints, above, gains)
