-- The totals are those of the best execution, and its welfare is the greatest.
use Rattle.dam_hour.proofs.Common.{ℤ, subst, to_z-of_z, w64, IsUnbalanced, AreBestTotals}
use Rattle.dam_hour.proofs.Enumeration.{unbalanced_welfare}
use Rattle.dam_hour.proofs.Answering.{totals_welfare}
use Rattle.dam_hour.proofs.hour.Hour.clear.Goals as goal

pub returns-in-Some-clause-totals : goal.returns-in-Some-clause-totals
returns-in-Some-clause-totals g c =
    let cleared = c.cleared_from.result in
    subst (λ (z : ℤ). AreBestTotals c.args.self.now z cleared.bought cleared.sold cleared.welfare)
    (to_z-of_z w64 c.args.net c.ranges.net) c.cleared_from.ensures.totals

pub returns-in-Some-clause-welfare : goal.returns-in-Some-clause-welfare
returns-in-Some-clause-welfare g c = totals_welfare c.args.self.now c.args.net _ _ _ (returns-in-Some-clause-totals g c)

pub returns-in-None-clause-welfare : goal.returns-in-None-clause-welfare
returns-in-None-clause-welfare g c =
    unbalanced_welfare c.args.self.now c.args.net
    (subst (λ (z : ℤ). IsUnbalanced c.args.self.now z) (to_z-of_z w64 c.args.net c.ranges.net) c.in-None.ensures.none)
