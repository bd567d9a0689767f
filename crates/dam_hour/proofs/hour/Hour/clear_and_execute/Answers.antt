-- The clearing and the execution go with the same volumes.
use Rattle.dam_hour.proofs.Common.{ℤ, subst, to_z-of_z, w64, AreTotals}
use Rattle.dam_hour.specs.Clearing.{IsClearedAt}
use Rattle.dam_hour.proofs.hour.Hour.clear_and_execute.Goals as goal

pub returns : goal.returns
returns g c =
    let steps = c.args.self.now in let traded = c.in-Some.traded in
    let same = to_z-of_z w64 c.args.net c.ranges.net in (
      subst (λ (z : ℤ). IsClearedAt steps z c.cleared_from.result) same c.cleared_from.ensures,
      c.in_ok-volumes.ensures c.args.net
          (subst (λ (z : ℤ). AreTotals steps z traded.low traded.bought traded.sold) same c.in-Some.ensures.totals),
    )
