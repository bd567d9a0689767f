-- The volume of all rungs.
use Rattle.std.proofs.Common.{◌∙◌, arith}
use Rattle.dam_hour.proofs.Ladders.{offered_total}
use Rattle.dam_hour.proofs.Positions.{offered_small}
use Rattle.dam_hour.proofs.hour.Hour.offered_volume.Goals as goal

pub returns-clause-value : goal.returns-clause-value
returns-clause-value g c = c.total_sums.ensures ∙ c.ladder.ensures.side.sums (λ sort_key s. s.qty) ∙ offered_total c.args.side 0 c.args.self.now

pub returns-clause-small : goal.returns-clause-small
returns-clause-small g c =
    let hour = c.ladder.ensures.steps in
    let value = returns-clause-value g c in
    let few = hour.few in
    let small = offered_small c.args.side c.args.self.now hour.in_range in
    omega (arith, value, few, small)
