-- The limit of the rung that holds the unit, or the end of the range if all sells are less.
use Rattle.dam_hour.proofs.Common.{◌∙◌, arith, ints, Sell}
use Rattle.dam_hour.proofs.Ladders.{offered_total}
use Rattle.dam_hour.proofs.Rungs.{limit_past_all, limit_of_rung}
use Rattle.dam_hour.proofs.edge.limit_of_sell.Goals as goal

pub returns-then-unit-total_sums : goal.returns-then-unit-total_sums
returns-then-unit-total_sums g c =
    let more = c.if-unit-total_sums.true in
    limit_past_all c.args.hour.now c.args.unit c.highest.result c.total_sums.result.volume c.highest.ensures
    (c.total_sums.ensures ∙ c.ladder-sells.ensures.side.sums (λ sort_key s. s.qty) ∙ offered_total Sell 0 c.args.hour.now) (omega (arith, ints))

pub returns : goal.returns
returns g c =
    let under = c.place_holding.ensures.under in let up_to = c.place_holding.ensures.up_to in
    limit_of_rung c.ladder-sells.result.now c.args.hour.now c.args.unit _ c.place_holding.result c.ladder-sells.ensures.side
    c.ladder-sells.ensures.steps c.limit_and_volume_before-limit.ensures.limit
    (omega (arith, ints, under)) (omega (arith, ints, up_to))
