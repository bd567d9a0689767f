-- The hour at the depth has the period's steps, and after them the undecided blocks.
use Rattle.dam_bound.proofs.Common.{arith, rules, ints}
use Rattle.dam_bound.proofs.Bounding.{cleared_period}
use Rattle.dam_bound.proofs.relaxed.period_bound.Goals as goal

pub hour-hour-requires : goal.hour-hour-requires
hour-hour-requires g c = (_, c.requires.levels _ (search rules))

pub returns-clause-value : goal.returns-clause-value
returns-clause-value g c =
    let steps = c.hour-hour.ensures.value _ (c.requires.levels _ (search rules)) in
    let few = c.hour-hour.ensures.steps.few in
    let small = c.in_ok-cleared.ensures.small in
    let net = c.net_volume.ensures.value in
    cleared_period c.args.blocks.now c.args.accepted c.args.period c.hour-hour.result.now _ _ c.in_ok-cleared.cleared.welfare
    c.accepted_value.result _
    steps (omega (arith, ints, net, c.net_volume.ensures.valid.at_least, c.net_volume.ensures.valid.at_most))
    c.in_ok-cleared.ensures.welfare c.accepted_value.ensures.value
    (omega (
      arith,
      ints,
      few,
      small.welfare_at_least,
      small.welfare_at_most,
      c.accepted_value.ensures.size.at_least,
      c.accepted_value.ensures.size.at_most,
    ))
