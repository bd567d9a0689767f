-- The list of the order's period is longer by its step.
use Rattle.dam_blocks.proofs.Common.{Vec, ◌<◌, ◌-◌, length, ◌∙◌, arith, Step}
use Rattle.dam_blocks.proofs.RowByRow.{same_step, list_grown}
use Rattle.dam_blocks.proofs.problem_making.add_step.Goals as goal

pub returns-clause-added : goal.returns-clause-added
returns-clause-added g c =
    let value = c.get.ensures.value in let same = c.from.ensures in
    let least = c.get.ensures.range.at_least in let most = c.get.ensures.range.at_most in let all = c.requires in
    let there : c.from.result - 1 < length c.args.hourly.now.items = omega (arith, least, most, value, same, all) in
    list_grown (λ (steps : Vec Step g.row.A.Denot). steps.items) c.args.hourly.now.items c.index_mut-steps.result.now c.push.new.self
    c.from.result c.args.order.now (same ∙ value ∙ c.period.ensures.value) there c.index_mut-steps.ensures.value
    (same_step c.args.order.now c.side.result c.price.result c.qty.result c.index_mut-steps.result.now.items c.push.new.self.items
    c.side.ensures c.price.ensures c.qty.ensures c.in_ok-push.ensures.items)
