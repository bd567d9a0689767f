-- The period's results are those of its hour.
use Rattle.std.proofs.Common.{List, ap, ◌∙◌, arith, rules}
use Rattle.std.proofs.lemmas.Int.{ints}
use Rattle.dam_blocks.specs.declared.problem.Block.{Block}
use Rattle.dam_blocks.specs.Selection.{net_volume, bought_volume}
use Rattle.dam_results.proofs.ClearingSteps.{period_cleared}
use Rattle.dam_results.proofs.clearing.clear_period.Goals as goal

pub returns : goal.returns
returns g c =
    let net = c.net_volume-net.ensures.value ∙ ap
    (λ (bs : List Block). net_volume bs c.args.selection c.args.period) c.blocks-blocks.ensures.value in
    let bought = c.bought_volume.ensures.value ∙ ap
    (λ (bs : List Block). bought_volume bs c.args.selection c.args.period) c.blocks-blocks.ensures.value in
    let least = c.net_volume-net.ensures.valid.at_least in
    let most = c.net_volume-net.ensures.valid.at_most in
    let found = rw c.in-Some.is at c.in_ok-cleared.ensures in
    let at = found.0 in
    period_cleared c.args.problem.now c.args.selection c.args.period c.in-Some.cleared.bought c.in-Some.cleared.sold c.bought_volume.result
    c.unwrap-hour.result.now _
    c.in-Some.cleared.low c.in-Some.cleared.high c.in-Some.cleared.price c.in-Some.cleared.welfare c.in-Some.executed.items
    (search rules) (omega (arith, ints, net, least, most)) at.ends at.price_is at.totals found.1
    bought
