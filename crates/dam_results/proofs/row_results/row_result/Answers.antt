-- The order stands at its place, which has a volume or a block.
use Rattle.std.proofs.Common.{length, ap, arith}
use Rattle.dam_results.proofs.ClearingSteps.{executed_at, block_at, few_prices}
use Rattle.dam_results.proofs.row_results.row_result.Goals as goal

pub unreachable-requires : goal.unreachable-requires
unreachable-requires g c =
    let found = executed_at c.args.problem.now c.args.selection c.in-Hour.period c.in-Hour.place _ c.args.row.now _ c.in-Hour.is
    c.requires.place c.requires.cleared.are_best c.executed.ensures in
    rw c.in_default.is at found

pub returns-in-Some : goal.returns-in-Some
returns-in-Some g c =
    let found = executed_at c.args.problem.now c.args.selection c.in-Hour.period c.in-Hour.place _ c.args.row.now _ c.in-Hour.is
    c.requires.place c.requires.cleared.are_best c.executed.ensures in
    (c.copy-who.ensures, c.copy-name.ensures, (c.in-Hour.period, c.in-Hour.place, c.in-Hour.is, rw c.in-Some.is at found))

pub block_surplus-requires-clause-place : goal.block_surplus-requires-clause-place
block_surplus-requires-clause-place g c = block_at c.args.problem.now c.in-Block.place c.args.row.now c.in-Block.is c.requires.place

pub block_surplus-requires-clause-prices : goal.block_surplus-requires-clause-prices
block_surplus-requires-clause-prices g c =
    let few = few_prices c.args.problem.now.blocks c.args.selection c.args.problem.now.hours c.args.clearing.now.periods.items
    c.args.clearing.now.prices.items _ c.periods-limits.ensures.valid.day c.requires.cleared in
    let same = ap length c.deref.ensures.value in
    omega (arith, few, same)
