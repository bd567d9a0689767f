-- The period at the place has its steps.
use Rattle.dam_bound.proofs.Common.{◌≡◌, ◌-◌, ap, ◌∙◌, sym, arith, slice_get}
use Rattle.std.specs.Option.{option_copied}
use Rattle.dam_book.specs.Limits.{most_hourly}
use Rattle.dam_bound.proofs.DayLevels.{few_in_period, made_at}
use Rattle.dam_bound.proofs.relaxed.build_levels.Goals as goal

pub of-requires-clause-steps : goal.of-requires-clause-steps
of-requires-clause-steps g c =
    let at = sym c.steps.ensures.value ∙ ap option_copied c.unwrap-steps.ensures in
    few_in_period c.args.problem.now.hours (c.at-period.result - 1)
    most_hourly c.unwrap-steps.result.now c.steps.ensures.valid.few_hourly at

pub returns : goal.returns
returns g c =
    let back : c.args.place ≡ c.at-period.result - 1 = omega (arith, c.at-period.ensures) in
    let at = ap (slice_get c.args.problem.now.hours) back ∙ sym c.steps.ensures.value ∙ ap option_copied c.unwrap-steps.ensures in
    made_at c.args.problem.now.hours c.args.problem.now.blocks c.blocks-blocks.result.now c.args.place c.at-period.result
    c.unwrap-steps.result.now c.of.result
    at c.at-period.ensures c.blocks-blocks.ensures.value c.of.ensures.levels c.of.ensures.last
