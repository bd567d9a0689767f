-- A period more, all of them, and one that doesn't balance.
use Rattle.dam_blocks.proofs.Common.{List, length, ap, ◌∙◌, sym, subst, take, arith, rules, ints, slice_get_read, Step, Block, net_volume, accepted_value}
use Rattle.dam_blocks.proofs.Common.{ArePrices, welfare_from}
use Rattle.dam_blocks.proofs.PeriodByPeriod.{period_read, periods_read, cleared_more, all_prices, all_welfare, first_unbalanced}
use Rattle.dam_blocks.proofs.scoring.priced_day.Goals as goal

pub returns-in_default : goal.returns-in_default
returns-in_default g c =
    let at = slice_get_read _ _ _ _ (search rules) c.loop-place-test.true c.index-hours-place.is in
    let net = c.net_volume.ensures.value
    ∙ ap (λ (bs : List Block). net_volume bs c.args.selection c.at-period.result) c.blocks-blocks.ensures.value in
    first_unbalanced c.args.problem.now c.args.selection _ _ _ _ _ _ _ c.hours-hours.ensures.value at c.at-period.ensures
    (omega (arith, ints, net, c.net_volume.ensures.valid.at_least, c.net_volume.ensures.valid.at_most)) c.in_default.ensures.none
    c.loop-place.invariant

pub overflow_add-welfare : goal.overflow_add-welfare
overflow_add-welfare g c =
    let at = slice_get_read _ _ c.loop-place.place _ (search rules) c.loop-place-test.true c.index-hours-place.is in
    let hours = c.hours-hours.ensures in
    let w = period_read _ _ _ _ _ _ _ _ hours.value hours.valid.hours hours.valid.few_hourly at c.in-Some.ensures.totals in
    omega (arith, ints, w.0, w.1, c.accepted_value.ensures.size.at_least, c.accepted_value.ensures.size.at_most)

pub overflow_add-welfare-in-loop-place : goal.overflow_add-welfare-in-loop-place
overflow_add-welfare-in-loop-place g c =
    let at = slice_get_read _ _ c.loop-place.place _ (search rules) c.loop-place-test.true c.index-hours-place.is in
    let hours = c.hours-hours.ensures in
    let w = period_read _ _ _ _ _ _ _ _ hours.value hours.valid.hours hours.valid.few_hourly at c.in-Some.ensures.totals in
    let few = periods_read _ _ hours.value (c.days_are_short.ensures.short _ hours.valid.day) in
    omega (arith, ints, w.0, w.1, c.accepted_value.ensures.size.at_least, c.accepted_value.ensures.size.at_most, few)

pub loop-place-preserved : goal.loop-place-preserved
loop-place-preserved g c =
    let at = slice_get_read _ _ c.loop-place.place _ (search rules) c.loop-place-test.true c.index-hours-place.is in
    let hours = c.hours-hours.ensures in
    let w = period_read _ _ _ _ _ _ _ _ hours.value hours.valid.hours hours.valid.few_hourly at c.in-Some.ensures.totals in
    let few = periods_read _ _ hours.value (c.days_are_short.ensures.short _ hours.valid.day) in
    let net = c.net_volume.ensures.value
    ∙ ap (λ (bs : List Block). net_volume bs c.args.selection c.at-period.result) c.blocks-blocks.ensures.value in
    let value = c.accepted_value.ensures.value
    ∙ ap (λ (bs : List Block). accepted_value bs c.args.selection c.at-period.result) c.blocks-blocks.ensures.value in
    cleared_more _ _ _ _ _ _ _ _ _ c.in-Some.cleared.low c.in-Some.cleared.high c.in-Some.cleared.price c.in-Some.cleared.welfare
    c.accepted_value.result _
    at (omega (arith, few)) c.at-period.ensures
    (omega (arith, ints, net, c.net_volume.ensures.valid.at_least, c.net_volume.ensures.valid.at_most))
    c.in-Some.ensures.ends (record {
      low = c.in-Some.cleared.low;
      high = c.in-Some.cleared.high;
      ends = c.in-Some.ensures.ends;
      between =
          c.in-Some.ensures.price;
    })
    c.in-Some.ensures.welfare value w.0 w.1 c.accepted_value.ensures.size.at_least c.accepted_value.ensures.size.at_most
    (omega (arith, ints, w.0, w.1, c.accepted_value.ensures.size.at_least, c.accepted_value.ensures.size.at_most, few))
    c.loop-place.invariant

pub returns : goal.returns
returns g c =
    let hours = c.hours-hours.ensures in
    let few = periods_read _ _ hours.value (c.days_are_short.ensures.short _ hours.valid.day) in
    let problem = c.args.problem.now in let selection = c.args.selection in (
      subst (λ (hs : List (List Step)). ArePrices problem.blocks selection 1 hs (take (length hs) c.loop-place.prices)) hours.value
          (all_prices _ _ _ _ _ _ c.loop-place-test.false (omega (arith, few)) c.loop-place.invariant),
      ap (λ (hs : List (List Step)). welfare_from problem.blocks selection 1 hs) (sym hours.value)
          ∙ all_welfare _ _ _ _ _ _ c.loop-place-test.false c.loop-place.invariant,
    )
