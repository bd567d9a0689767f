-- A period more, and all of them.
use Rattle.std.proofs.Common.{◌≡◌, length, arith}
use Rattle.dam_bound.proofs.DayLevels.{one_period, all_periods, all_hours, all_blocks}
use Rattle.dam_bound.proofs.relaxed.build_all_levels.Goals as goal

pub loop-place-preserved : goal.loop-place-preserved
loop-place-preserved g c =
    rw c.in_ok-push.ensures.items
    (one_period c.args.problem.now.blocks c.args.problem.now.hours c.loop-place.place c.loop-place.periods.items c.in_ok-build_levels.field-0
    c.in_ok-build_levels.ensures c.loop-place.invariant)

pub returns-clause-levels : goal.returns-clause-levels
returns-clause-levels g c =
    let all : c.loop-place.place ≡ length c.args.problem.now.hours =
    omega (
      arith,
      c.periods.ensures.value,
      c.get.ensures.value,
      c.from-count.ensures,
      c.loop-place-test.false,
      c.loop-place.auto.place-end,
    ) in
    all_periods c.args.problem.now c.loop-place.place c.loop-place.periods.items c.periods.ensures.valid all c.loop-place.invariant

pub returns-clause-hours : goal.returns-clause-hours
returns-clause-hours g c =
    let all : c.loop-place.place ≡ length c.args.problem.now.hours =
    omega (
      arith,
      c.periods.ensures.value,
      c.get.ensures.value,
      c.from-count.ensures,
      c.loop-place-test.false,
      c.loop-place.auto.place-end,
    ) in
    all_hours c.args.problem.now c.loop-place.place c.loop-place.periods.items all c.loop-place.invariant

pub returns-clause-blocks : goal.returns-clause-blocks
returns-clause-blocks g c =
    let all : c.loop-place.place ≡ length c.args.problem.now.hours =
    omega (
      arith,
      c.periods.ensures.value,
      c.get.ensures.value,
      c.from-count.ensures,
      c.loop-place-test.false,
      c.loop-place.auto.place-end,
    ) in
    all_blocks c.args.problem.now c.loop-place.place c.loop-place.periods.items c.periods.ensures.valid all c.loop-place.invariant
