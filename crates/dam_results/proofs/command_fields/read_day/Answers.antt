-- Each field that was checked is empty.
use Rattle.std.proofs.Common.{suc, arith, codes}
use Rattle.dam_results.proofs.Rules.{nine_alike, day_stops, is_word}
use Rattle.dam_results.proofs.command_fields.read_day.Goals as goal

pub returns : goal.returns
returns c =
    let periods = rw c.in_ok-periods.ensures.ok_part at c.read_day_length.ensures in
    let rest = c.in_ok-check_no_order.ensures in (
      periods.0,
      nine_alike _ _ _ _ _ _ _ _ _ _ _ _ _ _ _ _ _ _ c.requires periods.1 c.in_ok-check_empty.ensures rest.0 rest.1.0 rest.1.1.0
          rest.1.1.1.0 rest.1.1.1.1.0 rest.1.1.1.1.1.0,
    )

pub returns-in_err-check_empty : goal.returns-in_err-check_empty
returns-in_err-check_empty c =
    let periods = rw c.in_ok-periods.ensures.ok_part at c.read_day_length.ensures in
    day_stops c.args.fields.now _ 3 _ c.from_residual-in_err-check_empty.ensures.1 c.in_err-check_empty.ensures.0
    (is_word (codes "day") _ c.requires, ((_, periods.0, periods.1), c.in_err-check_empty.ensures.1))

pub returns-in_err-check_no_order : goal.returns-in_err-check_no_order
returns-in_err-check_no_order c =
    let periods = rw c.in_ok-periods.ensures.ok_part at c.read_day_length.ensures in
    let broken = c.in_err-check_no_order.ensures in
    day_stops c.args.fields.now _ (suc (suc (suc (suc broken.0)))) _ c.from_residual-in_err-check_no_order.ensures.1 (omega (arith, broken.1))
    (is_word (codes "day") _ c.requires, ((_, periods.0, periods.1), (c.in_ok-check_empty.ensures, broken.2)))
