-- Each field that was checked is empty.
use Rattle.std.proofs.Common.{suc, arith, codes}
use Rattle.dam_results.specs.Rules.{close_rules}
use Rattle.dam_results.proofs.Rules.{nine_alike, stops, is_word}
use Rattle.dam_results.proofs.command_fields.read_close_into.Goals as goal

pub returns : goal.returns
returns c =
    let rest = c.in_ok-check_no_order.ensures in (
      tt,
      nine_alike _ _ _ _ _ _ _ _ _ _ _ _ _ _ _ _ _ _ c.requires c.in_ok-check_empty.ensures c.in_ok-check_empty-2.ensures rest.0 rest.1.0
          rest.1.1.0 rest.1.1.1.0 rest.1.1.1.1.0 rest.1.1.1.1.1.0,
    )

pub returns-in_err-check_empty : goal.returns-in_err-check_empty
returns-in_err-check_empty c =
    stops close_rules c.args.fields.now _ _ 2 _ c.from_residual.ensures.1 c.in_err-check_empty.ensures.0
    (is_word (codes "close") _ c.requires, c.in_err-check_empty.ensures.1)

pub returns-in_err-check_empty-2 : goal.returns-in_err-check_empty-2
returns-in_err-check_empty-2 c =
    stops close_rules c.args.fields.now _ _ 3 _ c.from_residual-in_err-check_empty-2.ensures.1 c.in_err-check_empty-2.ensures.0
    (is_word (codes "close") _ c.requires, (c.in_ok-check_empty.ensures, c.in_err-check_empty-2.ensures.1))

pub returns-in_err-check_no_order : goal.returns-in_err-check_no_order
returns-in_err-check_no_order c =
    let broken = c.in_err-check_no_order.ensures in
    stops close_rules c.args.fields.now _ _ (suc (suc (suc (suc broken.0)))) _ c.from_residual-in_err-check_no_order.ensures.1
    (omega (arith, broken.1)) (
      is_word (codes "close") _ c.requires,
      (c.in_ok-check_empty.ensures, (c.in_ok-check_empty-2.ensures, broken.2)),
    )
