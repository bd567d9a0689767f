-- Each field that was checked is empty.
use Rattle.std.proofs.Common.{suc, arith, sym, codes}
use Rattle.dam_results.specs.Rules.{cancel_rules}
use Rattle.dam_results.proofs.Rules.{nine_alike, stops, is_word}
use Rattle.dam_results.proofs.command_fields.read_cancel_into.Goals as goal

pub returns : goal.returns
returns c =
    let who = rw c.in_ok-who.ensures.ok_part at c.new.ensures in
    let name = rw c.in_ok-name.ensures.ok_part at c.new-2.ensures in
    let rest = c.in_ok-check_no_order.ensures in (
      (rw who.1 who.0, rw name.1 name.0),
      nine_alike _ _ _ _ _ _ _ _ _ _ _ _ _ _ _ _ _ _ c.requires (sym who.1)
          (sym name.1) rest.0 rest.1.0 rest.1.1.0 rest.1.1.1.0 rest.1.1.1.1.0 rest.1.1.1.1.1.0,
    )

pub returns-in_err-check_no_order : goal.returns-in_err-check_no_order
returns-in_err-check_no_order c =
    let who = rw c.in_ok-who.ensures.ok_part at c.new.ensures in
    let name = rw c.in_ok-name.ensures.ok_part at c.new-2.ensures in
    let broken = c.in_err-check_no_order.ensures in
    stops cancel_rules c.args.fields.now _ _ (suc (suc (suc (suc broken.0)))) _ c.from_residual-in_err-check_no_order.ensures.1
    (omega (arith, broken.1)) (is_word (codes "cancel") _ c.requires, (who.0, (name.0, broken.2)))
