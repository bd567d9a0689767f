-- One field after another is empty.
use Rattle.std.proofs.Common.{drop}
use Rattle.dam_results.specs.inside.NineFields.{fields_in}
use Rattle.dam_results.proofs.Rules.{first_filled, then_others}
use Rattle.dam_results.proofs.command_fields.check_no_order.Goals as goal

pub returns-in_err-check_empty : goal.returns-in_err-check_empty
returns-in_err-check_empty c = first_filled 4 _
    (drop 4 (fields_in c.args.fields.now)) _ _ c.from_residual.ensures.1 c.in_err-check_empty.ensures.0 c.in_err-check_empty.ensures.1

pub returns-in_err-check_empty-2 : goal.returns-in_err-check_empty-2
returns-in_err-check_empty-2 c = then_others 4 _ (drop 4 (fields_in c.args.fields.now)) _ c.in_ok-check_empty.ensures
    (first_filled 5 _ (drop 5 (fields_in c.args.fields.now)) _ _ c.from_residual-in_err-check_empty-2.ensures.1
    c.in_err-check_empty-2.ensures.0 c.in_err-check_empty-2.ensures.1)

pub returns-in_err-check_empty-3 : goal.returns-in_err-check_empty-3
returns-in_err-check_empty-3 c = then_others 4 _ (drop 4 (fields_in c.args.fields.now)) _ c.in_ok-check_empty.ensures
    (then_others 5 _ (drop 5 (fields_in c.args.fields.now)) _ c.in_ok-check_empty-2.ensures
    (first_filled 6 _ (drop 6 (fields_in c.args.fields.now)) _ _ c.from_residual-in_err-check_empty-3.ensures.1
    c.in_err-check_empty-3.ensures.0 c.in_err-check_empty-3.ensures.1))

pub returns-in_err-check_empty-4 : goal.returns-in_err-check_empty-4
returns-in_err-check_empty-4 c = then_others 4 _ (drop 4 (fields_in c.args.fields.now)) _ c.in_ok-check_empty.ensures
    (then_others 5 _ (drop 5 (fields_in c.args.fields.now)) _ c.in_ok-check_empty-2.ensures
    (then_others 6 _ (drop 6 (fields_in c.args.fields.now)) _ c.in_ok-check_empty-3.ensures
    (first_filled 7 _ (drop 7 (fields_in c.args.fields.now)) _ _ c.from_residual-in_err-check_empty-4.ensures.1
    c.in_err-check_empty-4.ensures.0 c.in_err-check_empty-4.ensures.1)))

pub returns : goal.returns
returns c =
    then_others 4 _ (drop 4 (fields_in c.args.fields.now)) _ c.in_ok-check_empty.ensures
    (then_others 5 _ (drop 5 (fields_in c.args.fields.now)) _ c.in_ok-check_empty-2.ensures
    (then_others 6 _ (drop 6 (fields_in c.args.fields.now)) _ c.in_ok-check_empty-3.ensures
    (then_others 7 _ (drop 7 (fields_in c.args.fields.now)) _ c.in_ok-check_empty-4.ensures c.check_no_family.ensures)))
