-- One field after another is empty.
use Rattle.std.proofs.Common.{drop}
use Rattle.dam_results.specs.inside.NineFields.{fields_in}
use Rattle.dam_results.proofs.Rules.{first_filled, then_others, last_field}
use Rattle.dam_results.proofs.command_fields.check_no_family.Goals as goal

pub returns-in_err-check_empty : goal.returns-in_err-check_empty
returns-in_err-check_empty c = first_filled 8 _
    (drop 8 (fields_in c.args.fields.now)) _ _ c.from_residual.ensures.1 c.in_err-check_empty.ensures.0 c.in_err-check_empty.ensures.1

pub returns : goal.returns
returns c = then_others 8 _ (drop 8 (fields_in c.args.fields.now)) _ c.in_ok-check_empty.ensures (last_field 9 _ _ c.check_empty-2.ensures)
