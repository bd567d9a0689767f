-- The rules of a submit are those of its form.
use Rattle.std.proofs.Common.{◌≡◌, ℕ, codes, arith}
use Rattle.std.proofs.lemmas.Grind.{common_steps}
use Rattle.dam_results.specs.inside.NineFields.{fields_in}
use Rattle.dam_results.proofs.Rules.{hour_broken, block_broken, other_fault}
use Rattle.dam_results.proofs.command_fields.read_submit_into.Goals as goal

pub returns-in-hour : goal.returns-in-hour
returns-in-hour c =
    let form : c.args.fields.now.form.now ≡ codes "hour" = grind (arith, common_steps) in
    other_fault c.read_hourly_order_into.result _ _ _ (λ (n : ℕ). hour_broken (fields_in c.args.fields.now) n form) c.read_hourly_order_into.ensures

pub returns-in-block : goal.returns-in-block
returns-in-block c =
    let form : c.args.fields.now.form.now ≡ codes "block" = grind (arith, common_steps) in
    other_fault c.read_block_into.result _ _ _ (λ (n : ℕ). block_broken (fields_in c.args.fields.now) n form) c.read_block_into.ensures
