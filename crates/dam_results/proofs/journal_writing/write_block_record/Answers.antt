-- The record of a block.
use Rattle.std.proofs.Common.{◌≡◌, ◌∷◌, [], codes}
use Rattle.dam_book.specs.declared.order.Order.TheVariants.{Block}
use Rattle.dam_book.specs.declared.command.Command.TheVariants.{Submit}
use Rattle.dam_results.specs.Records.{Fields, record_of_command}
use Rattle.dam_results.proofs.WriterLines.{writes_command}
use Rattle.dam_results.proofs.journal_writing.write_block_record.Goals as goal

pub returns : goal.returns
returns c =
    let command = Submit c.args.who.now c.args.name.now (Block c.args.order.now) in
    let row : Fields = codes "submit" ∷ c.as_bytes.result.now ∷ c.as_bytes-2.result.now ∷ codes "block" ∷ c.side_field.result.now ∷
    c.as_slice.result.now ∷ c.as_slice-2.result.now ∷ c.name_field.result.now ∷ c.name_field-2.result.now ∷ [] in
    let same : row ≡ record_of_command command = cc (c.in_ok-price.ensures.1, c.in_ok-volumes.ensures.1) in
    writes_command c.args.out.now c.write_record.new.out c.write_record.result row command
    (c.as_bytes.ensures.valid, c.as_bytes-2.ensures.valid, c.price.ensures.valid) same c.write_record.ensures
