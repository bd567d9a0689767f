-- The record of each kind of command.
use Rattle.std.proofs.Common.{◌≡◌, ◌∷◌, [], codes}
use Rattle.dam_book.specs.declared.command.Command.TheVariants.{Amend, Cancel, Close}
use Rattle.dam_results.specs.Records.{Fields, record_of_command}
use Rattle.dam_results.proofs.WriterLines.{writes_command}
use Rattle.dam_results.proofs.journal_writing.write_command_record.Goals as goal

pub returns-in_ok-volumes-in-Amend : goal.returns-in_ok-volumes-in-Amend
returns-in_ok-volumes-in-Amend c =
    let command = Amend c.in-Amend.who c.in-Amend.name c.in-Amend.price c.in-Amend.volumes in
    let row : Fields = codes "amend" ∷ c.as_bytes-who.result.now ∷ c.as_bytes-name.result.now ∷ [] ∷ [] ∷ c.as_slice-price.result.now ∷
    c.as_slice-volumes.result.now ∷ [] ∷ [] ∷ [] in
    let same : row ≡ record_of_command command = cc (c.in_ok-price-in-Amend.ensures.1, c.in_ok-volumes-in-Amend.ensures.1) in
    rw c.in-Amend.is (writes_command c.args.out.now c.write_record.new.out c.write_record.result row command
    (c.as_bytes-who.ensures.valid, c.as_bytes-name.ensures.valid, c.in_ok-price-in-Amend.ensures.0, c.in_ok-volumes-in-Amend.ensures.0)
    same c.write_record.ensures)

pub returns-in-Cancel : goal.returns-in-Cancel
returns-in-Cancel c =
    let command = Cancel c.in-Cancel.who c.in-Cancel.name in
    let row : Fields = codes "cancel" ∷ c.as_bytes-who-in-Cancel.result.now ∷ c.as_bytes-name-in-Cancel.result.now ∷ [] ∷ [] ∷ [] ∷ [] ∷ []
    ∷ [] ∷ [] in
    let same : row ≡ record_of_command command = cc in
    rw c.in-Cancel.is (writes_command c.args.out.now c.write_record-in-Cancel.new.out c.write_record-in-Cancel.result row command
    (c.as_bytes-who-in-Cancel.ensures.valid, c.as_bytes-name-in-Cancel.ensures.valid) same c.write_record-in-Cancel.ensures)

pub returns-in-Close : goal.returns-in-Close
returns-in-Close c =
    let row : Fields = codes "close" ∷ [] ∷ [] ∷ [] ∷ [] ∷ [] ∷ [] ∷ [] ∷ [] ∷ [] in
    let same : row ≡ record_of_command Close = cc in
    rw c.in-Close.is (writes_command c.args.out.now c.write_record-in-Close.new.out c.write_record-in-Close.result row Close tt same
    c.write_record-in-Close.ensures)
