-- The first record is a day's, or has a fault.
use Rattle.dam_results.specs.inside.Reader.{fields_of, records_left}
use Rattle.dam_results.proofs.FaultFound.{first_record}
use Rattle.dam_results.proofs.journal_reading.read_day_record.Goals as goal

pub returns-then-branch : goal.returns-then-branch
returns-then-branch c =
    let taken = rw c.if-branch.true at c.in_ok-read_next.ensures in
    first_record (records_left c.args.records.now) (records_left c.read_next.new.self) (fields_of c.read_next.new.self.fields.items) c.read_day_fields.result
    taken (rw c.fields.ensures at c.read_day_fields.ensures)
