-- The record that is read is the first of the records that are left.
use Rattle.dam_results.specs.inside.Reader.{fields_of}
use Rattle.dam_results.proofs.RecordsLeft.{takes_first}
use Rattle.dam_results.proofs.csv_records.Records.read_next.Goals as goal

pub returns : goal.returns
returns c =
    takes_first c.args.self.now.rest.now c.in-Some.«record».now c.in_ok-self.field-0.now (fields_of c.read_record_into.new.fields.items)
    c.in-Some.ensures c.in_ok-self.ensures
