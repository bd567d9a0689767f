-- The record of a day.
use Rattle.std.proofs.Common.{◌≡◌}
use Rattle.std.specs.Prelude.{decimal}
use Rattle.dam_results.specs.Records.{record_of_day}
use Rattle.dam_results.proofs.FieldBytes.{day_fields}
use Rattle.dam_results.proofs.WriterLines.{wrote_line}
use Rattle.dam_results.proofs.journal_writing.write_day_record.Goals as goal

pub returns-clause-line : goal.returns-clause-line
returns-clause-line c =
    let number : c.as_bytes-periods.result.now ≡ decimal c.args.periods = cc in
    wrote_line c.args.out.now c.write_record.new.out c.write_record.result (record_of_day c.args.periods) (day_fields c.args.periods c.get.ensures.day)
    (rw number at c.write_record.ensures)
