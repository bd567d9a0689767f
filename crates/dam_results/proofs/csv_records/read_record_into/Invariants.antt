-- The fields read so far, of which the first are kept.
use Rattle.std.proofs.Common.{length}
use Rattle.dam_results.specs.inside.Reader.{fields_of}
use Rattle.dam_results.proofs.RecordsLeft.{ReadsFields}
use Rattle.dam_results.proofs.csv_records.read_record_into.Given as goal

abbrev pub invariant-loop-field : goal.invariant-loop-field
invariant-loop-field l = ReadsFields l.text l.rest (fields_of l.fields.items)

abbrev pub decreases-loop-field : goal.decreases-loop-field
decreases-loop-field l = length l.rest
