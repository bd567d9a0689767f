-- The first record with a fault gives the fault of the records.
use Rattle.std.proofs.Common.{◌+◌, arith}
use Rattle.std.proofs.lemmas.Result.{err_from_is_err_and}
use Rattle.dam_results.specs.inside.Reader.{fields_of, records_left}
use Rattle.dam_results.proofs.FaultFound.{ReadsInto-fault, faulty_row}
use Rattle.dam_results.proofs.journal_reading.take_records.Goals as goal

pub returns-in_err-take_record : goal.returns-in_err-take_record
returns-in_err-take_record g c = λ periods day begun.
    let taken = rw c.if-branch.true at c.in_ok-read_next.ensures in
    let fault = rw c.fields.ensures at c.in_err-take_record.ensures in
    let p = err_from_is_err_and c.from_residual-in_err-take_record.result c.from_residual-in_err-take_record.ensures.1 in
    rw (p.1, p.2) (ReadsInto-fault _ periods (records_left c.args.records.now) (records_left c.loop-number.records) (records_left c.read_next.new.self)
    taken.fields c.loop-number.number (c.loop-number.number + 1 + 1) c.loop-number.made c.in_err-take_record.field-0.0 day
    (c.loop-number.invariant.reads periods day begun) taken.records (omega arith)
    (faulty_row (c.loop-number.number + 1 + 1) taken.fields (fields_of c.read_next.new.self.fields.items) _ taken.first fault))
