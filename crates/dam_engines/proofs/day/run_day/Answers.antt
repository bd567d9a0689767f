-- The answer for the text that was read is the answer for the given one.
use Rattle.std.proofs.Common.{refl}
use Rattle.std.proofs.lemmas.Result.{err_from_is_err_and}
use Rattle.dam_results.specs.Journal.{IsMadeFrom}
use Rattle.dam_engines.specs.Engine.{IsRunFault}
use Rattle.dam_engines.specs.Day.{IsCommandsFault, IsDayText}
use Rattle.dam_engines.proofs.Fronts.{run_fault-given}
use Rattle.dam_engines.specs.Device.{IsWriterAfter}
use Rattle.dam_engines.proofs.Runs.{asked-within, known-fault, known-unread, known-written}
use Rattle.dam_engines.proofs.Devices.{neither-failed, written-devices}
use Rattle.dam_engines.proofs.Cuts.{reading-told}
use Rattle.dam_engines.proofs.day.run_day.Goals as goal

pub returns-in_err-text-clause-ends : goal.returns-in_err-text-clause-ends
returns-in_err-text-clause-ends g c =
    let p = err_from_is_err_and c.from_residual.result c.from_residual.ensures.1 in
    rw (p.1, p.2) (known-unread (IsMadeFrom (IsDayText c.args.plan.now.search)) (IsRunFault (IsCommandsFault c.args.plan.now.search)) _ _ _ _ _
    (λ given. tt) c.in_err-text.ensures.fault)

pub returns-in_err-day-clause-ends : goal.returns-in_err-day-clause-ends
returns-in_err-day-clause-ends g c =
    let p = err_from_is_err_and c.from_residual-in_err-day.result c.from_residual-in_err-day.ensures.1 in
    let fault = c.in_err-day.ensures.fault in
    rw (p.1, p.2) (known-fault (IsMadeFrom (IsDayText c.args.plan.now.search)) (IsRunFault (IsCommandsFault c.args.plan.now.search)) _ _ _ _ _ _ (λ given written is. is.3)
    (run_fault-given (IsCommandsFault c.args.plan.now.search)) c.in_ok-text.ensures.text fault)

pub returns-clause-ends : goal.returns-clause-ends
returns-clause-ends g c =
    let done = c.in_ok-day.ensures.done in
    known-written (IsDayText c.args.plan.now.search) (IsRunFault (IsCommandsFault c.args.plan.now.search)) _ _ _ _ _ _ _ _ c.in_ok-text.ensures.text c.as_slice.ensures.value
    c.write_text.ensures.done c.write_text.ensures.fault (asked-within _ _ _ c.write_text.ensures.asked) done

pub returns-in_err-text-clause-devices : goal.returns-in_err-text-clause-devices
returns-in_err-text-clause-devices g c =
    let p = err_from_is_err_and c.from_residual.result c.from_residual.ensures.1 in
    rw (p.1, p.2) (
      c.in_err-text.ensures.cause,
      reading-told (IsWriterAfter c.args.writer.now c.args.writer.now)
          (c.requires.writes, refl) (c.requires.writes, refl) _ c.in_err-text.ensures.fault,
    )

pub returns-in_err-day-clause-devices : goal.returns-in_err-day-clause-devices
returns-in_err-day-clause-devices g c =
    let p = err_from_is_err_and c.from_residual-in_err-day.result c.from_residual-in_err-day.ensures.1 in
    rw (p.1, p.2) (neither-failed (IsRunFault (IsCommandsFault c.args.plan.now.search) _) c.args.reader.now c.read_input.new.reader c.args.writer.now
    (λ is. is.3) (λ written is. is.3) c.in_ok-text.ensures.cause c.requires.writes _ c.in_err-day.ensures.fault)

pub returns-clause-devices : goal.returns-clause-devices
returns-clause-devices g c =
    written-devices c.args.reader.now c.read_input.new.reader c.args.writer.now c.write_text.new.writer _ _ _ _
    c.in_ok-text.ensures.cause c.write_text.ensures.fault c.write_text.ensures.flushed c.write_text.ensures.flushes
    c.write_text.ensures.cause
