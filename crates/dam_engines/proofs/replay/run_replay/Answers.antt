-- The answer for the text that was read is the answer for the given one.
use Rattle.std.proofs.Common.{refl}
use Rattle.std.proofs.lemmas.Result.{err_from_is_err_and}
use Rattle.dam_results.specs.Journal.{IsMadeFrom}
use Rattle.dam_results.specs.Replies.{AreReplies}
use Rattle.dam_engines.specs.Engine.{IsTextFault}
use Rattle.dam_engines.proofs.Fronts.{text_fault-given}
use Rattle.dam_engines.specs.Device.{IsWriterAfter}
use Rattle.dam_engines.proofs.Runs.{asked-within, known-fault, known-unread, known-written}
use Rattle.dam_engines.proofs.Devices.{neither-failed, written-devices}
use Rattle.dam_engines.proofs.Cuts.{reading-told}
use Rattle.dam_engines.proofs.replay.run_replay.Goals as goal

pub returns-in_err-text-clause-ends : goal.returns-in_err-text-clause-ends
returns-in_err-text-clause-ends g c =
    let p = err_from_is_err_and c.from_residual.result c.from_residual.ensures.1 in
    rw (p.1, p.2) (known-unread (IsMadeFrom AreReplies) IsTextFault _ _ _ _ _ (λ given. tt) c.in_err-text.ensures.fault)

pub returns-in_err-replies-clause-ends : goal.returns-in_err-replies-clause-ends
returns-in_err-replies-clause-ends g c =
    let p = err_from_is_err_and c.from_residual-in_err-replies.result c.from_residual-in_err-replies.ensures.1 in
    let fault = rw c.as_slice.ensures.value at c.in_err-replies.ensures.fault in
    rw (p.1, p.2) (known-fault (IsMadeFrom AreReplies) IsTextFault _ _ _ _ _ _
    (λ given written is. is) text_fault-given c.in_ok-text.ensures.text fault)

pub returns-clause-ends : goal.returns-clause-ends
returns-clause-ends g c =
    let done = rw c.as_slice.ensures.value at c.in_ok-replies.ensures.done in
    known-written AreReplies IsTextFault _ _ _ _ _ _ _ _ c.in_ok-text.ensures.text c.as_slice-2.ensures.value c.write_text.ensures.done
    c.write_text.ensures.fault (asked-within _ _ _ c.write_text.ensures.asked) done

pub returns-in_err-text-clause-devices : goal.returns-in_err-text-clause-devices
returns-in_err-text-clause-devices g c =
    let p = err_from_is_err_and c.from_residual.result c.from_residual.ensures.1 in
    rw (p.1, p.2) (
      c.in_err-text.ensures.cause,
      reading-told (IsWriterAfter c.args.writer.now c.args.writer.now)
          (c.requires.writes, refl) (c.requires.writes, refl) _ c.in_err-text.ensures.fault,
    )

pub returns-in_err-replies-clause-devices : goal.returns-in_err-replies-clause-devices
returns-in_err-replies-clause-devices g c =
    let p = err_from_is_err_and c.from_residual-in_err-replies.result c.from_residual-in_err-replies.ensures.1 in
    rw (p.1, p.2) (neither-failed (IsTextFault _) c.args.reader.now c.read_input.new.reader c.args.writer.now (λ is. is)
    (λ written is. is) c.in_ok-text.ensures.cause c.requires.writes _ c.in_err-replies.ensures.fault)

pub returns-clause-devices : goal.returns-clause-devices
returns-clause-devices g c =
    written-devices c.args.reader.now c.read_input.new.reader c.args.writer.now c.write_text.new.writer _ _ _ _
    c.in_ok-text.ensures.cause c.write_text.ensures.fault c.write_text.ensures.flushed c.write_text.ensures.flushes
    c.write_text.ensures.cause
