-- What was served from the file that was opened.
use Rattle.std.proofs.Common.{[], inr, inl, refl, sym, ap, ◌∙◌}
use Rattle.std.proofs.lemmas.Bool.{both_ways}
use Rattle.std.proofs.lemmas.Result.{IfErr-weaker, on_ok_weaker}
use Rattle.dam_desk.specs.Desk.{at_first}
use Rattle.dam_desk.specs.DeskRun.{StartOpensTo}
use Rattle.dam_desk.specs.Faults.{is_read}
use Rattle.dam_desk.proofs.Devices.{devices_unasked}
use Rattle.dam_desk.proofs.Ends.{end_counts}
use Rattle.dam_desk.proofs.Served.{answered_still, err_both, errors_of, is_served, served_still}
use Rattle.dam_desk.proofs.run_desk.run_desk.Goals as goal

pub returns-in-Ok : goal.returns-in-Ok
returns-in-Ok g c =
    let is = c.in-Ok.ensures.desk in
    let disk = c.into_disk.result in
    let done = c.serve-result.result in
    let store = c.serve-result.ensures.store in
    let lines = c.serve-result.ensures.lines (at_first is.journal) [] is.fresh in
    let replies = c.as_slice.result.now in
    let first = c.as_slice.ensures.value ∙ is.same_replies in
    let begins : StartOpensTo g.D.Disk (g.D.Disk.seen c.args.disk) disk is.journal = λ honest. is.opens (sym store.clean ∙ sym (ap g.D.Disk.is_clean c.into_disk.ensures) ∙ honest) in
    let failed = sym (ap g.D.Disk.faults c.into_disk.ensures) in
    record {
      served = on_ok_weaker done (λ end. record {
        journal = is.journal;
        begins = begins;
        given = end.0;
        whole = end.1;
        served = is_served c.serve-result.new.desk disk c.into_disk.ensures is.journal replies first end.0
            c.args.writer.now.taken c.serve-result.new.writer.taken c.journals_grow.ensures.reads
            c.replies_are_answers.ensures c.journals_are_unambiguous.ensures is.fresh.reads end.2;
      }) lines.done;
      no_fault = on_ok_weaker done (λ same. sym failed ∙ same ∙ c.in-Ok.ensures.no_fault) store.no_fault;
      answered = IfErr-weaker done _ _ (λ why all read.
          let part = all read in
          record {
            journal = is.journal;
            begins = begins;
            given = part.0;
            taken = part.1;
            answered = answered_still c.serve-result.new.desk disk c.into_disk.ensures is.journal replies first part.0
                c.args.writer.now.taken c.serve-result.new.writer.taken part.2;
          }) lines.answered;
      faulty = err_both done _ _ _ (λ why cause part. inr (
        end_counts why (sym (ap g.D.Disk.is_clean c.into_disk.ensures)) c.in-Ok.ensures.no_fault failed cause,
        record {
          journal = is.journal;
          begins = begins;
          given = part.0;
          taken = part.1;
          served = served_still c.serve-result.new.desk disk c.into_disk.ensures is.journal replies first part.0
              c.args.writer.now.taken c.serve-result.new.writer.taken why part.2;
        },
      )) lines.cause lines.faulty;
      usable = IfErr-weaker done _ _ (λ why same. ap g.D.Disk.is_usable c.into_disk.ensures ∙ same) (errors_of done _ _ store.usable);
      devices = c.serve-result.ensures.devices;
    }

pub returns-in-Err : goal.returns-in-Err
returns-in-Err g c =
    let refused = c.in-Err.ensures.refused in
    record {
      served = tt;
      no_fault = tt;
      answered = λ read. absurd (both_ways (is_read c.in-Err.refused.why) refused.no_stream.0 read);
      faulty = inl (refused, refl);
      usable = c.in-Err.ensures.usable;
      devices = devices_unasked c.args.reader.now c.args.writer.now c.in-Err.refused.why refused.no_stream.0 c.requires.reader
          (c.requires.writer ∙ sym refused.no_stream.1);
    }
