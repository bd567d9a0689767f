-- What the desk held at first is kept by each batch.
use Rattle.std.proofs.Common.{rules, ◌<◌, ◌++◌, [], List, ℕ, Err, inl, inr, length, take, refl, sym, ◌∙◌, subst, arith, append_assoc}
use Rattle.std.proofs.KnownBytes.{Appends-nil, Consumes-kept, Consumes-nil, Consumes-trans}
use Rattle.std.proofs.lemmas.List.{length-take}
use Rattle.std.specs.Io.KnownBytes.{Appends}
use Rattle.dam_store.specs.Store.{disk_of}
use Rattle.dam_desk.specs.Desk.{IsEndFaultOf, MayLeave, Served, ServesInput, end_answer}
use Rattle.dam_desk.specs.Faults.{IsEndFault, fault_after}
use Rattle.dam_desk.specs.DeskJournal.{next}
use Rattle.dam_desk.specs.declared.fault.DeskFault.{DeskFault}
use Rattle.dam_desk.specs.declared.fault.DeskFault.TheVariants.{Read}
use Rattle.dam_desk.proofs.Cases.{by_writing}
use Rattle.dam_desk.proofs.Desks.{TakesAll, all_given, all_more, all_start, finishes, nothing_more, served_first, served_more, served_so_far, counted_after, written_fault}
use Rattle.dam_desk.proofs.Devices.{devices_after, flushed_by_both, not_asked, read_more}
use Rattle.std.proofs.lemmas.Bool.{both_ways}
use Rattle.dam_desk.proofs.Ends.{end_after, end_counts, err_is, read_after}
use Rattle.dam_desk.proofs.Stores.{store_done, store_start, store_then, store_told}
use Rattle.dam_desk.proofs.serve.serve.Goals as goal

pub loop-chunk-init : goal.loop-chunk-init
loop-chunk-init g c = record {
  store = store_start c.args.desk.now.store tt c.requires.safe (c.is_safe-safe.ensures.keeps c.requires.safe) (c.is_safe-safe.ensures.usable c.requires.safe);
  reader = c.requires.reader;
  writer = c.in_ok-write_text.ensures.writer.failed;
  asked = not_asked c.args.reader.now 0;
  flushed = c.in_ok-write_text.ensures.writer.flushed;
  chunk = search rules;
  taken = λ state begun is. (
    [],
    Consumes-nil c.args.reader.now.unread,
    all_start c.args.desk.now state begun c.args.replies.now _ c.args.writer.now.taken
        c.write_text.new.writer.taken is (c.is_safe-safe.ensures.opens state begun is c.requires.safe)
        c.in_ok-write_text.ensures.done refl,
  );
}

pub loop-chunk-preserved : goal.loop-chunk-preserved
loop-chunk-preserved g c = record {
  store = store_done c.args.desk.now.store c.serve_batch.new.self.store tt
      (store_then c.args.desk.now.store c.loop-chunk.desk.store c.serve_batch.new.self.store _ c.loop-chunk.invariant.store c.in-Ok-serve_batch.ensures.store);
  reader = c.in-Ok.ensures.cause;
  writer = c.in-Ok-serve_batch.ensures.writer.failed;
  asked = read_more c.args.reader.now c.loop-chunk.reader c.read.new.self (take c.in-Ok.count c.read.new.buf) 0 c.loop-chunk.invariant.asked
      c.in-Ok.ensures.bytes.0 c.read.ensures.asked
      (omega (arith, length-take c.in-Ok.count c.read.new.buf, c.in-Ok.ensures.bound, c.if-count-eq0.false));
  flushed = flushed_by_both c.args.writer.now c.loop-chunk.writer c.serve_batch.new.writer c.loop-chunk.invariant.flushed c.in-Ok-serve_batch.ensures.writer.flushed;
  chunk = omega (arith, c.read.auto.buf, c.loop-chunk.invariant.chunk);
  taken = λ state begun is.
      let so_far = c.loop-chunk.invariant.taken state begun is in
      let more = take c.in-Ok.count c.read.new.buf in
      let old = c.args.writer.now.taken in
      let mid = c.loop-chunk.writer.taken in
      let new = c.serve_batch.new.writer.taken in
      let then = (c.in-Ok-serve_batch.ensures.lines so_far.2.takes.last so_far.2.takes.begun so_far.2.takes.now).answered in (
        so_far.0 ++ more,
        Consumes-trans c.args.reader.now.unread c.loop-chunk.reader.unread c.read.new.self.unread so_far.0 more
            so_far.1 c.in-Ok.ensures.bytes.0,
        subst (λ (given : List ℕ). TakesAll c.serve_batch.new.self state given c.args.replies.now c.saturating_add-printed.result old new)
            (append_assoc begun so_far.0 more)
            (all_more c.loop-chunk.desk c.serve_batch.new.self state (begun ++ so_far.0) more c.args.replies.now c.loop-chunk.printed c.in-Ok-serve_batch.count
            c.saturating_add-printed.result old mid new so_far.2 then.0 then.1 c.saturating_add-printed.ensures),
      );
}

pub loop-chunk-smaller : goal.loop-chunk-smaller
loop-chunk-smaller g c = omega (arith, c.read.ensures.asked, c.asked.ensures)

pub returns-in_err-write_text-clause-lines : goal.returns-in_err-write_text-clause-lines
returns-in_err-write_text-clause-lines g c state begun is =
    let old = c.args.writer.now.taken in
    let new = c.write_text.new.writer.taken in
    let fault = c.in_err-write_text.field-0.0 in
    let part = written_fault old new c.args.replies.now fault c.in_err-write_text.ensures.fault in
    err_is c.from_residual.result (ServesInput _ _ state begun _ _ _ _ _) fault c.from_residual.ensures.1 (record {
      done = tt;
      answered = λ read. absurd (both_ways _ c.in_err-write_text.ensures.writer.not_read read);
      faulty = (
        [],
        Consumes-nil c.args.reader.now.unread,
        served_first c.args.desk.now state begun c.args.replies.now fault old new part.0 part.2
            (c.is_safe-safe.ensures.opens state begun is c.requires.safe) part.1,
      );
      cause = by_writing old new c.args.replies.now (IsEndFaultOf c.args.desk.now.store c.args.desk.now.store) (λ written front. refl) fault
          c.in_err-write_text.ensures.fault;
    })

pub returns-in-Err-clause-lines : goal.returns-in-Err-clause-lines
returns-in-Err-clause-lines g c state begun is =
    let so_far = c.loop-chunk.invariant.taken state begun is in
    let now = c.loop-chunk.writer.taken in
    let kept = Consumes-kept c.args.reader.now.unread c.loop-chunk.reader.unread c.read.new.self.unread so_far.0 so_far.1 c.in-Err.ensures.bytes in
    record {
      done = tt;
      answered = λ read. (so_far.0, kept, so_far.2.takes);
      faulty = (
        so_far.0,
        kept,
        served_so_far c.loop-chunk.desk state (begun ++ so_far.0) c.args.replies.now c.args.writer.now.taken now now Read 0 so_far.2.takes tt []
            (inl refl) (Appends-nil now),
      );
      cause = c.loop-chunk.invariant.store.no_fault;
    }

pub returns-clause-lines : goal.returns-clause-lines
returns-clause-lines g c state begun is =
    let so_far = c.loop-chunk.invariant.taken state begun is in
    let now = c.loop-chunk.writer.taken in
    record {
      done = tt;
      answered = λ read. (so_far.0, so_far.1, so_far.2.takes);
      faulty = (
        so_far.0,
        so_far.1,
        served_so_far c.loop-chunk.desk state (begun ++ so_far.0) c.args.replies.now c.args.writer.now.taken now now Read 0 so_far.2.takes tt []
            (inl refl) (Appends-nil now),
      );
      cause = c.loop-chunk.invariant.store.no_fault;
    }

pub returns-in-Ok-write_end_answer-clause-lines : goal.returns-in-Ok-write_end_answer-clause-lines
returns-in-Ok-write_end_answer-clause-lines g c state begun is =
    let so_far = c.loop-chunk.invariant.taken state begun is in
    let takes = so_far.2.takes in
    let mid = c.loop-chunk.writer.taken in
    let new = c.write_end_answer.new.writer.taken in
    let room : 0 < length c.read.new.buf = omega (arith, c.read.auto.buf, c.loop-chunk.invariant.chunk) in
    record {
      done = (
        so_far.0,
        all_given c.args.reader.now.unread c.loop-chunk.reader.unread c.read.new.self.unread so_far.0
            c.read.new.buf c.in-Ok.count so_far.1 c.in-Ok.ensures.bytes.0 c.if-count-eq0.true (c.in-Ok.ensures.bytes.1 c.if-count-eq0.true room),
        finishes c.loop-chunk.desk state (begun ++ so_far.0) c.args.replies.now c.args.writer.now.taken mid new takes
            (subst (λ (n : ℕ). Appends mid new (end_answer (next n) takes.begun)) takes.now.intake.answered
            (c.in-Ok-write_end_answer.ensures.answer takes.begun takes.now.intake.line)),
      );
      answered = tt;
      faulty = tt;
      cause = tt;
    }

pub returns-in-Err-write_end_answer-clause-lines : goal.returns-in-Err-write_end_answer-clause-lines
returns-in-Err-write_end_answer-clause-lines g c state begun is =
    let so_far = c.loop-chunk.invariant.taken state begun is in
    let takes = so_far.2.takes in
    let old = c.args.writer.now.taken in
    let mid = c.loop-chunk.writer.taken in
    let new = c.write_end_answer.new.writer.taken in
    let fault = c.in-Err-write_end_answer.fault in
    let store = c.loop-chunk.desk.store in
    let ending = end_answer (next takes.last.answered) takes.begun in
    let part = c.in-Err-write_end_answer.ensures.answer takes.begun takes.now.intake.line in
    let counted = counted_after (length (c.args.replies.now ++ takes.answers)) part.0 c.loop-chunk.printed fault so_far.2.count part.2 in
    subst (λ (why : DeskFault). ServesInput c.args.desk.now c.loop-chunk.desk state begun c.args.replies.now c.args.reader.now.unread
    c.read.new.self.unread old new (Err why)) (sym c.with_bytes_before.ensures) (record {
      done = tt;
      answered = λ read. absurd (both_ways _ (read_after c.loop-chunk.printed fault ∙ c.in-Err-write_end_answer.ensures.writer.not_read) read);
      faulty = (
        so_far.0,
        nothing_more c.args.reader.now.unread c.loop-chunk.reader.unread c.read.new.self.unread so_far.0
            c.read.new.buf c.in-Ok.count so_far.1 c.in-Ok.ensures.bytes.0 c.if-count-eq0.true,
        served_so_far c.loop-chunk.desk state (begun ++ so_far.0) c.args.replies.now old mid new (fault_after c.loop-chunk.printed fault) part.0
            takes counted ending (inr (takes.begun, takes.split, refl))
            (subst (λ (n : ℕ). Appends mid new (take part.0 (end_answer (next n) takes.begun))) takes.now.intake.answered part.1),
      );
      cause = end_after (g.D.Disk.is_clean (disk_of store)) (g.D.Disk.faults (disk_of c.args.desk.now.store)) (g.D.Disk.faults (disk_of store))
          c.loop-chunk.printed fault
          (subst (λ (n : ℕ). IsEndFault (g.D.Disk.is_clean (disk_of store)) n (g.D.Disk.faults (disk_of store)) fault) c.loop-chunk.invariant.store.no_fault
          (c.in-Err-write_end_answer.ensures.cause (g.D.Disk.is_clean (disk_of store)) (g.D.Disk.faults (disk_of store))));
    })

pub returns-in-Err-write_end_answer-clause-devices : goal.returns-in-Err-write_end_answer-clause-devices
returns-in-Err-write_end_answer-clause-devices g c =
    devices_after c.args.reader.now c.read.new.self c.args.writer.now c.loop-chunk.writer c.write_end_answer.new.writer c.loop-chunk.printed
    c.in-Err-write_end_answer.fault c.with_bytes_before.result c.with_bytes_before.ensures
    (read_more c.args.reader.now c.loop-chunk.reader c.read.new.self (take c.in-Ok.count c.read.new.buf) 1 c.loop-chunk.invariant.asked
    c.in-Ok.ensures.bytes.0 c.read.ensures.asked (omega arith)) c.in-Ok.ensures.cause c.loop-chunk.invariant.flushed
    c.in-Err-write_end_answer.ensures.writer

pub returns-in-Err-serve_batch-clause-store : goal.returns-in-Err-serve_batch-clause-store
returns-in-Err-serve_batch-clause-store g c =
    let old = c.args.desk.now.store in
    let new = c.serve_batch.new.self.store in
    store_told old new c.loop-chunk.printed c.in-Err-serve_batch.fault c.with_bytes_before-in-Err-serve_batch.result
    c.with_bytes_before-in-Err-serve_batch.ensures
    (store_then old c.loop-chunk.desk.store new _ c.loop-chunk.invariant.store c.in-Err-serve_batch.ensures.store)

pub returns-in-Err-serve_batch-clause-lines : goal.returns-in-Err-serve_batch-clause-lines
returns-in-Err-serve_batch-clause-lines g c state begun is =
    let so_far = c.loop-chunk.invariant.taken state begun is in
    let takes = so_far.2.takes in
    let more = take c.in-Ok.count c.read.new.buf in
    let fault = c.in-Err-serve_batch.fault in
    let old = c.args.writer.now.taken in
    let mid = c.loop-chunk.writer.taken in
    let new = c.serve_batch.new.writer.taken in
    let input = c.args.reader.now.unread in
    let left = c.read.new.self.unread in
    let batch = c.in-Err-serve_batch.ensures.lines takes.last takes.begun takes.now in
    subst (λ (why : DeskFault). ServesInput c.args.desk.now c.serve_batch.new.self state begun c.args.replies.now input left old new (Err why))
    (sym c.with_bytes_before-in-Err-serve_batch.ensures) (record {
      done = tt;
      answered = λ read. absurd (both_ways _ (read_after c.loop-chunk.printed fault ∙ c.in-Err-serve_batch.ensures.writer.not_read) read);
      faulty = (
        so_far.0 ++ more,
        Consumes-trans input c.loop-chunk.reader.unread left so_far.0 more so_far.1 c.in-Ok.ensures.bytes.0,
        subst (λ (given : List ℕ).
            Served state given c.args.replies.now (fault_after c.loop-chunk.printed fault) old new (MayLeave c.serve_batch.new.self))
            (append_assoc begun so_far.0 more)
            (served_more c.loop-chunk.desk state (begun ++ so_far.0) more c.args.replies.now old mid new _ fault c.loop-chunk.printed takes so_far.2.count
            batch.faulty),
      );
      cause = end_after _ _ _ c.loop-chunk.printed fault (end_counts fault refl c.loop-chunk.invariant.store.no_fault refl batch.cause);
    })

pub returns-in-Err-serve_batch-clause-devices : goal.returns-in-Err-serve_batch-clause-devices
returns-in-Err-serve_batch-clause-devices g c =
    devices_after c.args.reader.now c.read.new.self c.args.writer.now c.loop-chunk.writer c.serve_batch.new.writer c.loop-chunk.printed
    c.in-Err-serve_batch.fault c.with_bytes_before-in-Err-serve_batch.result c.with_bytes_before-in-Err-serve_batch.ensures
    (read_more c.args.reader.now c.loop-chunk.reader c.read.new.self (take c.in-Ok.count c.read.new.buf) 1 c.loop-chunk.invariant.asked
    c.in-Ok.ensures.bytes.0 c.read.ensures.asked (omega arith)) c.in-Ok.ensures.cause c.loop-chunk.invariant.flushed
    c.in-Err-serve_batch.ensures.writer
