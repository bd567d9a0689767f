-- The records of the answered lines are in the file once their answers are written.
use Rattle.std.proofs.Common.{◌++◌, [], List, ℕ, inl, inr, not, length, take, refl, sym, ap, ◌∙◌, subst, append-nil}
use Rattle.std.specs.Io.KnownBytes.{Appends}
use Rattle.dam_store.specs.Store.{disk_of, held_lines, is_broken}
use Rattle.dam_store.specs.FileLines.{text_of}
use Rattle.dam_desk.specs.Desk.{IsEndFaultOf, IsStoreAfter, ServesBatch}
use Rattle.dam_desk.specs.Faults.{of_store}
use Rattle.dam_desk.specs.declared.fault.DeskFault.TheVariants.{Memory}
use Rattle.dam_desk.specs.inside.Intake.{entered_text}
use Rattle.dam_desk.proofs.Cases.{by_writing}
use Rattle.dam_desk.proofs.Crashes.{either_keeps}
use Rattle.dam_desk.proofs.Ends.{end_store, err_is, refuted}
use Rattle.dam_desk.proofs.Opening.{sync_of, write_failure}
use Rattle.dam_desk.proofs.Room.{has_room}
use Rattle.dam_desk.proofs.Desks.{with_batch, opens_after, opens_batch, opens_either, opens_store, served_none, served_pending, served_written, store_grown, store_counted, written_fault}
use Rattle.dam_desk.proofs.desk.Desk.serve_batch.Goals as goal

pub returns-in_err-enter_batch-clause-lines : goal.returns-in_err-enter_batch-clause-lines
returns-in_err-enter_batch-clause-lines g c state begun is =
    let opens = opens_store c.args.self.now.store state.journal is.reads is.file (c.is_broken-safe.ensures.safe c.requires.safe) in
    err_is c.from_residual.result (ServesBatch _ _ state _ _ _) Memory c.from_residual.ensures.1 (record {
      one_batch = λ file may. inl (opens file may);
      answered = tt;
      faulty = served_none state (begun ++ c.args.bytes.now) [] Memory c.args.writer.now.taken _ tt opens;
      cause = refl;
    })

pub returns-in_err-batch-clause-lines : goal.returns-in_err-batch-clause-lines
returns-in_err-batch-clause-lines g c state begun is =
    let opens = opens_store c.args.self.now.store state.journal is.reads is.file (c.is_broken-safe.ensures.safe c.requires.safe) in
    err_is c.from_residual-in_err-batch.result (ServesBatch _ _ state _ _ _) Memory c.from_residual-in_err-batch.ensures.1 (record {
      one_batch = λ file may. inl (opens file may);
      answered = tt;
      faulty = served_none state (begun ++ c.args.bytes.now) [] Memory c.args.writer.now.taken _ tt opens;
      cause = refl;
    })

pub returns-in_err-append-clause-lines : goal.returns-in_err-append-clause-lines
returns-in_err-append-clause-lines g c state begun is =
    let fault = c.in_err-append.field-0.0 in
    let append = c.in_err-append.ensures in
    let old = c.args.self.now.store in
    let new = c.append.new.self in
    let read = c.in_ok-enter_batch.ensures state begun is.intake in
    let reads = c.journals_grow.ensures.reads state read.last read.lines c.enter_batch.new.self.answers.items is.reads read.answers in
    let clean = g.D.Disk.is_clean (disk_of new) in
    let either = opens_either old new c.in_ok-batch.batch (entered_text c.enter_batch.new.self) state.journal read.last.journal is.reads reads
    append.clean is.file c.in_ok-batch.ensures read.text (append.crash c.requires.safe) in
    err_is c.from_residual-in_err-append.result (ServesBatch _ _ state _ _ _) (of_store fault) c.from_residual-in_err-append.ensures.1 (record {
      one_batch = λ file may. opens_batch c.enter_batch.new.self state (begun ++ c.args.bytes.now) file read (either file may);
      answered = tt;
      faulty = served_pending c.enter_batch.new.self state (begun ++ c.args.bytes.now) (of_store fault) c.args.writer.now.taken _
          (store_counted 0 fault) read either;
      cause = end_store clean (g.D.Disk.faults (disk_of old)) (g.D.Disk.faults (disk_of new)) fault (is_broken old) c.requires.safe append.no_other
          (λ failed. (append.failure (write_failure fault failed)).1) (λ same.
          let full = append.full same in (
            refuted clean (λ honest.
                let was = sym append.clean ∙ honest in
                has_room (held_lines old ++ c.in_ok-batch.batch) read.last.journal reads
                (with_batch (held_lines old) c.in_ok-batch.batch (entered_text c.enter_batch.new.self) state.journal read.last.journal (is.file was)
                c.in_ok-batch.ensures read.text) (full.2 was)),
            ap g.D.Disk.faults full.0,
          ));
    })

pub returns-clause-lines : goal.returns-clause-lines
returns-clause-lines g c state begun is =
    let read = c.in_ok-enter_batch.ensures state begun is.intake in
    let reads = c.journals_grow.ensures.reads state read.last read.lines c.enter_batch.new.self.answers.items is.reads read.answers in
    let text = store_grown c.args.self.now.store c.append.new.self c.in_ok-batch.batch (entered_text c.enter_batch.new.self) state.journal read.last.journal
    c.append.ensures.clean is.file c.in_ok-batch.ensures read.text c.in_ok-append.ensures.acknowledged in
    let opens = opens_store c.append.new.self read.last.journal reads text c.in_ok-append.ensures.safe in
    record {
      one_batch = λ file may. inr (opens_after c.enter_batch.new.self state (begun ++ c.args.bytes.now) file read (opens file may));
      answered = (
        record {
          lines = read.lines;
          begun = read.begun;
          split = record {
            split = read.split ∙ ap (λ (t : List ℕ). text_of read.lines ++ t) (append-nil read.begun);
            whole = read.whole;
            unended = read.now.unended;
          };
          answers = c.enter_batch.new.self.answers.items;
          last = read.last;
          answered = read.answers;
          written = subst (Appends c.args.writer.now.taken c.write_text.new.writer.taken)
              c.as_slice-answers.ensures.value c.in_ok-write_text.ensures.done;
          now = record { intake = read.now; reads = reads; file = text };
          safe = opens;
        },
        ap length c.as_slice-answers.ensures.value,
      );
      faulty = tt;
      cause = tt;
    }

pub returns-in_err-write_text-clause-lines : goal.returns-in_err-write_text-clause-lines
returns-in_err-write_text-clause-lines g c state begun is =
    let read = c.in_ok-enter_batch.ensures state begun is.intake in
    let old = c.args.writer.now.taken in
    let new = c.write_text.new.writer.taken in
    let reads = c.journals_grow.ensures.reads state read.last read.lines c.enter_batch.new.self.answers.items is.reads read.answers in
    let text = store_grown c.args.self.now.store c.append.new.self c.in_ok-batch.batch (entered_text c.enter_batch.new.self) state.journal read.last.journal
    c.append.ensures.clean is.file c.in_ok-batch.ensures read.text c.in_ok-append.ensures.acknowledged in
    let opens = opens_store c.append.new.self read.last.journal reads text c.in_ok-append.ensures.safe in
    let fault = c.in_err-write_text.field-0.0 in
    let part = written_fault old new c.as_slice-answers.result.now fault c.in_err-write_text.ensures.fault in
    err_is c.from_residual-in_err-write_text.result (ServesBatch _ _ state _ _ _) fault c.from_residual-in_err-write_text.ensures.1 (record {
      one_batch = λ file may. inr (opens_after c.enter_batch.new.self state (begun ++ c.args.bytes.now) file read (opens file may));
      answered = tt;
      faulty = served_written c.enter_batch.new.self state (begun ++ c.args.bytes.now) fault old new _ part.0 part.2 read
          (subst (λ (t : List ℕ). Appends old new (take part.0 t)) c.as_slice-answers.ensures.value part.1) opens;
      cause = by_writing old new c.as_slice-answers.result.now (IsEndFaultOf c.args.self.now.store c.append.new.self)
          (λ written front. c.in_ok-append.ensures.no_fault) fault c.in_err-write_text.ensures.fault;
    })

pub returns-in_err-append-clause-store : goal.returns-in_err-append-clause-store
returns-in_err-append-clause-store g c =
    let fault = c.in_err-append.field-0.0 in
    let append = c.in_err-append.ensures in
    let old = c.args.self.now.store in
    err_is c.from_residual-in_err-append.result (IsStoreAfter old c.append.new.self) (of_store fault) c.from_residual-in_err-append.ensures.1 (record {
      ready = tt;
      no_fault = tt;
      grown = tt;
      clean = append.clean;
      crash = λ clean file left. either_keeps (held_lines old) c.in_ok-batch.batch file (append.crash c.requires.safe clean file left);
      usable = append.usable c.requires.safe ∙ ap not (sym (sync_of fault));
    })
