-- The step that was prepared is the next of the journal, and a refused one leaves the journal.
use Rattle.std.proofs.Common.{◌≡◌, ℕ, false, length, Result, Ok, Err, OnErr, sym, ap, ap₂, ◌∙◌}
use Rattle.dam_book.specs.Book.{BookState, book_after}
use Rattle.dam_book.specs.declared.command.Entry.{Entry}
use Rattle.dam_book.specs.declared.command.Reply.{Reply}
use Rattle.dam_gate.specs.Journal.{JournalState, journal_after, next_entry}
use Rattle.dam_book.specs.Command.{is_journal_full}
use Rattle.dam_gate.specs.inside.Locked.{LockedState, entry_of}
use Rattle.dam_gate.proofs.Histories.{book_after-periods, journal_after_is}
use Rattle.dam_gate.proofs.locked.Locked.append_and_publish.Goals as goal

pub extend_history_and_show-requires-clause-journal : goal.extend_history_and_show-requires-clause-journal
extend_history_and_show-requires-clause-journal g c =
    let j : JournalState = c.self.inside.keeper.journal in
    let command = c.args.command in
    let prepared = c.in_ok-prepared.ensures.prepared in
    let same : c.prepare.new.self.journal ≡ j = c.prepare.ensures.journal in
    let entry : c.in_ok-prepared.prepared.entry ≡ next_entry j command = prepared.entry ∙ ap (λ (x : JournalState). next_entry x command) same in
    let book : c.in_ok-prepared.prepared.book ≡ book_after j.book command = prepared.book
    ∙ ap (λ (x : JournalState). book_after x.book command) same in
    let left : is_journal_full (length j.entries) command ≡ false = ap (λ (x : JournalState). is_journal_full (length x.entries) command) (sym same)
    ∙ prepared.left in
    rw (c.self.invariant.0, c.entry-entry.ensures, entry, c.in_ok-book.ensures, book) (journal_after_is j command c.len-held.ensures.valid left)

pub extend_history_and_show-requires-clause-day : goal.extend_history_and_show-requires-clause-day
extend_history_and_show-requires-clause-day g c =
    let j : JournalState = c.self.inside.keeper.journal in
    let command = c.args.command in
    let book : c.in_ok-prepared.prepared.book ≡ book_after j.book command =
    c.in_ok-prepared.ensures.prepared.book ∙ ap (λ (x : JournalState). book_after x.book command) c.prepare.ensures.journal in
    ap (λ (b : BookState). b.periods) (c.in_ok-book.ensures ∙ book) ∙ (book_after-periods j.book command ∙ c.self.invariant.1)

pub returns-clause-entry : goal.returns-clause-entry
returns-clause-entry g c =
    let command = c.args.command in
    ap₂ (λ (n : ℕ) (r : Reply). entry_of command (n, r)) c.number.ensures c.reply.ensures
    ∙ ap (λ (e : Entry). entry_of command (e.number, e.reply))
    (c.entry-entry.ensures ∙ (c.in_ok-prepared.ensures.prepared.entry
    ∙ ap (λ (x : JournalState). next_entry x command) (c.prepare.ensures.journal ∙ ap (λ (d : LockedState). d.journal) c.self.view_is)))

pub returns-clause-history : goal.returns-clause-history
returns-clause-history g c =
    rw (
      ← c.self.view_is,
      c.in-Some.ensures.history,
      c.self.invariant.0,
      c.number.ensures,
      c.reply.ensures,
      c.entry-entry.ensures,
      c.in_ok-prepared.ensures.prepared.entry,
    )

pub returns-clause-journal : goal.returns-clause-journal
returns-clause-journal g c =
    c.append.ensures.step
    ∙ ap₂ journal_after (c.prepare.ensures.journal ∙ ap (λ (d : LockedState). d.journal) c.self.view_is)
    (ap (λ (e : Entry). e.command) c.in_ok-prepared.ensures.prepared.entry)

pub returns-clause-passes : goal.returns-clause-passes
returns-clause-passes g c = ap (λ (d : LockedState). d.passes) c.self.view_is

-- if it is refused, the journal stays
when_refused : {T E P : Type 0} (r : Result T E) → P → OnErr r P
when_refused (Ok x) p = tt
when_refused (Err e) p = p

abbrev with_journal : ℕ → JournalState → LockedState
with_journal passes journal = record { journal = journal; passes = passes }

pub returns-in_err-slot-clause-err : goal.returns-in_err-slot-clause-err
returns-in_err-slot-clause-err g c =
    when_refused c.from_residual-in_err-slot.result (ap (with_journal c.self.inside.issued) c.prepare.ensures.journal ∙ c.self.view_is)

pub returns-in_err-book-clause-err : goal.returns-in_err-book-clause-err
returns-in_err-book-clause-err g c =
    when_refused c.from_residual-in_err-book.result (ap (with_journal c.self.inside.issued) c.prepare.ensures.journal ∙ c.self.view_is)

pub invariant_of-self : goal.invariant_of-self
invariant_of-self g c = rw c.prepare.ensures.journal c.self.invariant
