-- The journal after a step that was prepared is one, of the same day.
use Rattle.std.proofs.Common.{◌≡◌, false, length, sym, ap, ◌∙◌}
use Rattle.dam_book.specs.Book.{refusal, reply_to}
use Rattle.dam_book.specs.declared.command.Entry.{Entry}
use Rattle.dam_gate.specs.Journal.{JournalState, next_entry}
use Rattle.dam_book.specs.Command.{is_journal_full}
use Rattle.dam_gate.specs.Keeper.{KeeperState, PreparedState}
use Rattle.dam_gate.proofs.Histories.{book_after-periods, journal_after_is}
use Rattle.dam_gate.proofs.Steps.{same_reason}
use Rattle.dam_gate.proofs.keeper.Keeper.append.Goals as goal

pub invariant_of-self : goal.invariant_of-self
invariant_of-self g c =
    let j : JournalState = record { entries = c.self.inside.entries.items; book = c.self.inside.books.book } in
    let command = c.args.prepared.entry.command in
    let entry : c.prepared.inside.entry ≡ next_entry j command =
    ap (λ (r : PreparedState). r.entry) c.prepared.view_is ∙ (c.requires.entry
    ∙ ap (λ (k : KeeperState). next_entry k.journal command) (sym c.self.view_is)) in
    let left : is_journal_full (length j.entries) command ≡ false =
    ap (λ (k : KeeperState). is_journal_full (length k.journal.entries) command) c.self.view_is ∙ c.requires.left in
    let held : length j.entries ≡ c.len-held.result =
    ap (λ (k : KeeperState). length k.journal.entries) c.self.view_is ∙ sym c.len-held.ensures.value in (
      rw (c.push_reserved.ensures.items, c.advance.ensures.book, entry) (journal_after_is j command c.self.invariant.0 left),
      rw (c.push_reserved.ensures.items) (c.advance.ensures.steps c.self.inside.entries.items held c.self.invariant.1),
    )

pub returns-clause-day : goal.returns-clause-day
returns-clause-day g c =
    let j : JournalState = record { entries = c.self.inside.entries.items; book = c.self.inside.books.book } in
    let command = c.args.prepared.entry.command in
    let entry : c.prepared.inside.entry ≡ next_entry j command =
    ap (λ (r : PreparedState). r.entry) c.prepared.view_is ∙ (c.requires.entry
    ∙ ap (λ (k : KeeperState). next_entry k.journal command) (sym c.self.view_is)) in
    rw (c.advance.ensures.book, entry) (book_after-periods j.book command ∙ ap (λ (k : KeeperState). k.journal.book.periods) c.self.view_is)

-- the entry's reply is of the decision
pub advance-requires-clause-outcome : goal.advance-requires-clause-outcome
advance-requires-clause-outcome g c =
    let b = c.self.inside.books.book in
    let command = c.args.prepared.entry.command in
    let entry = ap (λ (r : PreparedState). r.entry) c.prepared.view_is in
    let reply : c.prepared.inside.entry.reply ≡ reply_to b c.prepared.inside.entry.command =
    ap (λ (e : Entry). e.reply) (entry ∙ c.requires.entry)
    ∙ ap (λ (k : KeeperState). reply_to k.journal.book command) (sym c.self.view_is)
    ∙ ap (λ (e : Entry). reply_to b e.command) (sym entry) in
    same_reason c.prepared.inside.outcome (refusal b c.prepared.inside.entry.command) (sym c.prepared.invariant ∙ reply)
