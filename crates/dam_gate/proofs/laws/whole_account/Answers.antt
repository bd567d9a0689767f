-- The settled entries are a legal history, and the receipts are its entries.
use Rattle.std.proofs.Common.{sym, subst}
use Rattle.dam_book.specs.Book.{empty_book}
use Rattle.dam_gate.specs.Settled.{receipts_of}
use Rattle.dam_gate.specs.Journal.{JournalState, IsJournal}
use Rattle.dam_gate.proofs.Accounts.{each_number, in_order, of_holders}
use Rattle.dam_gate.proofs.laws.whole_account.Goals as goal

pub returns : goal.returns
returns g c =
    let j : JournalState = c.args.settled.now in
    let is : IsJournal j = subst IsJournal c.journal.ensures.value c.entries-entries.ensures.valid in
    record {
      replies = sym (c.histories_are_runs.ensures.entries j.book.periods j.entries is.history.legal);
      book = sym is.book_is;
      closed = c.requires.closed;
      each_once = c.requires.each_once;
      in_order = in_order (empty_book j.book.periods) j.entries c.args.accounts.now is.history.legal
          (each_number j.book.periods j.entries (receipts_of c.args.accounts.now) is.history.legal c.requires.each_once) c.are_accounts.ensures;
      own = of_holders c.args.accounts.now c.are_accounts.ensures;
    }
