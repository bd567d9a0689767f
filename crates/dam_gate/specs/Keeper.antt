-- The state of a keeper, and a prepared step of it.
use Rattle.std.specs.Prelude.{◌≡◌, ℕ, ◌<◌, false, length}
use Rattle.dam_book.specs.Book.{BookState, book_after}
use Rattle.dam_book.specs.declared.command.Command.{Command}
use Rattle.dam_book.specs.declared.command.Entry.{Entry}
use Rattle.dam_gate.specs.Journal.{JournalState, next_entry}
use Rattle.dam_book.specs.Command.{is_journal_full}

-- the journal, and for how many entries more there is room
pub record KeeperState : Type 0 where
  pub journal : JournalState
  pub room : ℕ

-- an entry, and the book after its command
pub record PreparedState : Type 0 where
  pub entry : Entry
  pub book : BookState

-- a prepared step of the command: its entry is the next, and there is room for it
pub record IsPreparedFor (k : KeeperState) (c : Command) (r : PreparedState) : Type 0 where
  pub entry : r.entry ≡ next_entry k.journal c
  pub book : r.book ≡ book_after k.journal.book c
  pub left : is_journal_full (length k.journal.entries) c ≡ false
  pub room : 0 < k.room
