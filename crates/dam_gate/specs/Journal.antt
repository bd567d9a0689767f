-- A journal: the commands that reached the book, in one order, each with its reply, and the book that they made.
use Rattle.std.specs.Prelude.{◌≡◌, ℕ, suc, ◌+◌, ◌≤◌, true, false, List, [], ◌∷◌, ◌++◌, length}
use Rattle.dam_book.specs.Book.{BookState, empty_book, is_day, reply_to, book_after, run, commands_of, IsLegalHistory}
use Rattle.dam_book.specs.declared.command.Command.{Command}
use Rattle.dam_book.specs.Command.{is_journal_full}
use Rattle.dam_book.specs.declared.command.Entry.{Entry}
use Rattle.dam_book.specs.Limits.{most_entries}

-- each of the entries found room in a journal of those before it, of which `held` come before these
abbrev pub FoundRoom : ℕ → List Entry → Type 0
FoundRoom held [] = Unit {0}
FoundRoom held (e ∷ es) = (is_journal_full held e.command ≡ false) × FoundRoom (suc held) es

-- a history that a journal of a delivery day may hold: a legal history, no longer than a journal may be, in which an
-- entry of the greatest number is a close
pub record IsHistory (periods : ℕ) (es : List Entry) : Type 0 where
  pub day : is_day periods ≡ true
  pub legal : IsLegalHistory periods es
  pub few : length es ≤ most_entries
  pub room : FoundRoom 0 es

-- entries, and a book
pub record JournalState : Type 0 where
  pub entries : List Entry
  pub book : BookState

-- the book is the run of the commands of such a history, from the empty book of its day
pub record IsJournal (j : JournalState) : Type 0 where
  pub history : IsHistory j.book.periods j.entries
  pub book_is : j.book ≡ run j.book.periods (commands_of j.entries)

-- no entries, and the empty book of a day of this many periods
abbrev pub empty_journal : ℕ → JournalState
empty_journal periods = record { entries = []; book = empty_book periods }

-- the entry of a command: the next number, and the reply of the book before it
abbrev pub next_entry : JournalState → Command → Entry
next_entry j c = record { number = length j.entries + 1; command = c; reply = reply_to j.book c }

-- the journal after the command
abbrev pub journal_after : JournalState → Command → JournalState
journal_after j c = record { entries = j.entries ++ next_entry j c ∷ []; book = book_after j.book c }
