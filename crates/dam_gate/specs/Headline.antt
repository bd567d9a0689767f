-- The facts that a settled gate shows.
use Rattle.std.specs.Prelude.{◌≡◌, ◌⊎◌, true, List, [], ◌∷◌, All}
use Rattle.std.specs.List.Sorted.{IsPermutation}
use Rattle.dam_book.specs.Book.{run, commands_of, entries_of}
use Rattle.dam_book.specs.declared.command.Entry.{Entry}
use Rattle.dam_gate.specs.Journal.{JournalState}
use Rattle.dam_gate.specs.Pass.{AccountState, is_own}
use Rattle.dam_gate.specs.Settled.{receipts_of}

-- these are some of the entries, in the order of the entries
abbrev pub AreSomeOf : List Entry → List Entry → Type 0
AreSomeOf [] es = Unit {0}
AreSomeOf (r ∷ rs) [] = ⊥
AreSomeOf (r ∷ rs) (e ∷ es) = ((r ≡ e) × AreSomeOf rs es) ⊎ AreSomeOf (r ∷ rs) es

-- each is of a command that was the holder's to give
abbrev pub AreOfHolder : AccountState → Type 0
AreOfHolder p = All (λ (e : Entry). is_own p.holder e.command ≡ true) p.receipts

-- the journal's commands, run one by one from the empty book, give exactly the recorded replies and the book held, and
-- the holders' receipts of their own commands are its entries, each once, in each holder's order
pub record IsWholeAccount (j : JournalState) (accounts : List AccountState) : Type 0 where
  pub replies : entries_of j.book.periods (commands_of j.entries) ≡ j.entries
  pub book : run j.book.periods (commands_of j.entries) ≡ j.book
  pub closed : j.book.closed ≡ true
  pub each_once : IsPermutation (receipts_of accounts) j.entries
  pub in_order : All (λ (p : AccountState). AreSomeOf p.receipts j.entries) accounts
  pub own : All AreOfHolder accounts
