-- The results of the text of a journal.
use Rattle.std.specs.Prelude.{ℕ, List}
use Rattle.dam_book.specs.Book.{run}
use Rattle.dam_book.specs.declared.command.Command.{Command}
use Rattle.dam_results.specs.declared.published.PeriodResult.{PeriodResult}
use Rattle.dam_results.specs.declared.published.RowResult.{RowResult}
use Rattle.dam_results.specs.Journal.{ReadsAs}
use Rattle.dam_results.specs.Clearing.{IsClearing}

-- the text is a journal, and this is published of the book that its commands make
abbrev pub IsClearingOf : List ℕ → ℕ → List PeriodResult → List RowResult → Type 0
IsClearingOf text welfare periods rows =
    (day : ℕ) × (commands : List Command) × ReadsAs text day commands
    × IsClearing (run day commands) welfare periods rows
