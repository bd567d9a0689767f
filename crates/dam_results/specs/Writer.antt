-- A journal that is written command by command.
use Rattle.std.specs.Prelude.{ℕ, List}
use Rattle.dam_results.specs.declared.journal_writing.JournalWriter.{JournalWriter}
use Rattle.dam_results.specs.inside.Writer.{Wrote}

-- it has written this text, and no part of a next record
abbrev pub HasWritten : JournalWriter → List ℕ → Type 0
HasWritten writer text = Wrote writer.out text
