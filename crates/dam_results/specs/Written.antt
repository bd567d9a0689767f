-- The written journal: a line for the day, and then one for the command of each entry.
use Rattle.std.specs.Prelude.{ℕ, List, [], ◌∷◌, ◌++◌}
use Rattle.std.specs.List.{flat_map, join_with_byte}
use Rattle.csv.specs.Machine.{line_feed}
use Rattle.csv.specs.Writing.{comma}
use Rattle.dam_book.specs.Book.{commands_of}
use Rattle.dam_book.specs.declared.command.Command.{Command}
use Rattle.dam_book.specs.declared.command.Entry.{Entry}
use Rattle.dam_results.specs.Records.{Fields, record_of_day, record_of_command}

-- a record as it is written: the fields with a comma between each two, and one LF
abbrev pub record_line : Fields → List ℕ
record_line fields = join_with_byte comma fields ++ line_feed ∷ []

-- the line of a command
abbrev pub command_line : Command → List ℕ
command_line command = record_line (record_of_command command)

-- the text of a day of this many periods and of these commands
abbrev pub written : ℕ → List Command → List ℕ
written periods commands = record_line (record_of_day periods) ++ flat_map command_line commands

-- the written journal: the line of the day, and one for the command of each entry
abbrev pub journal_text : ℕ → List Entry → List ℕ
journal_text periods entries = written periods (commands_of entries)
