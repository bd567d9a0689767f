-- The run of a journal's commands.
use Rattle.std.specs.Prelude.{◌≡◌, ℕ, Bool, true, false, List, length}
use Rattle.std.specs.List.{filter}
use Rattle.dam_book.specs.Book.{BookState, entries_of, run}
use Rattle.dam_book.specs.declared.command.Command.{Command}
use Rattle.dam_book.specs.declared.command.Entry.{Entry}
use Rattle.dam_book.specs.declared.command.Reply.{Reply}
use Rattle.dam_book.specs.declared.command.Reply.TheVariants.{Done, Refused}

-- the commands make this book of the empty one of a day of this many periods
abbrev pub IsRun : ℕ → List Command → BookState → Type 0
IsRun periods commands book = book ≡ run periods commands

-- whether the reply is a refusal
abbrev pub is_refusal : Reply → Bool
is_refusal Done = false
is_refusal (Refused reason) = true

-- how many of the entries have a command that was refused
abbrev pub refused_among : List Entry → ℕ
refused_among entries = length (filter (λ (e : Entry). is_refusal e.reply) entries)

-- the run of these commands refuses this many of them
abbrev pub HasRefused : ℕ → List Command → ℕ → Type 0
HasRefused periods commands refused = refused ≡ refused_among (entries_of periods commands)
