-- The replies text: the day, and then a line for each entry.
use Rattle.std.specs.Prelude.{◌≡◌, ℕ, List, ◌++◌, decimal, codes}
use Rattle.std.specs.List.{flat_map}
use Rattle.dam_book.specs.declared.command.Reply.{Reply}
use Rattle.dam_book.specs.declared.command.Reply.TheVariants.{Done, Refused}
use Rattle.dam_book.specs.declared.command.Command.{Command}
use Rattle.dam_book.specs.declared.command.Entry.{Entry}
use Rattle.dam_book.specs.Book.{entries_of, reason_word}

-- done, or refused with the reason
abbrev pub reply_text : Reply → List ℕ
reply_text Done = codes "done"
reply_text (Refused reason) = codes "refused," ++ reason_word reason

-- an entry's number, and the reply
abbrev pub reply_line : ℕ → Reply → List ℕ
reply_line number reply = decimal number ++ (codes "," ++ (reply_text reply ++ codes "\n"))

-- the line of an entry
abbrev pub entry_line : Entry → List ℕ
entry_line e = reply_line e.number e.reply

-- the first line: the day, with its number of periods
abbrev pub day_line : ℕ → List ℕ
day_line periods = codes "day," ++ (decimal periods ++ codes "\n")

-- the lines that `dam replay` prints: the day's, and one for each entry
abbrev pub replies_text : ℕ → List Entry → List ℕ
replies_text periods entries = day_line periods ++ flat_map entry_line entries

-- the reply of their run to each command
abbrev pub replies_to : ℕ → List Command → List ℕ
replies_to periods commands = replies_text periods (entries_of periods commands)

-- this is the replies text of the run of these commands
abbrev pub AreReplies : ℕ → List Command → List ℕ → Type 0
AreReplies periods commands text = text ≡ replies_to periods commands
