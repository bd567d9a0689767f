-- The meaning of a line of the input. It is read as a journal, after the record of the day if there is one.
use Rattle.std.specs.Prelude.{◌≡◌, ◌⊎◌, ◌+◌, ◌-◌, ◌<◌, ◌≤◌, ℕ, List, [], ◌∷◌, ◌++◌, length, take, Option, None, Some}
use Rattle.dam_book.specs.declared.command.Command.{Command}
use Rattle.dam_results.specs.declared.journal_reading.JournalFault.{JournalFault}
use Rattle.dam_results.specs.declared.journal_reading.JournalFault.TheVariants as journal
use Rattle.dam_results.specs.Faults.{IsJournalFault}
use Rattle.dam_results.specs.Journal.{ReadsAs}
use Rattle.dam_results.specs.Records.{record_of_day}
use Rattle.dam_results.specs.Written.{record_line}
use Rattle.dam_desk.specs.Limits.{most_line}
use Rattle.dam_desk.specs.declared.fault.InputLineFault.{InputLineFault}
use Rattle.dam_desk.specs.declared.fault.InputLineFault.TheVariants as line
use Rattle.dam_desk.specs.declared.meaning.Meaning.{Meaning}
use Rattle.dam_desk.specs.declared.meaning.Meaning.TheVariants.{Day, Command as Commands, Fault}

-- as much of a line as a desk keeps of it: a longer one is known by that
abbrev pub kept_bytes : List ℕ → List ℕ
kept_bytes text = take (most_line + 1) text

-- the record of the day; nothing if there is none
abbrev pub record_of : Option ℕ → List ℕ
record_of None = []
record_of (Some periods) = record_line (record_of_day periods)

-- the text as which a line is read: after the record of the day
abbrev pub text_after : Option ℕ → List ℕ → List ℕ
text_after day text = record_of day ++ (text ++ 10 ∷ [])

-- the line is the record of a day of this many periods
abbrev pub IsDayLine : List ℕ → ℕ → Type 0
IsDayLine text periods = (length text ≤ most_line) × ReadsAs (text ++ 10 ∷ []) periods []

-- the line isn't too long, and is no record of a day
pub record IsNoDay (text : List ℕ) : Type 0 where
  pub short : length text ≤ most_line
  pub other : (periods : ℕ) → ¬ (IsDayLine text periods)

-- after the record of a day of this many periods, the line is the record of this command
abbrev pub IsCommandLine : ℕ → List ℕ → Command → Type 0
IsCommandLine periods text command =
    IsNoDay text × ((day : ℕ) × ReadsAs (text_after (Some periods) text) day (command ∷ []))

-- the line, which is read after this many bytes, has the fault of the journal
abbrev pub IsSameFault : ℕ → JournalFault → InputLineFault → Type 0
IsSameFault before journal.TooLong fault = fault ≡ line.TooLong
IsSameFault before (journal.NotAscii offset) fault = fault ≡ line.NotAscii (offset - before)
IsSameFault before journal.TooManyRecords fault = fault ≡ line.NotOneRecord
IsSameFault before journal.NotDay fault = fault ≡ line.NotDay
IsSameFault before (journal.FieldCount at) fault = fault ≡ line.FieldCount
IsSameFault before (journal.BadField at field) fault = fault ≡ line.BadField field
IsSameFault before journal.Memory fault = ⊥

-- in a journal with this day, or with none yet, these are the commands of one record: of a command, or of the day
abbrev pub AreOfOne : Option ℕ → List Command → Type 0
AreOfOne None commands = commands ≡ []
AreOfOne (Some periods) commands = length commands ≡ 1

-- The line is too long. Or it is no day, and the text as which it is read has this fault, or more or less than one record.
abbrev pub IsInputLineFault : Option ℕ → List ℕ → InputLineFault → Type 0
IsInputLineFault day text fault =
    ((most_line < length text) × (fault ≡ line.TooLong))
    ⊎ (IsNoDay text
    × (((why : JournalFault) × IsJournalFault (text_after day text) why × IsSameFault (length (record_of day)) why fault)
    ⊎ ((fault ≡ line.NotOneRecord)
    × ((periods : ℕ) × (commands : List Command) × ReadsAs (text_after day text) periods commands
    × ¬ (AreOfOne day commands)))))

-- the meaning of the line in a journal with this day, or with none yet
abbrev pub IsMeaning : Option ℕ → List ℕ → Meaning → Type 0
IsMeaning day text (Day periods) = IsDayLine text periods
IsMeaning None text (Commands command) = ⊥
IsMeaning (Some periods) text (Commands command) = IsCommandLine periods text command
IsMeaning day text (Fault fault) = IsInputLineFault day text fault
