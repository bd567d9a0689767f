-- The journal of a desk: which answer a line of the input gets, and what it enters.
use Rattle.std.specs.Prelude.{◌≡◌, ◌==◌, ◌+◌, ◌-◌, ◌^◌, ℕ, min, Bool, true, false, not, if◌then◌else◌, List, [], ◌∷◌, ◌++◌, length, Option, None, Some}
use Rattle.dam_book.specs.Book.{reply_to, run}
use Rattle.dam_book.specs.declared.command.Command.{Command}
use Rattle.dam_results.specs.Journal.{ReadsAs}
use Rattle.dam_results.specs.Replies.{day_line, reply_line, replies_to}
use Rattle.dam_results.specs.Written.{written}
use Rattle.dam_store.specs.FileLines.{HaveNoNewline, has_byte, text_of, StandsFor}
use Rattle.dam_desk.specs.Answers.{fault_answer}
use Rattle.dam_desk.specs.InputLines.{IsMeaning}
use Rattle.dam_book.specs.Command.{is_journal_full}
use Rattle.dam_desk.specs.declared.fault.InputLineFault.TheVariants.{OtherDay, JournalFull, NotDay}
use Rattle.dam_desk.specs.declared.meaning.Meaning.{Meaning}
use Rattle.dam_desk.specs.declared.meaning.Meaning.TheVariants.{Day, Command as Commands, Fault}

-- a day, and the commands that were entered
pub record JournalContent : Type 0 where
  pub periods : ℕ
  pub commands : List Command

-- the periods of a journal, which a new file doesn't have yet
abbrev pub day_of : Option JournalContent → Option ℕ
day_of None = None
day_of (Some journal) = Some journal.periods

-- the text of the file's lines: the written journal
abbrev pub desk_journal_text : Option JournalContent → List ℕ
desk_journal_text None = []
desk_journal_text (Some journal) = written journal.periods journal.commands

-- the written journal reads back as the journal
abbrev pub ReadsBack : Option JournalContent → Type 0
ReadsBack None = Unit {0}
ReadsBack (Some journal) = ReadsAs (written journal.periods journal.commands) journal.periods journal.commands

-- the text that `dam replay` prints for the journal
abbrev pub desk_replies_text : Option JournalContent → List ℕ
desk_replies_text None = []
desk_replies_text (Some journal) = replies_to journal.periods journal.commands

-- the journal with one more command, if it has room for it
abbrev pub with_command : JournalContent → Command → JournalContent
with_command journal command =
    if is_journal_full (length journal.commands) command then journal
    else record { periods = journal.periods; commands = journal.commands ++ command ∷ [] }

-- the journal after a line of this meaning
abbrev pub journal_after_line : Option JournalContent → Meaning → Option JournalContent
journal_after_line None (Day periods) = Some (record { periods = periods; commands = [] })
journal_after_line (Some journal) (Commands command) = Some (with_command journal command)
journal_after_line journal meaning = journal

-- the answer to a command of this journal, given in the line of this number
abbrev pub command_answer : ℕ → JournalContent → Command → List ℕ
command_answer number journal command =
    if is_journal_full (length journal.commands) command then fault_answer number JournalFull
    else reply_line (length journal.commands + 1) (reply_to (run journal.periods journal.commands) command)

-- the answer to the line of this number, which has this meaning in this journal
abbrev pub answer_to : ℕ → Option JournalContent → Meaning → List ℕ
answer_to number None (Day periods) = day_line periods
answer_to number (Some journal) (Day periods) =
    if periods == journal.periods then day_line periods else fault_answer number OtherDay
answer_to number None (Commands command) = fault_answer number NotDay
answer_to number (Some journal) (Commands command) = command_answer number journal command
answer_to number journal (Fault fault) = fault_answer number fault

-- the number of lines that a desk has answered, and the journal that they made
pub record DeskState : Type 0 where
  pub answered : ℕ
  pub journal : Option JournalContent

-- the number of the next line
abbrev pub next : ℕ → ℕ
next answered = min (answered + 1) (2 ^ 64 - 1)

-- the state after a line of this meaning
abbrev pub state_after : DeskState → Meaning → DeskState
state_after state meaning = record { answered = next state.answered; journal = journal_after_line state.journal meaning }

-- the text has one answer to each line, in order, and this is the state after them
abbrev pub AreAnswers : DeskState → List (List ℕ) → List ℕ → DeskState → Type 0
AreAnswers state [] text last = (text ≡ []) × (last ≡ state)
AreAnswers state (line ∷ lines) text last =
    (meaning : Meaning) × IsMeaning (day_of state.journal) line meaning
    × (rest : List ℕ) × (text ≡ answer_to (next state.answered) state.journal meaning ++ rest)
    × AreAnswers (state_after state meaning) lines rest last

-- a line of this meaning enters something
abbrev pub enters : Option JournalContent → Meaning → Bool
enters None (Day periods) = true
enters (Some journal) (Commands command) = not (is_journal_full (length journal.commands) command)
enters journal meaning = false

-- the text has, of the answers to these lines, those to the lines that enter something
abbrev pub AreAnswersToEntered : DeskState → List (List ℕ) → List ℕ → Type 0
AreAnswersToEntered state [] text = text ≡ []
AreAnswersToEntered state (line ∷ lines) text =
    (meaning : Meaning) × IsMeaning (day_of state.journal) line meaning
    × (rest : List ℕ)
    × (text ≡ (if enters state.journal meaning then answer_to (next state.answered) state.journal meaning else []) ++ rest)
    × AreAnswersToEntered (state_after state meaning) lines rest

-- the bytes are these lines, each with its line feed, and then the beginning of another line
pub record AreLines (bytes : List ℕ) (lines : List (List ℕ)) (begun : List ℕ) : Type 0 where
  pub split : bytes ≡ text_of lines ++ begun
  pub whole : HaveNoNewline lines
  pub unended : has_byte 10 begun ≡ false

-- these are the first lines of the bytes
pub record FirstLines (bytes : List ℕ) (lines : List (List ℕ)) : Type 0 where
  pub rest : List ℕ
  pub split : bytes ≡ text_of lines ++ rest
  pub whole : HaveNoNewline lines

-- the file opens to this journal: its lines are the written journal, and read as it
abbrev pub OpensTo : Option JournalContent → List ℕ → Type 0
OpensTo journal file = (lines : List (List ℕ)) × StandsFor lines file × (text_of lines ≡ desk_journal_text journal) × ReadsBack journal
