-- The lines that have come to a desk since its batch began.
use Rattle.std.specs.Prelude.{◌≡◌, ℕ, Bool, true, false, List, [], ◌++◌, Option, None, Some}
use Rattle.std.specs.List.{flat_map}
use Rattle.dam_book.specs.Book.{commands_of}
use Rattle.dam_book.specs.declared.command.Command.{Command}
use Rattle.dam_results.specs.Written.{command_line, written}
use Rattle.dam_store.specs.FileLines.{HaveNoNewline, has_byte, text_of}
use Rattle.dam_desk.specs.InputLines.{IsMeaning, kept_bytes}
use Rattle.dam_desk.specs.DeskJournal.{JournalContent, DeskState, AreAnswers, ReadsBack, answer_to, day_of, journal_after_line, desk_journal_text, next, desk_replies_text}
use Rattle.dam_desk.specs.inside.DeskDay.{IsDayWith}
use Rattle.dam_desk.specs.declared.desk_day.DeskDay.{DeskDay}
use Rattle.dam_desk.specs.declared.meaning.Meaning.{Meaning}
use Rattle.dam_desk.specs.declared.intake.Intake.{Intake}

-- the periods of the day, if there is one
abbrev pub periods_of : Option DeskDay → Option ℕ
periods_of None = None
periods_of (Some day) = Some day.periods

-- the day and its book are those of the journal
abbrev pub HasJournal : Option DeskDay → Option JournalContent → Type 0
HasJournal None None = Unit {0}
HasJournal (Some day) (Some journal) = IsDayWith day journal.periods journal.commands
HasJournal day journal = ⊥

-- the day and the replies are those of the journal with this text
pub record IsReplayOf (text : List ℕ) (day : Option DeskDay) (replies : List ℕ) : Type 0 where
  pub journal : Option JournalContent
  pub reads : ReadsBack journal
  pub same_text : text ≡ desk_journal_text journal
  pub has : HasJournal day journal
  pub same_replies : replies ≡ desk_replies_text journal

-- the records of these commands, after the record of the day if that begins with them
abbrev pub records_text : Option DeskDay → Bool → List Command → List ℕ
records_text None begins commands = []
records_text (Some day) true commands = written day.periods commands
records_text (Some day) false commands = flat_map command_line commands

-- the records that the batch enters
abbrev pub entered_text : Intake → List ℕ
entered_text intake = records_text intake.day intake.begins (commands_of intake.entries.items)

-- the intake has this journal, whose text is this one before the batch, and then the records of the batch
pub record IsAt (intake : Intake) (before : List ℕ) (journal : Option JournalContent) : Type 0 where
  pub day : HasJournal intake.day journal
  pub text : before ++ entered_text intake ≡ desk_journal_text journal

-- the line of this number, which has this meaning, was answered
pub record Answered (old new : Intake) (before : List ℕ) (journal : Option JournalContent) (meaning : Meaning) : Type 0 where
  pub answer : new.answers.items ≡ old.answers.items ++ answer_to old.answered journal meaning
  pub at : IsAt new before (journal_after_line journal meaning)

-- the intake has this state, between two batches or at the end of one, and this beginning of a line
pub record IsIn (intake : Intake) (state : DeskState) (begun : List ℕ) : Type 0 where
  pub answered : intake.answered ≡ state.answered
  pub day : HasJournal intake.day state.journal
  pub line : intake.line ≡ kept_bytes begun
  pub unended : has_byte 10 begun ≡ false

-- of the bytes that were given, the last ones are left, and the lines of the others are answered
pub record HasRead (intake : Intake) (state : DeskState) (given left : List ℕ) : Type 0 where
  pub lines : List (List ℕ)
  pub begun : List ℕ
  pub last : DeskState
  pub split : given ≡ text_of lines ++ (begun ++ left)
  pub whole : HaveNoNewline lines
  pub answers : AreAnswers state lines intake.answers.items last
  pub now : IsIn intake last begun
  pub text : desk_journal_text state.journal ++ entered_text intake ≡ desk_journal_text last.journal

-- the line that has come was answered by its meaning, as the next line
pub record TakesLine (old new : Intake) (before : List ℕ) (journal : Option JournalContent) (text : List ℕ) : Type 0 where
  pub meaning : Meaning
  pub means : IsMeaning (day_of journal) text meaning
  pub answer : new.answers.items ≡ old.answers.items ++ answer_to (next old.answered) journal meaning
  pub at : IsAt new before (journal_after_line journal meaning)
