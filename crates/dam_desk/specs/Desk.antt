-- A desk, as its contracts see it: what it prints, and what its file keeps through a crash.
use Rattle.std.specs.Prelude.{◌≡◌, ◌⊎◌, ℕ, List, [], ◌∷◌, ◌++◌, length, take, true, false, not, Option, Some, Result, IfOk, IfErr, IfSome, IsTrue, MatchResult, OnOk}
use Rattle.std.specs.Io.KnownBytes.{Appends, Consumes}
use Rattle.sqlite_disk.specs.declared.Disk.{Ghosts}
use Rattle.dam_book.specs.Book.{commands_of, entries_of, run, IsLegalHistory}
use Rattle.dam_book.specs.declared.command.Command.{Command}
use Rattle.dam_results.specs.Journal.{ReadsAs}
use Rattle.dam_results.specs.Replies.{replies_to}
use Rattle.dam_store.specs.FileLines.{StandsFor, stands_for, text_of}
use Rattle.dam_store.specs.Store.{disk_of, held_lines, is_broken, IsUntouched}
use Rattle.dam_store.specs.declared.store.Store.{Store}
use Rattle.dam_desk.specs.Answers.{fault_answer}
use Rattle.sqlite_disk.specs.Disk.{MoreFaults}
use Rattle.dam_desk.specs.Faults.{SaysCount, is_failed_call, is_failed_sync, is_failed_write, is_read, is_write, IsEndFault, IsOpenFault}
use Rattle.dam_desk.specs.DeskJournal.{JournalContent, DeskState, AreAnswers, AreLines, AreAnswersToEntered, FirstLines, OpensTo, ReadsBack, desk_journal_text, next, desk_replies_text}
use Rattle.dam_desk.specs.declared.desk.Desk.{Desk}
use Rattle.dam_desk.specs.declared.fault.DeskFault.{DeskFault}
use Rattle.dam_desk.specs.declared.fault.InputLineFault.TheVariants.{CutShort}
use Rattle.dam_desk.specs.inside.Intake.{IsIn}

-- the fault that ended an open desk, by its store before and after
abbrev pub IsEndFaultOf : {D : Type 0} {g : Ghosts D} → Store D g → Store D g → DeskFault → Type 0
IsEndFaultOf {D} {g} old new fault = IsEndFault (g.is_clean (disk_of new)) (g.faults (disk_of old)) (g.faults (disk_of new)) fault

-- whatever a crash leaves stands for these lines, and then for others that were given since, if any
abbrev pub KeepsLines : (List ℕ → Type 0) → List (List ℕ) → Type 0
KeepsLines outcomes lines = (file : List ℕ) → outcomes file → (more : List (List ℕ)) × StandsFor (lines ++ more) file

-- a crash may leave this file, and no wrong answer of the disk was taken as true
abbrev pub MayLeave : {D : Type 0} {g : Ghosts D} → Desk D g → List ℕ → Type 0
MayLeave {D} {g} desk file = IsTrue (g.is_clean (disk_of desk.store)) × g.may_leave (disk_of desk.store) file

-- the desk has this state and this beginning of a line, and the file has the state's journal, which reads as it
pub record IsDesk {D : Type 0} {g : Ghosts D} (desk : Desk D g) (state : DeskState) (begun : List ℕ) : Type 0 where
  pub intake : IsIn desk.intake state begun
  pub reads : ReadsBack state.journal
  pub file : IsTrue (g.is_clean (disk_of desk.store)) → text_of (held_lines desk.store) ≡ desk_journal_text state.journal

-- nothing was answered yet, and this is the journal
abbrev pub at_first : Option JournalContent → DeskState
at_first journal = record { answered = 0; journal = journal }

-- A desk that was opened on a disk and has answered nothing: it has the journal to which the file opened, and these are the replies to it,
-- as `dam replay` prints them.
pub record IsOpened {D : Type 0} {g : Ghosts D} (desk : Desk D g) (disk : D) (replies : List ℕ) : Type 0 where
  pub journal : Option JournalContent
  pub opens : IsTrue (g.is_clean (disk_of desk.store)) → OpensTo journal (g.seen disk)
  pub fresh : IsDesk desk (at_first journal) []
  pub same_replies : replies ≡ desk_replies_text journal

-- A desk wasn't opened on a disk, for this cause. If that is a failed call of the disk, one has failed, and else none. The file is as it
-- was, unless it opens to a journal and a write or a sync failed. Then it still stands for what it stood for, whatever a crash leaves.
pub record IsUnopened {D : Type 0} (g : Ghosts D) (old new : D) (why : DeskFault) : Type 0 where
  pub cause : IsTrue (g.is_clean new) → IsOpenFault (g.seen old) why
  pub failed : is_failed_call why ≡ true → MoreFaults (g.faults old) (g.faults new)
  pub none_failed : is_failed_call why ≡ false → g.faults new ≡ g.faults old
  pub no_stream : (is_read why ≡ false) × (is_write why ≡ false)
  pub untouched : is_failed_write why ≡ false → IsUntouched g old new
  pub no_journal : IsTrue (g.is_clean new) → ((journal : Option JournalContent) → ¬ (OpensTo journal (g.seen old))) → IsUntouched g old new
  pub crash : IsTrue (g.is_clean new) → (file : List ℕ) → g.may_leave new file
      → g.may_leave old file ⊎ (stands_for file ≡ stands_for (g.seen old))

-- Of the bytes that were given, all lines were answered, and their answers were written after the first text. The desk has the state
-- after them, and whatever a crash leaves opens to its journal.
pub record DeskHasAnswered {D : Type 0} {g : Ghosts D} (desk : Desk D g) (state : DeskState) (given first : List ℕ)
    (old new : Option (List ℕ)) : Type 0 where
  pub lines : List (List ℕ)
  pub begun : List ℕ
  pub split : AreLines given lines begun
  pub answers : List ℕ
  pub last : DeskState
  pub answered : AreAnswers state lines answers last
  pub written : Appends old new (first ++ answers)
  pub now : IsDesk desk last begun
  pub safe : (file : List ℕ) → MayLeave desk file → OpensTo last.journal file

-- The file opens to the journal after all lines of the bytes that were given.
pub record OpensAfter (state : DeskState) (given file : List ℕ) : Type 0 where
  pub lines : List (List ℕ)
  pub begun : List ℕ
  pub split : AreLines given lines begun
  pub answers : List ℕ
  pub last : DeskState
  pub answered : AreAnswers state lines answers last
  pub opens : OpensTo last.journal file

-- the answer to a line of this number that the input ends in; none if it has no bytes
abbrev pub end_answer : ℕ → List ℕ → List ℕ
end_answer number [] = []
end_answer number (byte ∷ bytes) = fault_answer number CutShort

-- the answer to the line in which the input ends after these lines, or nothing yet
abbrev pub IsEnding : List ℕ → List (List ℕ) → DeskState → List ℕ → Type 0
IsEnding given lines state text =
    (text ≡ []) ⊎ ((begun : List ℕ) × AreLines given lines begun × (text ≡ end_answer (next state.answered) begun))

-- The first lines of the bytes are safe, and the others may be: all of them, or none. Nothing was written but the first text, the answers
-- to the safe lines, and that to a line in which the input ended, or a beginning of these. Whatever a crash leaves opens to the journal
-- after the safe lines, or after the others too. This is why the desk ends.
pub record Served (state : DeskState) (given first : List ℕ) (why : DeskFault) (old new : Option (List ℕ)) (outcomes : List ℕ → Type 0)
    : Type 0 where
  pub safe : List (List ℕ)
  pub others : List (List ℕ)
  pub lines : FirstLines given (safe ++ others)
  pub whole : (others ≡ []) ⊎ AreLines given (safe ++ others) lines.rest
  pub answers : List ℕ
  pub middle : DeskState
  pub answered : AreAnswers state safe answers middle
  pub later : List ℕ
  pub last : DeskState
  pub unanswered : AreAnswers middle others later last
  pub ending : List ℕ
  pub ends : IsEnding given safe middle ending
  pub count : ℕ
  pub written : Appends old new (take count (first ++ (answers ++ ending)))
  pub counted : SaysCount count why
  pub crash : (file : List ℕ) → outcomes file → OpensTo middle.journal file ⊎ OpensTo last.journal file

-- All lines of the bytes that were given were answered, and whatever a crash leaves opens to the journal after them.
pub record LinesAreAnswered (state : DeskState) (given first : List ℕ) (old new : Option (List ℕ)) (outcomes : List ℕ → Type 0)
    : Type 0 where
  pub lines : List (List ℕ)
  pub begun : List ℕ
  pub split : AreLines given lines begun
  pub answers : List ℕ
  pub last : DeskState
  pub answered : AreAnswers state lines answers last
  pub written : Appends old new (first ++ answers)
  pub safe : (file : List ℕ) → outcomes file → OpensTo last.journal file

-- The input was answered, to its end: its lines, and the beginning of a line in which it ended. Whatever a crash leaves opens to the
-- journal after them.
pub record Finishes (state : DeskState) (given first : List ℕ) (old new : Option (List ℕ)) (outcomes : List ℕ → Type 0) : Type 0 where
  pub lines : List (List ℕ)
  pub begun : List ℕ
  pub split : AreLines given lines begun
  pub answers : List ℕ
  pub last : DeskState
  pub answered : AreAnswers state lines answers last
  pub written : Appends old new (first ++ (answers ++ end_answer (next last.answered) begun))
  pub safe : (file : List ℕ) → outcomes file → OpensTo last.journal file

-- A store after calls with this result, in which lines were appended to it. After a fault of a sync it can't be used any more.
pub record IsStoreAfter {D T : Type 0} {g : Ghosts D} (old new : Store D g) (result : Result T DeskFault) : Type 0 where
  pub ready : OnOk result (is_broken new ≡ false)
  pub no_fault : OnOk result (g.faults (disk_of new) ≡ g.faults (disk_of old))
  pub grown : OnOk result (IsTrue (g.is_clean (disk_of new)) → (more : List (List ℕ)) × (held_lines new ≡ held_lines old ++ more))
  pub clean : g.is_clean (disk_of new) ≡ g.is_clean (disk_of old)
  pub crash : IsTrue (g.is_clean (disk_of new)) → KeepsLines (g.may_leave (disk_of new)) (held_lines old)
  pub usable : MatchResult result
      (λ done. IsTrue (g.is_usable (disk_of new)))
      (λ fault. g.is_usable (disk_of new) ≡ not (is_failed_sync fault))

-- The answers to the lines that end in the bytes of a batch, which are the last ones of those given since the state. The result is the
-- length of the answers. A crash leaves the journal before these lines, or after all of them.
pub record ServesBatch {D : Type 0} {g : Ghosts D} (old new : Desk D g) (state : DeskState) (given : List ℕ) (printed now : Option (List ℕ))
    (result : Result ℕ DeskFault) : Type 0 where
  pub one_batch : (file : List ℕ) → MayLeave new file → OpensTo state.journal file ⊎ OpensAfter state given file
  pub answered : IfOk result (λ count. (done : DeskHasAnswered new state given [] printed now) × (count ≡ length done.answers))
  pub faulty : IfErr result (λ fault. Served state given [] fault printed now (MayLeave new))
  pub cause : IfErr result (IsEndFaultOf old.store new.store)

-- The first text and the answers to the lines of an input, which begins inside a line.
pub record ServesInput {D : Type 0} {g : Ghosts D} (old new : Desk D g) (state : DeskState) (begun first : List ℕ)
    (input left printed now : Option (List ℕ)) (result : Result (Unit {0}) DeskFault) : Type 0 where
  pub done : OnOk result ((given : List ℕ) × IfSome input (λ bytes. bytes ≡ given)
      × Finishes state (begun ++ given) first printed now (MayLeave new))
  pub answered : IfErr result (λ fault. is_read fault ≡ true → (given : List ℕ) × Consumes input left given
      × DeskHasAnswered new state (begun ++ given) first printed now)
  pub faulty : IfErr result (λ fault. (given : List ℕ) × Consumes input left given
      × Served state (begun ++ given) first fault printed now (MayLeave new))
  pub cause : IfErr result (IsEndFaultOf old.store new.store)

-- The entries of the journal are a legal history of its commands. However its text is read, `dam replay` prints the journal's replies, and
-- `dam clear` clears its book.
pub record IsLegalAndUnambiguous (journal : JournalContent) : Type 0 where
  pub legal : IsLegalHistory journal.periods (entries_of journal.periods journal.commands)
  pub entries : commands_of (entries_of journal.periods journal.commands) ≡ journal.commands
  pub one_reading : (periods : ℕ) (commands : List Command) → ReadsAs (desk_journal_text (Some journal)) periods commands
      → (replies_to periods commands ≡ desk_replies_text (Some journal))
      × (run periods commands ≡ run journal.periods journal.commands)

-- A file that opened to this journal was served to the end of the input. The replies among the answers, after the replies at the opening,
-- are those of the journal that is left.
pub record IsServedToTheEnd (journal : Option JournalContent) (given : List ℕ) (old new : Option (List ℕ)) (outcomes : List ℕ → Type 0)
    : Type 0 where
  pub finishes : Finishes (at_first journal) given (desk_replies_text journal) old new outcomes
  pub replies : List ℕ
  pub among : AreAnswersToEntered (at_first journal) finishes.lines replies
  pub replayed : desk_replies_text finishes.last.journal ≡ desk_replies_text journal ++ replies
  pub unambiguous : IfSome finishes.last.journal IsLegalAndUnambiguous
