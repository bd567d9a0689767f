-- A text and its front that is one byte longer than a journal may be: if one of them is short enough, they are equal.
use Rattle.std.proofs.Common.{◌≡◌, ◌≤◌, ℕ, true, min, List, Err, length, take, subst, arith}
use Rattle.std.proofs.lemmas.List.{take_all, length-take}
use Rattle.dam_book.specs.Book.{BookState}
use Rattle.dam_blocks.specs.Problem.{problem_of}
use Rattle.dam_plan.specs.Plan.{PlanTerms}
use Rattle.dam_search.specs.Search.{IsSearched}
use Rattle.dam_search.specs.declared.fault.SearchFault.{SearchFault}
use Rattle.dam_search.specs.declared.fault.SearchFault.TheVariants.{Memory as MemoryOfSearch, AnswerMissingOrRepeated as IsFaulty, Unfinished as IsCut}
use Rattle.dam_book.specs.declared.command.Command.{Command}
use Rattle.dam_results.specs.Limits.{most_bytes}
use Rattle.dam_results.specs.declared.journal_reading.JournalFault.{JournalFault}
use Rattle.dam_results.specs.declared.journal_reading.JournalFault.TheVariants.{TooLong, NotAscii, TooManyRecords, NotDay, FieldCount, BadField}
use Rattle.dam_results.specs.declared.journal_reading.JournalFault.TheVariants.{Memory as MemoryOfJournal}
use Rattle.dam_results.specs.Journal.{IsMadeFrom, ReadsAs}
use Rattle.dam_results.specs.Faults.{IsJournalFault}
use Rattle.dam_engines.specs.declared.fault.RunFault.{RunFault}
use Rattle.dam_engines.specs.declared.fault.RunFault.TheVariants.{Read, Input, TooManyCommands, CloseGiven, TooManyParticipants, StillOpen}
use Rattle.dam_engines.specs.declared.fault.RunFault.TheVariants.{Mismatch, Unfinished, AnswerMissingOrRepeated, Memory, Write}
use Rattle.dam_engines.specs.Engine.{most_read, IsRunFault, IsTextFault}
use Rattle.dam_engines.specs.Fault.{search_fault_of}
use Rattle.dam_engines.specs.Clear.{IsBookFault}

front-short : (given : List ℕ) → length (take most_read given) ≤ most_bytes → take most_read given ≡ given
front-short given short = take_all most_read given (omega (arith, short, length-take most_read given))

pub reads-given : (given : List ℕ) (periods : ℕ) (commands : List Command) → ReadsAs (take most_read given) periods commands
    → ReadsAs given periods commands
reads-given given periods commands reads = subst (λ text. ReadsAs text periods commands) (front-short given reads.short) reads

fault-given : (given : List ℕ) (fault : JournalFault) → IsJournalFault (take most_read given) fault → IsJournalFault given fault
fault-given given TooLong is = omega (arith, is, length-take most_read given)
fault-given given (NotAscii offset) is = subst (λ text. IsJournalFault text (NotAscii offset)) (front-short given is.0) is
fault-given given TooManyRecords is = subst (λ text. IsJournalFault text TooManyRecords) (front-short given is.0) is
fault-given given NotDay is = subst (λ text. IsJournalFault text NotDay) (front-short given is.0) is
fault-given given (FieldCount at) is = subst (λ text. IsJournalFault text (FieldCount at)) (front-short given is.0) is
fault-given given (BadField at field) is = subst (λ text. IsJournalFault text (BadField at field)) (front-short given is.0) is
fault-given given MemoryOfJournal is = subst (λ text. IsJournalFault text MemoryOfJournal) (front-short given is.0) is

-- a fault of the front is one of the text
pub text_fault-given : (given : List ℕ) (fault : RunFault) → IsTextFault (take most_read given) fault → IsTextFault given fault
text_fault-given given Read is = absurd is
text_fault-given given (Input why) is = (fault-given given why is.0, is.1)
text_fault-given given TooManyCommands is = absurd is
text_fault-given given (CloseGiven at) is = absurd is
text_fault-given given (TooManyParticipants at) is = absurd is
text_fault-given given StillOpen is = absurd is
text_fault-given given (Mismatch why) is = absurd is
text_fault-given given (Unfinished piece visited) is = absurd is
text_fault-given given (AnswerMissingOrRepeated piece) is = absurd is
text_fault-given given Memory is = tt
text_fault-given given (Write written) is = absurd is

-- a value made of the front's journal is made of the text's
pub made-given : {T : Type 0} (MadeOf : ℕ → List Command → T → Type 0) (given : List ℕ) (made : T)
    → IsMadeFrom MadeOf (take most_read given) made → IsMadeFrom MadeOf given made
made-given MadeOf given made is = (is.0, is.1, reads-given given is.0 is.1 is.2, is.3)

pub run_fault-given : (IsFault : ℕ → List Command → RunFault → Type 0) (given : List ℕ) (fault : RunFault)
    → IsRunFault IsFault (take most_read given) fault → IsRunFault IsFault given fault
run_fault-given IsFault given Read is = made-given IsFault given Read is
run_fault-given IsFault given (Input why) is = text_fault-given given (Input why) is
run_fault-given IsFault given TooManyCommands is = made-given IsFault given TooManyCommands is
run_fault-given IsFault given (CloseGiven at) is = made-given IsFault given (CloseGiven at) is
run_fault-given IsFault given (TooManyParticipants at) is = made-given IsFault given (TooManyParticipants at) is
run_fault-given IsFault given StillOpen is = made-given IsFault given StillOpen is
run_fault-given IsFault given (Mismatch why) is = made-given IsFault given (Mismatch why) is
run_fault-given IsFault given (Unfinished piece visited) is = made-given IsFault given (Unfinished piece visited) is
run_fault-given IsFault given (AnswerMissingOrRepeated piece) is = made-given IsFault given (AnswerMissingOrRepeated piece) is
run_fault-given IsFault given Memory is = tt
run_fault-given IsFault given (Write written) is = made-given IsFault given (Write written) is

-- a fault of reading a text is one of a run over it
pub text_fault-run : (IsFault : ℕ → List Command → RunFault → Type 0) (text : List ℕ) (fault : RunFault) → IsTextFault text fault
    → IsRunFault IsFault text fault
text_fault-run IsFault text Read is = absurd is
text_fault-run IsFault text (Input why) is = is
text_fault-run IsFault text TooManyCommands is = absurd is
text_fault-run IsFault text (CloseGiven at) is = absurd is
text_fault-run IsFault text (TooManyParticipants at) is = absurd is
text_fault-run IsFault text StillOpen is = absurd is
text_fault-run IsFault text (Mismatch why) is = absurd is
text_fault-run IsFault text (Unfinished piece visited) is = absurd is
text_fault-run IsFault text (AnswerMissingOrRepeated piece) is = absurd is
text_fault-run IsFault text Memory is = tt
text_fault-run IsFault text (Write written) is = absurd is

-- a fault of the commands of a text's journal is one of a run over the text, if it isn't one of an input
pub made_fault-run : (IsFault : ℕ → List Command → RunFault → Type 0) (text : List ℕ)
    → ((periods : ℕ) (commands : List Command) (why : JournalFault) → ¬ (IsFault periods commands (Input why)))
    → (fault : RunFault) → IsMadeFrom IsFault text fault → IsRunFault IsFault text fault
made_fault-run IsFault text none Read is = is
made_fault-run IsFault text none (Input why) is = absurd (none is.0 is.1 why is.3)
made_fault-run IsFault text none TooManyCommands is = is
made_fault-run IsFault text none (CloseGiven at) is = is
made_fault-run IsFault text none (TooManyParticipants at) is = is
made_fault-run IsFault text none StillOpen is = is
made_fault-run IsFault text none (Mismatch why) is = is
made_fault-run IsFault text none (Unfinished piece visited) is = is
made_fault-run IsFault text none (AnswerMissingOrRepeated piece) is = is
made_fault-run IsFault text none Memory is = tt
made_fault-run IsFault text none (Write written) is = is

-- the answer of the search of a closed book's problem is the answer for the book
pub search_fault-book : (plan : PlanTerms) (book : BookState) (fault : SearchFault) → book.closed ≡ true
    → IsSearched (problem_of book) (min plan.cut (length (problem_of book).blocks)) plan.node_limit (Err fault)
    → IsBookFault plan book (search_fault_of fault)
search_fault-book plan book MemoryOfSearch closed searched = tt
search_fault-book plan book (IsFaulty piece) closed searched = absurd searched
search_fault-book plan book (IsCut piece visited) closed searched = record { closed = closed; unfinished = searched }
