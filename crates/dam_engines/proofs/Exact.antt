-- The end of a run over a journal's text is stated of that journal, since the text is no other one and has no fault.
use Rattle.std.proofs.Common.{◌≡◌, ℕ, List, Option, Result, subst}
use Rattle.dam_book.specs.declared.command.Command.{Command}
use Rattle.dam_plan.specs.Plan.{PlanTerms}
use Rattle.dam_results.specs.declared.journal_reading.JournalFault.{JournalFault}
use Rattle.dam_results.specs.declared.journal_reading.JournalFault.TheVariants.{Memory as MemoryOfJournal}
use Rattle.dam_results.specs.Faults.{IsJournalFault}
use Rattle.dam_results.specs.Journal.{IsMadeFrom, ReadsAs}
use Rattle.dam_results.specs.Replies.{AreReplies}
use Rattle.dam_engines.specs.declared.fault.RunFault.{RunFault}
use Rattle.dam_engines.specs.declared.fault.RunFault.TheVariants.{Read, Input, TooManyCommands, CloseGiven, TooManyParticipants, StillOpen}
use Rattle.dam_engines.specs.declared.fault.RunFault.TheVariants.{Mismatch, Unfinished, AnswerMissingOrRepeated, Memory, Write}
use Rattle.dam_engines.specs.Engine.{Ends, IsRunFault, IsTextFault}
use Rattle.dam_engines.specs.Clear.{AreResultsWithin, IsClearFault}
use Rattle.dam_engines.specs.Day.{IsCommandsFault, IsDayText}
use Rattle.dam_engines.proofs.Runs.{result-weaker}

-- the laws of the journal that a text reads as
pub record AreRead : Type 0 where
  pub one : (text : List ℕ) (periods others : ℕ) (commands more : List Command) → ReadsAs text periods commands → ReadsAs text others more
      → (periods ≡ others) × (commands ≡ more)
  pub sound : (text : List ℕ) (fault : JournalFault) (periods : ℕ) (commands : List Command) → IsJournalFault text fault
      → ReadsAs text periods commands → fault ≡ MemoryOfJournal

-- a value made of a text's journal is made of this one
made-one : {T : Type 0} → AreRead → (MadeOf : ℕ → List Command → T → Type 0) (text : List ℕ) (periods : ℕ) (commands : List Command)
    → ReadsAs text periods commands
    → (made : T) → IsMadeFrom MadeOf text made → MadeOf periods commands made
made-one law MadeOf text periods commands reads made is =
    let same = law.one text is.0 periods is.1 commands is.2 reads in
    subst (λ n. MadeOf n commands made) same.0 (subst (λ cs. MadeOf is.0 cs made) same.1 is.3)

replay-fault : AreRead → (text : List ℕ) (periods : ℕ) (commands : List Command) → ReadsAs text periods commands
    → (fault : RunFault) → IsTextFault text fault → fault ≡ Memory
replay-fault law text periods commands reads Read is = absurd is
replay-fault law text periods commands reads (Input why) is = absurd (is.1 (law.sound text why periods commands is.0 reads))
replay-fault law text periods commands reads TooManyCommands is = absurd is
replay-fault law text periods commands reads (CloseGiven at) is = absurd is
replay-fault law text periods commands reads (TooManyParticipants at) is = absurd is
replay-fault law text periods commands reads StillOpen is = absurd is
replay-fault law text periods commands reads (Mismatch why) is = absurd is
replay-fault law text periods commands reads (Unfinished piece visited) is = absurd is
replay-fault law text periods commands reads (AnswerMissingOrRepeated piece) is = absurd is
replay-fault law text periods commands reads Memory is = λ i. Memory
replay-fault law text periods commands reads (Write written) is = absurd is

run-fault : AreRead → (IsFault : ℕ → List Command → RunFault → Type 0) (text : List ℕ) (periods : ℕ) (commands : List Command)
    → ReadsAs text periods commands
    → IsFault periods commands Memory → (fault : RunFault) → IsRunFault IsFault text fault → IsFault periods commands fault
run-fault law IsFault text periods commands reads memory Read is = made-one law IsFault text periods commands reads Read is
run-fault law IsFault text periods commands reads memory (Input why) is = absurd (is.1 (law.sound text why periods commands is.0 reads))
run-fault law IsFault text periods commands reads memory TooManyCommands is =
    made-one law IsFault text periods commands reads TooManyCommands is
run-fault law IsFault text periods commands reads memory (CloseGiven at) is = made-one law IsFault text periods commands reads
    (CloseGiven at) is
run-fault law IsFault text periods commands reads memory (TooManyParticipants at) is = made-one law IsFault text periods commands reads
    (TooManyParticipants at) is
run-fault law IsFault text periods commands reads memory StillOpen is = made-one law IsFault text periods commands reads StillOpen is
run-fault law IsFault text periods commands reads memory (Mismatch why) is = made-one law IsFault text periods commands reads
    (Mismatch why) is
run-fault law IsFault text periods commands reads memory (Unfinished piece visited) is = made-one law IsFault text periods commands reads
    (Unfinished piece visited) is
run-fault law IsFault text periods commands reads memory (AnswerMissingOrRepeated piece) is = made-one law IsFault text periods commands reads
    (AnswerMissingOrRepeated piece) is
run-fault law IsFault text periods commands reads memory Memory is = memory
run-fault law IsFault text periods commands reads memory (Write written) is = made-one law IsFault text periods commands reads
    (Write written) is

pub replay-exact : AreRead → (text : List ℕ) (periods : ℕ) (commands : List Command) (old new : Option (List ℕ)) (asked : ℕ)
    (result : Result (Unit {0}) RunFault)
    → ReadsAs text periods commands → Ends (IsMadeFrom AreReplies text) (IsTextFault text) old new asked result → Ends
    (AreReplies periods commands) (λ fault. fault ≡ Memory) old new asked result
replay-exact law text periods commands old new asked result reads =
    result-weaker (IsMadeFrom AreReplies text) (AreReplies periods commands) (IsTextFault text) (λ fault. fault ≡ Memory) old new asked
    (made-one law AreReplies text periods commands reads) (replay-fault law text periods commands reads) result

pub clearing-exact : AreRead → (plan : PlanTerms) (text : List ℕ) (periods : ℕ) (commands : List Command) (old new : Option (List ℕ))
    (asked : ℕ) (result : Result (Unit {0}) RunFault)
    → ReadsAs text periods commands
    → Ends (IsMadeFrom (AreResultsWithin plan) text) (IsRunFault (IsClearFault plan) text) old new asked result
    → Ends (AreResultsWithin plan periods commands) (IsClearFault plan periods commands) old new asked result
clearing-exact law plan text periods commands old new asked result reads =
    result-weaker (IsMadeFrom (AreResultsWithin plan) text) (AreResultsWithin plan periods commands) (IsRunFault (IsClearFault plan) text)
    (IsClearFault plan periods commands) old new asked
    (made-one law (AreResultsWithin plan) text periods commands reads) (run-fault law (IsClearFault plan) text periods commands reads tt) result

pub day-exact : AreRead → (plan : PlanTerms) (text : List ℕ) (periods : ℕ) (commands : List Command) (old new : Option (List ℕ)) (asked : ℕ)
    (result : Result (Unit {0}) RunFault)
    → ReadsAs text periods commands
    → Ends (IsMadeFrom (IsDayText plan) text) (IsRunFault (IsCommandsFault plan) text) old new asked result
    → Ends (IsDayText plan periods commands) (IsCommandsFault plan periods commands) old new asked result
day-exact law plan text periods commands old new asked result reads =
    result-weaker (IsMadeFrom (IsDayText plan) text) (IsDayText plan periods commands) (IsRunFault (IsCommandsFault plan) text)
    (IsCommandsFault plan periods commands) old new asked
    (made-one law (IsDayText plan) text periods commands reads) (run-fault law (IsCommandsFault plan) text periods commands reads tt) result
