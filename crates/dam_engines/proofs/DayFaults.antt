-- A fault of a day's book is one of the day's commands.
use Rattle.std.proofs.Common.{◌≡◌, ℕ, Bool, true, false, List, [], ◌∷◌, ◌++◌, Result, IfErr, subst, sym, ap, ◌∙◌, refl}
use Rattle.std.proofs.lemmas.Result.{IfErr-weaker}
use Rattle.dam_book.specs.Book.{BookState, book_after, commands_of, run, run_from}
use Rattle.dam_book.specs.declared.command.Command.{Command}
use Rattle.dam_book.specs.declared.command.Command.TheVariants.{Close}
use Rattle.dam_book.specs.declared.command.Entry.{Entry}
use Rattle.dam_gate.specs.Journal.{IsJournal, JournalState}
use Rattle.dam_gate.specs.Day.{AreTaken, IsDayRun}
use Rattle.dam_plan.specs.Plan.{PlanTerms}
use Rattle.dam_engines.specs.declared.fault.RunFault.{RunFault}
use Rattle.dam_engines.specs.declared.fault.RunFault.TheVariants.{Read, Input, TooManyCommands, CloseGiven, TooManyParticipants, StillOpen}
use Rattle.dam_engines.specs.declared.fault.RunFault.TheVariants.{Mismatch, Unfinished, AnswerMissingOrRepeated, Memory, Write}
use Rattle.dam_engines.specs.Clear.{IsBookFault}
use Rattle.dam_engines.specs.Day.{IsCommandsFault}

-- a close closes any book
closed-behind : (periods : ℕ) (rows : _) (closed : Bool) →
    (book_after (record { periods = periods; rows = rows; closed = closed }) Close).closed ≡ true
closed-behind periods rows true = refl
closed-behind periods rows false = refl

closed-last : (before : List Command) (b : BookState) → (run_from b (before ++ Close ∷ [])).closed ≡ true
closed-last [] b = closed-behind b.periods b.rows b.closed
closed-last (c ∷ cs) b = closed-last cs (book_after b c)

day_run-closed : (periods : ℕ) (commands : List Command) (entries : List Entry) → IsDayRun periods commands entries →
    (run periods (commands_of entries)).closed ≡ true
day_run-closed periods commands entries day =
    subst (λ cs. (run periods cs).closed ≡ true) (sym day.close_last) (closed-last day.before _)

-- the answer for the book of a day run is the answer for its commands
book_fault-day : (plan : PlanTerms) (periods : ℕ) (commands : List Command) (entries : List Entry) (fault : RunFault)
    → AreTaken commands → IsDayRun periods commands entries → IsBookFault plan (run periods (commands_of entries)) fault
    → IsCommandsFault plan periods commands fault
book_fault-day plan periods commands entries Read taken day is = absurd is
book_fault-day plan periods commands entries (Input fault) taken day is = absurd is
book_fault-day plan periods commands entries TooManyCommands taken day is = absurd is
book_fault-day plan periods commands entries (CloseGiven at) taken day is = absurd is
book_fault-day plan periods commands entries (TooManyParticipants at) taken day is = absurd is
book_fault-day plan periods commands entries StillOpen taken day is = let both : false ≡ true = sym is
    ∙ day_run-closed periods commands entries day in absurd (cc)
book_fault-day plan periods commands entries (Mismatch why) taken day is = absurd is
book_fault-day plan periods commands entries (Unfinished piece visited) taken day is =
    record { taken = taken; entries = entries; day_run = day; cut = is }
book_fault-day plan periods commands entries (AnswerMissingOrRepeated piece) taken day is = absurd is
book_fault-day plan periods commands entries Memory taken day is = tt
book_fault-day plan periods commands entries (Write written) taken day is = absurd is

pub journal_fault-day : {X : Type 0} (plan : PlanTerms) (periods : ℕ) (commands : List Command) (j : JournalState)
    (result : Result X RunFault)
    → AreTaken commands → IsDayRun periods commands j.entries → IsJournal j → j.book.periods ≡ periods
    → IfErr result (IsBookFault plan j.book) → IfErr result (IsCommandsFault plan periods commands)
journal_fault-day plan periods commands j result taken day journal same told =
    let book : j.book ≡ run periods (commands_of j.entries) = journal.book_is ∙ ap (λ n. run n (commands_of j.entries)) same in
    IfErr-weaker result _ _ (λ fault is. book_fault-day plan periods commands j.entries fault taken day
    (subst (λ b. IsBookFault plan b fault) book is)) told
