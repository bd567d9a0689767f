-- The text that the engine of a day prints for a journal's commands, and the engine's faults.
use Rattle.std.specs.Prelude.{◌≡◌, ◌+◌, ◌++◌, ℕ, List, codes}
use Rattle.dam_book.specs.Book.{run, commands_of}
use Rattle.dam_book.specs.declared.command.Command.{Command}
use Rattle.dam_book.specs.declared.command.Entry.{Entry}
use Rattle.dam_gate.specs.Day.{AreTaken, IsDayFault, IsDayRun}
use Rattle.dam_gate.specs.declared.day.DayFault.TheVariants.{TooManyCommands as ManyCommands, CloseGiven as CloseAt}
use Rattle.dam_gate.specs.declared.day.DayFault.TheVariants.{TooManyParticipants as ManyAt}
use Rattle.dam_plan.specs.Plan.{PlanTerms}
use Rattle.dam_results.specs.Written.{journal_text}
use Rattle.dam_engines.specs.declared.fault.RunFault.{RunFault}
use Rattle.dam_engines.specs.declared.fault.RunFault.TheVariants.{TooManyCommands, CloseGiven, TooManyParticipants, Unfinished}
use Rattle.dam_engines.specs.declared.fault.RunFault.TheVariants.{Memory}
use Rattle.dam_engines.specs.Clear.{IsClearedWithin, IsCutShort}

-- the written journal, the line `results`, and this text of results
abbrev pub with_results : ℕ → List Entry → List ℕ → List ℕ
with_results periods entries results =
    journal_text periods entries ++ (codes "results\n" ++ results)

-- a day takes the commands, and this is printed of some day run of them: its written journal, the line `results`,
-- and the results text of its book, within the plan's limit on nodes
pub record IsDayText (plan : PlanTerms) (periods : ℕ) (commands : List Command) (text : List ℕ) : Type 0 where
  pub taken : AreTaken commands
  pub entries : List Entry
  pub day_run : IsDayRun periods commands entries
  pub results : List ℕ
  pub cleared : IsClearedWithin plan (run periods (commands_of entries)) results
  pub text_is : text ≡ with_results periods entries results

-- a day takes the commands, and of the book that some day run of them makes the search by this plan could not
-- finish this piece within its limit on nodes
pub record IsDayCutShort (plan : PlanTerms) (periods : ℕ) (commands : List Command)
    (piece visited : ℕ) : Type 0 where
  pub taken : AreTaken commands
  pub entries : List Entry
  pub day_run : IsDayRun periods commands entries
  pub cut : IsCutShort plan (run periods (commands_of entries)) piece visited

-- the number of the record of the command at this place: places are counted from 0, records from 1, and the first is the day
abbrev pub record_number : ℕ → ℕ
record_number place = place + 2

-- how a day of commands can fail: a day doesn't take them, for this reason; it takes them, and the search of its book didn't
-- finish, if that can be; or memory ran out
abbrev pub IsCommandsFault : PlanTerms → ℕ → List Command → RunFault → Type 0
IsCommandsFault plan periods commands TooManyCommands = IsDayFault commands ManyCommands
IsCommandsFault plan periods commands (CloseGiven at) =
    (place : ℕ) × (at ≡ record_number place) × IsDayFault commands (CloseAt place)
IsCommandsFault plan periods commands (TooManyParticipants at) =
    (place : ℕ) × (at ≡ record_number place) × IsDayFault commands (ManyAt place)
IsCommandsFault plan periods commands (Unfinished piece visited) =
    IsDayCutShort plan periods commands piece visited
IsCommandsFault plan periods commands Memory = Unit {0}
IsCommandsFault plan periods commands fault = ⊥
