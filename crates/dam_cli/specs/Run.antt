-- How the run of a job ends, and the program.
use Rattle.std.specs.Prelude.{◌≡◌, ◌≤◌, ◌⊎◌, ◌+◌, ◌-◌, ℕ, List, Option, IfSome, Result}
use Rattle.dam_line.specs.Line.{AsksFor}
use Rattle.dam_line.specs.declared.line.Job.{Job}
use Rattle.dam_line.specs.declared.line.Job.TheVariants.{Replay, Clear, Day}
use Rattle.dam_results.specs.Journal.{IsMadeFrom}
use Rattle.dam_results.specs.Replies.{AreReplies}
use Rattle.dam_engines.specs.declared.fault.RunFault.{RunFault}
use Rattle.dam_engines.specs.Engine.{Ends, IsRunFault, IsTextFault}
use Rattle.dam_engines.specs.Clear.{AreResultsWithin, IsClearFault}
use Rattle.dam_engines.specs.Day.{IsCommandsFault, IsDayText}
use Rattle.dam_device.specs.Device.{SourceState, SinkState}
use Rattle.dam_engines.specs.Device.{AreDevicesAfter, most_asked}
use Rattle.dam_cli.specs.Status.{IsUnasked, run_status}

-- how the run of a job over the given bytes ends: as the engine of that job may end, under the job's plan
abbrev pub EndsAs : Job → List ℕ → Option (List ℕ) → Option (List ℕ) → ℕ → Result (Unit {0}) RunFault → Type 0
EndsAs Replay given = Ends (IsMadeFrom AreReplies given) (IsTextFault given)
EndsAs (Clear plan) given = Ends (IsMadeFrom (AreResultsWithin plan) given) (IsRunFault (IsClearFault plan) given)
EndsAs (Day plan) given = Ends (IsMadeFrom (IsDayText plan) given) (IsRunFault (IsCommandsFault plan) given)

-- the words ask for a job, and its run took the devices from their old to their new states and ended with this status
pub record RunsAsked {R W : Type 0} (words : List (List ℕ)) (reader_old reader_new : SourceState R) (writer_old writer_new : SinkState W)
    (status : ℕ) : Type 0 where
  pub job : Job
  pub asked : AsksFor words job
  pub done : Result (Unit {0}) RunFault
  pub ends : IfSome reader_old.unread (λ given. EndsAs job given writer_old.taken writer_new.taken (writer_new.asked - writer_old.asked)
      done)
  pub devices : AreDevicesAfter reader_old reader_new writer_old writer_new done
  pub reads : reader_new.asked ≤ reader_old.asked + most_asked reader_old.unread
  pub status_is : status ≡ run_status done

-- how the program ends that is started with these words: as the run of the job that they ask for, or if they ask for none or memory
-- runs out before, with their answer and the reader as it was
abbrev pub EndsAsAsked : {R W : Type 0} → List (List ℕ) → SourceState R → SourceState R → SinkState W → SinkState W → ℕ → Type 0
EndsAsAsked words reader_old reader_new writer_old writer_new status =
    RunsAsked words reader_old reader_new writer_old writer_new status
    ⊎ (IsUnasked words writer_old writer_new status × (reader_new ≡ reader_old))
