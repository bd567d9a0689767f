-- The status that the program ends with, and its answer to words that ask for no job.
use Rattle.std.specs.Prelude.{◌≡◌, ◌⊎◌, ℕ, true, false, List, Result, Ok, Err}
use Rattle.std.specs.Io.KnownBytes.{Appends}
use Rattle.std.specs.String.{string_bytes}
use Rattle.dam_device.specs.Device.{IsFlushedOnce, SinkState}
use Rattle.dam_device.specs.declared.words.WordsFault.{WordsFault}
use Rattle.dam_device.specs.declared.words.WordsFault.TheVariants as words
use Rattle.dam_line.specs.Line.{IsLineFault}
use Rattle.dam_line.specs.declared.line.LineFault.{LineFault}
use Rattle.dam_line.specs.declared.line.LineFault.TheVariants.{Refused, Memory}
use Rattle.dam_engines.specs.declared.fault.RunFault.{RunFault}
use Rattle.dam_engines.specs.Fault.{fault_status}

-- the status of a run: 0 without a fault, and with one the fault's
abbrev pub run_status : Result (Unit {0}) RunFault → ℕ
run_status (Ok done) = 0
run_status (Err fault) = fault_status fault

-- the status if the program's words aren't read: 2 if one of them isn't UTF-8, 4 if memory ran out
abbrev pub words_status : WordsFault → ℕ
words_status words.NotUtf8 = 2
words_status words.Memory = 4

-- the help was written and flushed, and the status is 0; or the writer failed, and it is 4
abbrev pub IsHelp : {W : Type 0} → List ℕ → SinkState W → SinkState W → ℕ → Type 0
IsHelp help old new status =
    ((status ≡ 0) × Appends old.taken new.taken help × IsFlushedOnce old new) ⊎ ((status ≡ 4) × (new.failed ≡ true))

-- the answer to words that ask for no job: the help, or without a call of the writer the status 2 for a refusal, and 4 if memory ran out
abbrev pub IsAnswered : {W : Type 0} → LineFault → SinkState W → SinkState W → ℕ → Type 0
IsAnswered (Refused true text) old new status = IsHelp (string_bytes text) old new status
IsAnswered (Refused false text) old new status = (status ≡ 2) × (new ≡ old)
IsAnswered Memory old new status = (status ≡ 4) × (new ≡ old)

-- the answer to words that ask for no job, or for which memory ran out
pub record IsUnasked {W : Type 0} (words : List (List ℕ)) (old new : SinkState W) (status : ℕ) : Type 0 where
  pub fault : LineFault
  pub words_are : IsLineFault words fault
  pub answered : IsAnswered fault old new status
