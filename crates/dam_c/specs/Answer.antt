-- The answer of an export, and the caller's buffer after it.
use Rattle.std.specs.Prelude.{◌≡◌, ◌⊎◌, ℕ, List, ◌++◌, length, take, drop, codes}
use Rattle.dam_engines.specs.declared.fault.RunFault.{RunFault}
use Rattle.dam_engines.specs.Fault.{fault_status, fault_text}
use Rattle.dam_c.specs.declared.answer.DamAnswer.{DamAnswer}

-- the buffer begins with the text, or with as much of it as it has room for, and is as before after that; and this is the length
-- of the whole text
pub record HoldsText (old new : List ℕ) (whole : ℕ) (text : List ℕ) : Type 0 where
  pub whole_is : whole ≡ length text
  pub room : length new ≡ length old
  pub front : take (length text) new ≡ take (length old) text
  pub rest : drop (length text) new ≡ drop (length text) old

-- the status is 0, and the buffer holds a text that may be printed
pub record IsDone (IsPrinted : List ℕ → Type 0) (answer : DamAnswer) (old new : List ℕ) : Type 0 where
  pub status : answer.status ≡ 0
  pub text : List ℕ
  pub printed : IsPrinted text
  pub holds : HoldsText old new answer.length text

-- the status is the status of a fault that may be answered, and the buffer holds its line
pub record IsFailed (IsFault : RunFault → Type 0) (answer : DamAnswer) (old new : List ℕ) : Type 0 where
  pub fault : RunFault
  pub is : IsFault fault
  pub status : answer.status ≡ fault_status fault
  pub holds : HoldsText old new answer.length (fault_text fault ++ codes "\n")

-- a call with this buffer returns one of the two
abbrev pub IsReturned : (List ℕ → Type 0) → (RunFault → Type 0) → DamAnswer → List ℕ → List ℕ → Type 0
IsReturned IsPrinted IsFault answer old new = IsDone IsPrinted answer old new ⊎ IsFailed IsFault answer old new
