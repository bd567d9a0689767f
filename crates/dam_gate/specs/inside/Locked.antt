-- The state under the lock, and why it gives no pass.
use Rattle.std.specs.Prelude.{ℕ, ◌<◌, ◌≤◌}
use Rattle.dam_book.specs.declared.command.Command.{Command}
use Rattle.dam_book.specs.declared.command.Entry.{Entry}
use Rattle.dam_book.specs.declared.command.Reply.{Reply}
use Rattle.dam_gate.specs.declared.gate.PassFault.{PassFault}
use Rattle.dam_gate.specs.declared.gate.PassFault.TheVariants.{PassesUsed, NoPlace, Memory}
use Rattle.dam_gate.specs.Journal.{JournalState}

-- the journal, and how many passes were given
pub record LockedState : Type 0 where
  pub journal : JournalState
  pub passes : ℕ

-- the faults that may be answered in place of a pass if, of this many, this number was given
abbrev pub IsPassFault : ℕ → ℕ → PassFault → Type 0
IsPassFault most given PassesUsed = most ≤ given
IsPassFault most given NoPlace = given < most
IsPassFault most given Memory = given < most

-- the entry of the command, with this number and this reply
abbrev pub entry_of : Command → ℕ × Reply → Entry
entry_of c answer = record { number = answer.0; command = c; reply = answer.1 }
