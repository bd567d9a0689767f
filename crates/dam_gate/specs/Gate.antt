-- The answers of the gate.
use Rattle.std.specs.Prelude.{◌≡◌, ℕ, ◌<◌, ◌≤◌, true, false, List, [], ◌∷◌, ◌++◌, length}
use mathlib.Core.List.{IsPrefix}
use Rattle.dam_book.specs.Book.{Key, run, commands_of, is_day, order_at}
use Rattle.dam_book.specs.Limits.{most_entries}
use Rattle.dam_book.specs.declared.command.Command.{Command}
use Rattle.dam_book.specs.declared.command.Entry.{Entry}
use Rattle.dam_gate.specs.declared.keeper.BeginFault.{BeginFault}
use Rattle.dam_gate.specs.declared.keeper.BeginFault.TheVariants.{BadDay, Memory as BeginMemory}
use Rattle.dam_gate.specs.declared.keeper.KeeperFault.{KeeperFault}
use Rattle.dam_gate.specs.declared.keeper.KeeperFault.TheVariants.{JournalFull as KeeperFull, Memory as KeeperMemory}
use Rattle.dam_gate.specs.declared.gate.GateFault.{GateFault}
use Rattle.dam_gate.specs.declared.gate.GateFault.TheVariants.{NotYours, JournalFull, Memory, Stopped}
use Rattle.dam_gate.specs.declared.pass.Look.{Look}
use Rattle.dam_gate.specs.Journal.{IsHistory}
use Rattle.dam_book.specs.Command.{is_journal_full}
use Rattle.dam_gate.specs.Pass.{AccountState, Knowledge, after_call, is_own}

-- the faults that may be answered in place of a keeper or a gate of a day with this number of
-- periods
abbrev pub IsBeginFault : ℕ → BeginFault → Type 0
IsBeginFault periods BadDay = is_day periods ≡ false
IsBeginFault periods BeginMemory = is_day periods ≡ true

-- the faults that a journal of `held` entries may answer to the command in place of its entry
abbrev pub IsKeeperFault : ℕ → Command → KeeperFault → Type 0
IsKeeperFault held c (KeeperFull n) = (n ≡ held) × (is_journal_full held c ≡ true)
IsKeeperFault held c KeeperMemory = is_journal_full held c ≡ false

-- the gate's fault for one of its keeper
abbrev pub gate_fault_of : KeeperFault → GateFault
gate_fault_of (KeeperFull n) = JournalFull n
gate_fault_of KeeperMemory = Memory

-- the faults that a gate may answer to the command of a pass in place of its entry: the pass may not give it; or, if it
-- may, a journal of as many entries is full for it, memory ran out, or the gate has stopped. Other threads may
-- change the journal, so this doesn't mention one, and doesn't say that there was room if one of the last two is the
-- answer
abbrev pub IsGateFault : AccountState → Command → GateFault → Type 0
IsGateFault p c NotYours = is_own p.holder c ≡ false
IsGateFault p c (JournalFull held) = (is_own p.holder c ≡ true) × (held ≤ most_entries) × (is_journal_full held c ≡ true)
IsGateFault p c Memory = is_own p.holder c ≡ true
IsGateFault p c Stopped = is_own p.holder c ≡ true

-- the history is one that a journal of a day with this number of periods may hold; it ends with the entry, and before
-- that begins with all that the pass had seen and learnt of
pub record IsAnswered (periods : ℕ) (k : Knowledge) (history : List Entry) (e : Entry) : Type 0 where
  pub before : List Entry
  pub legal : IsHistory periods history
  pub last : history ≡ before ++ e ∷ []
  pub number : e.number ≡ length history
  pub seen : IsPrefix k.history before
  pub learnt : IsPrefix k.learnt before

-- a call of a pass, which knew this before and knows that after, was answered with the entry
pub record IsCalled (periods : ℕ) (before after : Knowledge) (e : Entry) : Type 0 where
  pub later : before.account.seen < e.number
  pub receipt : after ≡ after_call before after.history e
  pub history : IsAnswered periods before after.history e

-- a journal of a day with this number of periods may hold the history, and the look shows its length, whether the book
-- of its run is closed, and the book's order under the key
pub record IsLook (periods : ℕ) (history : List Entry) (key : Key) (look : Look) : Type 0 where
  pub legal : IsHistory periods history
  pub seen : look.seen ≡ length history
  pub closed : look.closed ≡ (run periods (commands_of history)).closed
  pub order : look.order ≡ order_at (run periods (commands_of history)) key

-- the history begins with all that the pass has seen and learnt of
pub record BeginsWithAll (k : Knowledge) (history : List Entry) : Type 0 where
  pub seen : IsPrefix k.history history
  pub learnt : IsPrefix k.learnt history
