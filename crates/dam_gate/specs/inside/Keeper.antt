-- Whether a keeper's journal is full.
use Rattle.std.specs.Prelude.{◌≡◌, ℕ, true, false, List, Option, Result, MatchResult}
use Rattle.dam_book.specs.Command.{giver, is_journal_full}
use Rattle.dam_book.specs.declared.command.Command.{Command}
use Rattle.dam_gate.specs.declared.keeper.KeeperFault.{KeeperFault}
use Rattle.dam_gate.specs.declared.keeper.KeeperFault.TheVariants.{JournalFull}

-- a journal of `held` entries has room for every command of this giver, or the fault says that it is full for them
abbrev pub SaysWhetherFull : {T : Type 0} → ℕ → Option (List ℕ) → Result T KeeperFault → Type 0
SaysWhetherFull held who result =
    (command : Command) → giver command ≡ who → MatchResult result
    (λ _. is_journal_full held command ≡ false)
    (λ fault. (fault ≡ JournalFull held) × (is_journal_full held command ≡ true))
