-- Those so far are.
use Rattle.std.proofs.Common.{All, take}
use Rattle.dam_gate.specs.Pass.{IsAccount}
use Rattle.dam_gate.proofs.laws.are_accounts.Given as goal

abbrev pub invariant-loop-account : goal.invariant-loop-account
invariant-loop-account l = All IsAccount (take l.account-index l.accounts)
