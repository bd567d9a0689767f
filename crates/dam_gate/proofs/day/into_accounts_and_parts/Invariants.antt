-- The accounts of the passes so far, and their parts with the operator's.
use Rattle.std.proofs.Common.{◌≡◌, ◌+◌, ◌++◌, length, map}
use Rattle.std.specs.Vec.Iter.{into_iter_items}
use Rattle.dam_gate.specs.Pass.{Knowledge}
use Rattle.dam_gate.specs.Settled.{receipts_of}
use Rattle.dam_gate.proofs.day.into_accounts_and_parts.Given as goal

abbrev pub invariant-loop-pass : goal.invariant-loop-pass
invariant-loop-pass g l = record {
  passes : l.fn.passes.items ≡ l.yielded ++ into_iter_items l.pass-iterator;
  accounts : l.accounts.items ≡ map (λ (k : Knowledge). k.account) l.yielded;
  parts : l.parts.parts ≡ length l.yielded + 1;
  count : l.parts.amount ≡ length (receipts_of l.accounts.items) + length l.fn.operator.account.receipts;
}
