-- The receipts of the passes so far are counted.
use Rattle.std.proofs.Common.{◌≡◌, length, take}
use Rattle.dam_gate.specs.Settled.{receipts_of}
use Rattle.dam_gate.specs.inside.Tally.{IsTally}
use Rattle.dam_gate.proofs.tally.Tally.of.Given as goal

abbrev pub invariant-loop-account : goal.invariant-loop-account
invariant-loop-account g l = record {
  as_long : length l.tally.found.items ≡ length l.entries;
  tally : IsTally l.entries l.tally.found.items l.tally.extra (receipts_of (take l.account-index l.accounts));
}
