-- The receipts counted before the pass, with its receipts so far, are the receipts counted now.
use Rattle.std.proofs.Common.{◌≡◌, ◌++◌, List, length, take}
use Rattle.dam_book.specs.declared.command.Entry.{Entry}
use Rattle.dam_gate.specs.inside.Tally.{IsTally}
use Rattle.dam_gate.proofs.tally.Tally.count_account.Given as goal

abbrev pub invariant-loop-receipt : goal.invariant-loop-receipt
invariant-loop-receipt g l = record {
  as_long : length l.self.found.items ≡ length l.entries;
  tally : (before : List Entry) → IsTally l.entries l.initial.self.found.items l.initial.self.extra before
      → IsTally l.entries l.self.found.items l.self.extra (before ++ take l.receipt-index l.receipts);
}
