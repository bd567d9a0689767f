-- The number of each receipt is above 0.
use Rattle.std.proofs.Common.{◌<◌, subst, sym, arith}
use Rattle.dam_book.specs.declared.command.Entry.{Entry}
use Rattle.dam_gate.proofs.Receipts.{number_above}
use Rattle.dam_gate.proofs.tally.Tally.count_account.Goals as goal

pub count-requires-clause-positive : goal.count-requires-clause-positive
count-requires-clause-positive g c =
    subst (λ (e : Entry). 0 < e.number) (sym c.receipt-item.is)
    (number_above 0 c.requires.positive.0 c.loop-receipt.receipt-index c.args.receipts.now c.receipt-item.result c.requires.positive.1
    (omega arith))
