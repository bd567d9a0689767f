-- Receipts that are the entries number by number are the entries, each once, and the other way round.
use Rattle.dam_book.specs.Book.{empty_book}
use Rattle.dam_gate.specs.Settled.{receipts_of}
use Rattle.dam_gate.proofs.Accounts.{each_number, each_once}
use Rattle.dam_gate.proofs.Tallies.{no_fault}
use Rattle.dam_gate.proofs.settlement.settle.Goals as goal

pub whole_account-requires : goal.whole_account-requires
whole_account-requires g c =
    let rs = receipts_of c.args.accounts.now in
    record {
      closed = search;
      each_once = each_once 1 (empty_book c.args.journal.book.periods) c.args.journal.entries rs c.book.ensures.valid.history.legal
          (rw (c.entries-entries.ensures.value, c.in-None.is) at (c.first_mismatch.ensures rs c.in-Ok.ensures.tally));
    }

pub returns-clause-exact : goal.returns-clause-exact
returns-clause-exact g c = λ settled.
    let rs = receipts_of c.args.accounts.now in
    absurd (no_fault c.args.journal.entries rs c.in-Some.why
    (rw (c.entries-entries.ensures.value, c.in-Some.is) at (c.first_mismatch.ensures rs c.in-Ok.ensures.tally))
    (each_number c.args.journal.book.periods c.args.journal.entries rs c.book.ensures.valid.history.legal settled.each_once))
