-- The journal goes on by the close.
use Rattle.std.proofs.Common.{◌≡◌, ap, ◌∙◌}
use Rattle.dam_book.specs.declared.command.Command.{Command}
use Rattle.dam_book.specs.declared.command.Command.TheVariants.{Close}
use Rattle.dam_book.specs.declared.command.Entry.{Entry}
use Rattle.dam_gate.specs.Journal.{JournalState, journal_after, next_entry}
use Rattle.dam_gate.specs.Pass.{Knowledge, with_receipt}
use Rattle.dam_gate.proofs.gate.Gate.close_into_locked.Goals as goal

pub returns : goal.returns
returns g c =
    let before = c.args.operator.now in
    let earlier : JournalState = c.into_inner-locked.result.journal in
    let close : c.in_ok-close.close ≡ Close = c.in_ok-close.ensures.command in
    let step = c.in_ok-_answer.ensures in
    record {
      earlier = earlier;
      journal = c.keeper.ensures.valid;
      learnt = step.learnt;
      closed = step.journal ∙ ap (λ (d : Command). journal_after earlier d) close;
      receipt = ap (λ (k : Knowledge). k.account) step.answered.receipt
          ∙ ap (λ (e : Entry). with_receipt before.account e) (step.entry ∙ ap (λ (d : Command). next_entry earlier d) close);
      pass = c.receipts-receipts.ensures.valid.account;
    }
