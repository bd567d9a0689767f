-- The receipts of one pass more are counted.
use Rattle.std.proofs.Common.{◌≡◌, ◌+◌, ◌++◌, List, take, get_or, subst, sym, ap, ◌∙◌}
use Rattle.dam_book.specs.declared.command.Entry.{Entry}
use Rattle.dam_gate.specs.Pass.{AccountState}
use Rattle.dam_gate.specs.Settled.{receipts_of}
use Rattle.dam_gate.specs.inside.Tally.{IsTally}
use Rattle.dam_gate.proofs.Receipts.{receipts-more}
use Rattle.dam_gate.proofs.tally.Tally.of.Goals as goal

pub loop-account-preserved : goal.loop-account-preserved
loop-account-preserved g c =
    let ps = c.args.accounts.now in
    let i = c.loop-account.account-index in
    let item = c.account-item.result in
    let same : c.receipts.result.now ≡ (get_or ps i item).receipts = c.receipts.ensures.value
    ∙ ap (λ (p : AccountState). p.receipts) c.account-item.is in
    let more : receipts_of (take (i + 1) ps) ≡ receipts_of (take i ps) ++ c.receipts.result.now =
    receipts-more ps i item c.loop-account-test.true ∙ ap (λ (es : List Entry). receipts_of (take i ps) ++ es) (sym same) in
    record {
      as_long = c.count_account.ensures.as_long;
      tally =
          subst (λ (rs : List Entry). IsTally c.args.entries.now c.count_account.new.self.found.items c.count_account.new.self.extra rs)
          (sym more)
          (c.count_account.ensures.tally (receipts_of (take i ps)) c.loop-account.invariant.tally);
    }
