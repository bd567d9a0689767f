-- One pass more is one.
use Rattle.std.proofs.Common.{All, List, subst, arith}
use Rattle.std.proofs.lemmas.List.{take_all}
use Rattle.std.proofs.lemmas.List.Elements.{All-more}
use Rattle.dam_gate.specs.Pass.{AccountState, IsAccount}
use Rattle.dam_gate.proofs.laws.are_accounts.Goals as goal

pub loop-account-preserved : goal.loop-account-preserved
loop-account-preserved c =
    All-more IsAccount c.args.accounts.now c.loop-account.account-index c.account-item.result c.loop-account-test.true c.loop-account.invariant
    (subst IsAccount c.account-item.is c.receipts-receipts.ensures.valid)

pub returns : goal.returns
returns c =
    subst (λ (ps : List AccountState). All IsAccount ps) (take_all c.loop-account.account-index c.args.accounts.now (omega arith)) c.loop-account.invariant
