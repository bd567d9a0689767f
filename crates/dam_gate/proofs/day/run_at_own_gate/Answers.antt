-- The journal is settled with the passes, which are the participants' and then the operator's, and is a day run.
use Rattle.std.proofs.Common.{◌≡◌, ◌<◌, ◌++◌, ◌∷◌, [], ℕ, List, None, length, get_or, ap, subst, sym, ◌∙◌}
use mathlib.Core.List.{IsPrefix}
use Rattle.dam_book.specs.Book.{IsLegalHistory}
use Rattle.dam_gate.specs.Journal.{JournalState}
use Rattle.dam_gate.specs.Opening.{OpeningState}
use Rattle.dam_gate.specs.Pass.{Knowledge, AccountState, after_learning, holders, knowing_nothing}
use Rattle.dam_gate.specs.Headline.{IsWholeAccount}
use Rattle.dam_gate.specs.Settled.{IsSettled, receipts_of}
use Rattle.dam_gate.specs.inside.Entering.{IsClosedByOperator}
use Rattle.dam_gate.specs.inside.Tally.{AreReceipts}
use Rattle.dam_gate.specs.declared.day.DayFault.{DayFault}
use Rattle.dam_gate.specs.declared.day.DayFault.TheVariants.{Memory}
use Rattle.dam_gate.proofs.Days.{accounts, day_run, passed_on}
use Rattle.dam_gate.proofs.Settling.{counted, held_by}
use Rattle.dam_gate.proofs.day.run_at_own_gate.Goals as goal

pub returns-clause-day : goal.returns-clause-day
returns-clause-day g c =
    let given = c.args.commands.now in
    let participants = c.args.participants.now in
    let ks : List Knowledge = c.in_ok-passes.passes.items in
    let before : Knowledge = c.learn_from_all.new.pass in
    let op : AccountState = c.close_into_locked.new.operator.account in
    let j = c.into_audited_journal-journal.result in
    let passes = c.in_ok-accounts.accounts.items in
    let closed : IsClosedByOperator before op j = subst (IsClosedByOperator before op) (sym c.into_audited_journal-journal.ensures.value) c.in-Ok-close_into_locked.ensures in
    let is : before ≡ after_learning (knowing_nothing None) before.learnt =
    c.learn_from_all.ensures.pass ∙ ap (λ (k : Knowledge). after_learning k before.learnt) c.in-Ok.ensures in
    let begin = subst (λ (xs : List Knowledge). (i : ℕ) (d : Knowledge) → i < length xs → IsPrefix (get_or xs i d).history before.learnt)
    c.deref.ensures.value c.learn_from_all.ensures.learnt in
    let most = sym (ap (λ (o : OpeningState). o.passes) c.requires.name) ∙ c.requires.passes in
    let day = counted given participants ks before op j passes c.in_ok-accounts.parts.parts g.J.GateName.opening.passes
    c.in_ok-accounts.parts.amount closed is c.into_audited_journal-journal.ensures.valid c.requires.givers.apart
    c.in_ok-passes.ensures.ok c.in_ok-passes.ensures.holders c.in_ok-passes.ensures.valid begin c.in_ok-accounts.ensures.accounts
    c.in_ok-accounts.ensures.parts most c.in_ok-accounts.ensures.count c.into_audited_journal-journal.ensures.count in
    let ps = accounts ks in
    let settled = c.in_ok-settled.settled in
    let same : settled ≡ j = c.in_ok-settled.ensures.journal in
    let periods : j.book.periods ≡ c.args.start.periods =
    c.into_audited_journal-journal.ensures.day ∙ (sym (ap (λ (o : OpeningState). o.periods) c.requires.name) ∙ c.args.start.same_day) in
    let legal = subst (λ (n : ℕ). IsLegalHistory n j.entries) periods c.into_audited_journal-journal.ensures.valid.history.legal in
    let all : passes ≡ ps ++ op ∷ [] = c.in_ok-accounts.ensures.accounts in
    let run = day_run c.args.start.periods given participants j.entries ps op day.before legal
    (subst (λ (xs : List AccountState). AreReceipts j.entries (receipts_of xs)) all day.are) c.requires.givers c.in_ok-passes.ensures.ok
    day.closes closed.pass day.last in
    rw same (record {
      taken = c.requires.taken;
      day_length = periods;
      journal = c.into_audited_journal-journal.ensures.valid;
      run = run;
      account = subst (λ (x : JournalState). IsWholeAccount x passes) same
          (subst (λ (xs : List AccountState). IsWholeAccount settled xs) c.deref-2.ensures.value c.in_ok-settled.ensures.account);
      held_by = ap holders all ∙ held_by given participants ps op c.in_ok-passes.ensures.holders day.nobody c.requires.order;
    })

-- so its settlement may only run out of memory
pub returns-in_err-settled-clause-err : goal.returns-in_err-settled-clause-err
returns-in_err-settled-clause-err g c =
    let given = c.args.commands.now in
    let participants = c.args.participants.now in
    let ks : List Knowledge = c.in_ok-passes.passes.items in
    let before : Knowledge = c.learn_from_all.new.pass in
    let op : AccountState = c.close_into_locked.new.operator.account in
    let j = c.into_audited_journal-journal.result in
    let passes = c.in_ok-accounts.accounts.items in
    let closed : IsClosedByOperator before op j = subst (IsClosedByOperator before op) (sym c.into_audited_journal-journal.ensures.value) c.in-Ok-close_into_locked.ensures in
    let is : before ≡ after_learning (knowing_nothing None) before.learnt =
    c.learn_from_all.ensures.pass ∙ ap (λ (k : Knowledge). after_learning k before.learnt) c.in-Ok.ensures in
    let begin = subst (λ (xs : List Knowledge). (i : ℕ) (d : Knowledge) → i < length xs → IsPrefix (get_or xs i d).history before.learnt)
    c.deref.ensures.value c.learn_from_all.ensures.learnt in
    let most = sym (ap (λ (o : OpeningState). o.passes) c.requires.name) ∙ c.requires.passes in
    let day = counted given participants ks before op j passes c.in_ok-accounts.parts.parts g.J.GateName.opening.passes
    c.in_ok-accounts.parts.amount closed is c.into_audited_journal-journal.ensures.valid c.requires.givers.apart
    c.in_ok-passes.ensures.ok c.in_ok-passes.ensures.holders c.in_ok-passes.ensures.valid begin c.in_ok-accounts.ensures.accounts
    c.in_ok-accounts.ensures.parts most c.in_ok-accounts.ensures.count c.into_audited_journal-journal.ensures.count in
    let settled = subst (λ (xs : List AccountState). IsSettled j xs) (sym c.deref-2.ensures.value) day.settled in
    let fault = c.in_err-settled.field-0.0 in
    passed_on (λ (f : DayFault). f ≡ Memory) c.from_residual-in_err-settled.result fault c.from_residual-in_err-settled.ensures.1
    (c.in_err-settled.ensures.exact settled)
