-- The receipt of a call, and the knowledge of the pass after it.
use Rattle.std.proofs.Common.{◌≡◌, ◌-◌, ◌++◌, ◌∷◌, [], ℕ, true, false, length, refl, sym, ap, subst, ◌∙◌, arith, length-append}
use mathlib.Core.List.{IsPrefix}
use Rattle.dam_book.specs.declared.command.Entry.{Entry}
use Rattle.dam_gate.specs.Journal.{IsHistory, next_entry}
use Rattle.dam_book.specs.Command.{is_journal_full}
use Rattle.dam_gate.specs.Pass.{Knowledge, AreInOrder, is_own}
use Rattle.dam_gate.specs.inside.Locked.{entry_of}
use Rattle.dam_gate.proofs.Beginnings.{prefix_length}
use Rattle.dam_gate.proofs.Receipts.{AreInOrder-snoc, AreOwn-snoc}
use Rattle.dam_gate.proofs.Histories.{history-after}
use Rattle.dam_gate.proofs.Standing.{stand-called}
use Rattle.dam_gate.proofs.pass.Pass.step.Goals as goal

pub invariant_of-self-2 : goal.invariant_of-self-2
invariant_of-self-2 g c =
    let e = entry_of c.args.command c.in_ok-answer.answer in
    let held = c.args.locked.now.journal.entries in
    let holder = c.self.inside.holder in
    let receipts = c.self.inside.receipts.items in
    let number = ap (λ (x : Entry). x.number) c.in_ok-answer.ensures.entry in
    let whole : e.number ≡ length c.in_ok-answer.after =
    omega (arith, number, ap length c.in_ok-answer.ensures.history, length-append held (e ∷ [])) in
    let before : e.number - 1 ≡ length held = omega (arith, number) in
    let mine : is_own holder e.command ≡ true =
    ap (λ (k : Knowledge). is_own k.account.holder c.args.command) c.self.view_is ∙ c.requires.own in
    let room : is_journal_full (e.number - 1) e.command ≡ false = ap (λ (n : ℕ). is_journal_full n c.args.command) before ∙ c.requires.not_full in
    let earlier = prefix_length c.self.inside.history held c.in_ok-answer.ensures.seen in
    let copied : c.in_ok-received.received ≡ c.args.command = c.in_ok-received.ensures.cases in
    rw (c.push_reserved.ensures.items, c.reserve.ensures.items, c.new.ensures, copied)
    (record {
      account = record {
        in_order = subst (λ (n : ℕ). AreInOrder 0 n (receipts ++ e ∷ [])) whole
            (AreInOrder-snoc 0 (length c.self.inside.history) receipts e c.self.invariant.account.in_order
            (omega (arith, number, earlier)));
        own = AreOwn-snoc holder receipts e c.self.invariant.account.own mine room;
      };
      seen = refl;
      stand = stand-called held receipts c.in_ok-answer.after c.self.inside.history e c.in_ok-answer.ensures.seen c.self.invariant.stand
          c.in_ok-answer.ensures.history whole before;
    })

-- the history after the call is the journal's with the entry, and all that the pass knew begins the journal's
pub returns-clause-answered : goal.returns-clause-answered
returns-clause-answered g c =
    let e = entry_of c.args.command c.in_ok-answer.answer in
    let j = c.args.locked.now.journal in
    let after = c.in_ok-answer.after in
    let number = ap (λ (x : Entry). x.number) c.in_ok-answer.ensures.entry in
    let whole : length after ≡ e.number =
    omega (arith, number, ap length c.in_ok-answer.ensures.history, length-append j.entries (e ∷ [])) in
    let earlier = prefix_length c.self.inside.history j.entries c.in_ok-answer.ensures.seen in
    let last : after ≡ j.entries ++ next_entry j c.args.command ∷ [] =
    c.in_ok-answer.ensures.history ∙ ap (λ (x : Entry). j.entries ++ x ∷ []) c.in_ok-answer.ensures.entry in
    let copied : c.in_ok-received.received ≡ c.args.command = c.in_ok-received.ensures.cases in
    record {
      later = omega (arith, number, earlier, ap (λ (k : Knowledge). k.account.seen) c.self.view_is);
      receipt = rw (
        ← c.self.view_is,
        c.push_reserved.ensures.items,
        c.reserve.ensures.items,
        c.new.ensures,
        copied,
        c.copy.ensures,
        whole,
      );
      history = record {
        before = j.entries;
        legal = subst (λ (n : ℕ). IsHistory n after) c.keeper-keeper.ensures.day
            (subst (IsHistory j.book.periods) (sym last) (history-after j c.args.command c.keeper-keeper.ensures.valid c.requires.not_full));
        last = c.in_ok-answer.ensures.history;
        number = sym whole;
        seen = subst (λ (k : Knowledge). IsPrefix k.history j.entries) c.self.view_is c.in_ok-answer.ensures.seen;
        learnt = subst (λ (k : Knowledge). IsPrefix k.learnt j.entries) c.self.view_is c.in_ok-answer.ensures.learnt;
      };
    }

pub returns-clause-learnt : goal.returns-clause-learnt
returns-clause-learnt g c =
    subst (λ (k : Knowledge). IsPrefix k.learnt c.args.locked.now.journal.entries) c.self.view_is c.in_ok-answer.ensures.learnt
