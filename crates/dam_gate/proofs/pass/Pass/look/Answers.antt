-- A look at a longer history keeps the receipts in order.
use Rattle.std.proofs.Common.{List, length, ap, refl, sym, subst, arith}
use Rattle.dam_book.specs.declared.command.Entry.{Entry}
use Rattle.dam_gate.specs.Pass.{StandIn}
use Rattle.dam_gate.proofs.Beginnings.{prefix_length}
use Rattle.dam_gate.proofs.Receipts.{AreInOrder-seen}
use Rattle.dam_gate.proofs.Standing.{stand-longer}
use Rattle.dam_gate.proofs.pass.Pass.look.Goals as goal

pub invariant_of-self-2 : goal.invariant_of-self-2
invariant_of-self-2 g c =
    let shown = c.history-shown.result.now in
    let longer = prefix_length c.self.inside.history shown (c.starts_with.ensures c.if-not-starts_with.false) in
    record {
      account = record {
        in_order = AreInOrder-seen 0 (length c.self.inside.history)
            (length c.copy.result) c.self.inside.receipts.items c.self.invariant.account.in_order
            (omega (arith, longer, ap length c.copy.ensures));
        own = c.self.invariant.account.own;
      };
      seen = refl;
      stand = subst (λ (es : List Entry). StandIn es c.self.inside.receipts.items) (sym c.copy.ensures)
          (stand-longer c.self.inside.history shown c.self.inside.receipts.items
          (c.starts_with.ensures c.if-not-starts_with.false) c.self.invariant.stand);
    }

pub returns-clause-begins : goal.returns-clause-begins
returns-clause-begins g c =
    rw (← c.self.view_is, c.copy.ensures) (record {
      seen = c.starts_with.ensures c.if-not-starts_with.false;
      learnt = c.starts_with-else-not-starts_with.ensures c.if-not-starts_with-2.false;
    })

pub returns-clause-pass : goal.returns-clause-pass
returns-clause-pass g c = rw (← c.self.view_is)
