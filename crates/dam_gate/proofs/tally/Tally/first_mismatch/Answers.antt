-- The first fault of the marks, then the least extra number, decide.
use Rattle.std.proofs.Common.{sym, ap, ◌∙◌}
use Rattle.dam_gate.specs.inside.Tally.{first_mismatch_in_marks}
use Rattle.dam_gate.proofs.Tallies.{fault-decided, all-decided, extra-decided}
use Rattle.dam_gate.proofs.tally.Tally.first_mismatch.Goals as goal

pub returns-in-Some : goal.returns-in-Some
returns-in-Some g c = λ receipts tally.
    fault-decided c.requires.legal.0 c.args.entries.now c.args.self.now.found.items c.args.self.now.extra receipts c.in-Some.mismatch
    c.requires.legal.1
    (sym (c.first_mismatch_in_marks.ensures ∙ ap (first_mismatch_in_marks 1) c.deref.ensures.value) ∙ c.in-Some.is) tally

pub returns-in-None : goal.returns-in-None
returns-in-None g c = λ receipts tally.
    all-decided c.requires.legal.0 c.args.entries.now c.args.self.now.found.items c.args.self.now.extra receipts c.requires.legal.1
    (sym (c.first_mismatch_in_marks.ensures ∙ ap (first_mismatch_in_marks 1) c.deref.ensures.value) ∙ c.in_default.is) c.in-None.is tally

pub returns-in-Some-extra : goal.returns-in-Some-extra
returns-in-Some-extra g c = λ receipts tally.
    extra-decided c.requires.legal.0 c.in-Some-extra.number c.args.entries.now c.args.self.now.found.items c.args.self.now.extra receipts
    c.requires.legal.1
    (sym (c.first_mismatch_in_marks.ensures ∙ ap (first_mismatch_in_marks 1) c.deref.ensures.value) ∙ c.in_default.is) c.in-Some-extra.is tally
