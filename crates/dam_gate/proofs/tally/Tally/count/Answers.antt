-- A receipt changes the mark of its entry, or the least extra number.
use Rattle.std.proofs.Common.{◌<◌, ◌-◌, Some, length, sym, ap, ◌∙◌, arith}
use Rattle.std.proofs.lemmas.Option.{slice_get-get_or}
use Rattle.dam_gate.proofs.Tallies.{tally-some, tally-none}
use Rattle.dam_gate.proofs.tally.Tally.count.Goals as goal

pub returns-in-Some-clause-tally : goal.returns-in-Some-clause-tally
returns-in-Some-clause-tally g c = λ before tally.
    let place = c.args.receipt.now.number - 1 in
    let fs = c.args.self.now.found.items in
    let within : place < length c.args.entries.now = omega (arith, c.number-number.ensures, c.in-Some.ensures.lookup.3.0) in
    let entry_is = rw c.number-number.ensures at c.in-Some.ensures.lookup.1 in
    let mark_is = rw c.number-number.ensures at c.index.ensures in
    rw (c.number-number.ensures, c.with.ensures)
    (tally-some c.args.entries.now fs c.args.self.now.extra before c.args.receipt.now c.in-Some.entry.now c.index.result.now
    c.equals.result c.requires.positive
    (slice_get-get_or c.args.entries.now place c.in-Some.entry.now within ∙ ap Some (sym entry_is))
    (slice_get-get_or fs place c.index.result.now (omega (arith, within, c.requires.as_long)) ∙ ap Some (sym mark_is))
    c.equals.ensures tally)

pub returns-in-None-clause-tally : goal.returns-in-None-clause-tally
returns-in-None-clause-tally g c = λ before tally.
    rw (c.lesser-self.ensures, c.number-number.ensures)
    (tally-none c.args.entries.now c.args.self.now.found.items c.args.self.now.extra before c.args.receipt.now
    (omega (arith, c.number-number.ensures, c.requires.positive, c.in-None.ensures.lookup.3)) tally)
