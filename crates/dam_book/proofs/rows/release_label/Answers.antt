-- A label without a gap is free, and a gap that has it is found.
use Rattle.dam_book.proofs.Common.{arith, gap_count, nat_tests, ◌≡◌}
use Rattle.dam_book.proofs.FillFacts.{gap_found, label_free}
use Rattle.dam_book.proofs.rows.release_label.Goals as goal

pub returns-then-gaps-eq0-clause-absent : goal.returns-then-gaps-eq0-clause-absent
returns-then-gaps-eq0-clause-absent g c =
    let none : gap_count c.args.map.now.entries ≡ 0 = grind (arith, nat_tests, c.if-gaps-eq0.true, c.requires.counted) in
    label_free c.args.label.now c.args.map.now.entries c.requires.unfilled c.requires.numbered none c.requires.free

pub relabel_gap-requires-clause-gap : goal.relabel_gap-requires-clause-gap
relabel_gap-requires-clause-gap g c =
    gap_found c.args.label.now c.args.map.now.entries c.in-Some.place c.in-Some.field-0-1.now c.in-Some.field-0-2.now c.requires.unfilled
    c.requires.numbered c.requires.apart c.requires.free c.in-Some.ensures.key c.in-Some.ensures.value c.in-Some.ensures.entry
