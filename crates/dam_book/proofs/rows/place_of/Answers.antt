-- The label stands where it is seen, or where it is found.
use Rattle.std.proofs.Common.{sym, ◌∙◌}
use Rattle.dam_book.proofs.PlaceFacts.{labelled, looked_up}
use Rattle.dam_book.proofs.rows.place_of.Goals as goal

pub returns-then-eq-clause-found : goal.returns-then-eq-clause-found
returns-then-eq-clause-found g c =
    labelled c.args.label.now c.in-Some.there.now c.args.map.now.entries c.args.likely_place c.in-Some.field-0-1.now c.in-Some.ensures.entry
    (sym c.eq.ensures ∙ c.if-eq.true)

pub returns-clause-found : goal.returns-clause-found
returns-clause-found g c =
    looked_up c.args.label.now c.in-Some-get_full.field-0-1.now c.args.map.now.entries c.in-Some-get_full.place
    c.in-Some-get_full.field-0-2.now c.in-Some-get_full.ensures.key c.in-Some-get_full.ensures.entry
