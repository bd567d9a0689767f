-- The place keeps its label and loses its order.
use Rattle.dam_book.proofs.Common.{Option, Order, ap, gap_count, if◌then◌else◌, is_some, rows_of, same_key, sym, ◌+◌, ◌∙◌}
use Rattle.dam_book.proofs.GapFacts.{no_row, remove_entry-absent}
use Rattle.dam_book.proofs.PlaceFacts.{took_at, not_nowhere, apart-put}
use Rattle.dam_book.proofs.rows.take_order.Goals as goal

pub returns-in_default-clause-value : goal.returns-in_default-clause-value
returns-in_default-clause-value g c =
    sym (no_row c.args.label.now c.args.map.now.entries c.requires.unfilled c.requires.numbered c.requires.apart
    (sym c.in_default.ensures.absent))

pub returns-in_default-clause-rows : goal.returns-in_default-clause-rows
returns-in_default-clause-rows g c =
    let none = no_row c.args.label.now c.args.map.now.entries c.requires.unfilled c.requires.numbered c.requires.apart
    (sym c.in_default.ensures.absent) in
    sym (remove_entry-absent (same_key c.args.label.now.0) (rows_of c.args.map.now.entries) none)

pub returns-in_default-get_index_mut-clause-value : goal.returns-in_default-get_index_mut-clause-value
returns-in_default-get_index_mut-clause-value g c =
    absurd (not_nowhere c.args.label.now c.args.map.now.entries c.in-Some.place c.in-Some.ensures.found
    c.in_default-get_index_mut.ensures.value)

pub returns-in_default-get_index_mut-clause-rows : goal.returns-in_default-get_index_mut-clause-rows
returns-in_default-get_index_mut-clause-rows g c =
    absurd (not_nowhere c.args.label.now c.args.map.now.entries c.in-Some.place c.in-Some.ensures.found
    c.in_default-get_index_mut.ensures.value)

pub returns-clause-value : goal.returns-clause-value
returns-clause-value g c =
    c.take.ensures.value ∙ (took_at c.args.label.now c.args.map.now.entries c.in-Some.place c.in-Some-get_index_mut.content.now
    c.requires.unfilled c.requires.numbered c.requires.apart c.in-Some.ensures.found c.in-Some-get_index_mut.ensures.value
    c.take.new.self c.take.ensures.after).0

pub returns-clause-rows : goal.returns-clause-rows
returns-clause-rows g c =
    (took_at c.args.label.now c.args.map.now.entries c.in-Some.place c.in-Some-get_index_mut.content.now
    c.requires.unfilled c.requires.numbered c.requires.apart c.in-Some.ensures.found c.in-Some-get_index_mut.ensures.value
    c.take.new.self c.take.ensures.after).1

pub returns-clause-count : goal.returns-clause-count
returns-clause-count g c =
    (took_at c.args.label.now c.args.map.now.entries c.in-Some.place c.in-Some-get_index_mut.content.now
    c.requires.unfilled c.requires.numbered c.requires.apart c.in-Some.ensures.found c.in-Some-get_index_mut.ensures.value
    c.take.new.self c.take.ensures.after).2
    ∙ ap (λ (x : Option Order). gap_count c.args.map.now.entries + (if is_some x then 1 else 0)) (sym c.take.ensures.value)

pub returns-clause-numbered : goal.returns-clause-numbered
returns-clause-numbered g c =
    (took_at c.args.label.now c.args.map.now.entries c.in-Some.place c.in-Some-get_index_mut.content.now
    c.requires.unfilled c.requires.numbered c.requires.apart c.in-Some.ensures.found c.in-Some-get_index_mut.ensures.value
    c.take.new.self c.take.ensures.after).3

pub returns-clause-apart : goal.returns-clause-apart
returns-clause-apart g c = apart-put c.args.map.now.entries c.in-Some.place c.take.new.self c.requires.apart
