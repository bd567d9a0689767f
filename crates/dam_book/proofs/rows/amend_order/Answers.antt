-- The place keeps its label, and its order changes if it has one.
use Rattle.dam_book.proofs.Common.{amended, rows_of, sym}
use Rattle.dam_book.proofs.GapFacts.{no_row, changed-absent}
use Rattle.dam_book.proofs.PlaceFacts.{gap_kept_at, changed_at, not_nowhere, apart-put}
use Rattle.dam_book.proofs.rows.amend_order.Goals as goal

pub returns-in_default-clause-rows : goal.returns-in_default-clause-rows
returns-in_default-clause-rows g c =
    let none = no_row c.args.label.now c.args.map.now.entries c.requires.unfilled c.requires.numbered c.requires.apart
    (sym c.in_default.ensures.absent) in
    sym (changed-absent c.args.label.now.0 (amended c.args.price c.args.volumes.now) (rows_of c.args.map.now.entries) none)

pub returns-in_default-get_index_mut-clause-rows : goal.returns-in_default-get_index_mut-clause-rows
returns-in_default-get_index_mut-clause-rows g c =
    absurd (not_nowhere c.args.label.now c.args.map.now.entries c.in-Some.place c.in-Some.ensures.found
    c.in_default-get_index_mut.ensures.value)

pub returns-in_default-content-clause-rows : goal.returns-in_default-content-clause-rows
returns-in_default-content-clause-rows g c =
    (gap_kept_at c.args.label.now c.args.map.now.entries c.in-Some.place c.in-Some-get_index_mut.content.now
    c.requires.unfilled c.requires.numbered c.requires.apart c.in-Some.ensures.found c.in-Some-get_index_mut.ensures.value
    (amended c.args.price c.args.volumes.now) c.in_default-content.is).rows

pub returns-in_default-content-clause-count : goal.returns-in_default-content-clause-count
returns-in_default-content-clause-count g c =
    (gap_kept_at c.args.label.now c.args.map.now.entries c.in-Some.place c.in-Some-get_index_mut.content.now
    c.requires.unfilled c.requires.numbered c.requires.apart c.in-Some.ensures.found c.in-Some-get_index_mut.ensures.value
    (amended c.args.price c.args.volumes.now) c.in_default-content.is).count

pub returns-in_default-content-clause-numbered : goal.returns-in_default-content-clause-numbered
returns-in_default-content-clause-numbered g c =
    (gap_kept_at c.args.label.now c.args.map.now.entries c.in-Some.place c.in-Some-get_index_mut.content.now
    c.requires.unfilled c.requires.numbered c.requires.apart c.in-Some.ensures.found c.in-Some-get_index_mut.ensures.value
    (amended c.args.price c.args.volumes.now) c.in_default-content.is).numbered

pub returns-in_default-content-clause-apart : goal.returns-in_default-content-clause-apart
returns-in_default-content-clause-apart g c =
    apart-put c.args.map.now.entries c.in-Some.place c.in-Some-get_index_mut.content.now c.requires.apart

pub returns-clause-rows : goal.returns-clause-rows
returns-clause-rows g c =
    (changed_at c.args.label.now c.args.map.now.entries c.in-Some.place c.in-Some-get_index_mut.content.now
    c.requires.unfilled c.requires.numbered c.requires.apart c.in-Some.ensures.found c.in-Some-get_index_mut.ensures.value
    c.in-Some-content.boxed c.amend.new.self (amended c.args.price c.args.volumes.now) c.in-Some-content.is c.amend.ensures).rows

pub returns-clause-count : goal.returns-clause-count
returns-clause-count g c =
    (changed_at c.args.label.now c.args.map.now.entries c.in-Some.place c.in-Some-get_index_mut.content.now
    c.requires.unfilled c.requires.numbered c.requires.apart c.in-Some.ensures.found c.in-Some-get_index_mut.ensures.value
    c.in-Some-content.boxed c.amend.new.self (amended c.args.price c.args.volumes.now) c.in-Some-content.is c.amend.ensures).count

pub returns-clause-numbered : goal.returns-clause-numbered
returns-clause-numbered g c =
    (changed_at c.args.label.now c.args.map.now.entries c.in-Some.place c.in-Some-get_index_mut.content.now
    c.requires.unfilled c.requires.numbered c.requires.apart c.in-Some.ensures.found c.in-Some-get_index_mut.ensures.value
    c.in-Some-content.boxed c.amend.new.self (amended c.args.price c.args.volumes.now) c.in-Some-content.is c.amend.ensures).numbered

pub returns-clause-apart : goal.returns-clause-apart
returns-clause-apart g c = apart-put c.args.map.now.entries c.in-Some.place _ c.requires.apart
