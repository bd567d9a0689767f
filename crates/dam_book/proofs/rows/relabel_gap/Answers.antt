-- The last place, a filler's, takes the place of the gap.
use Rattle.dam_book.proofs.Common.{Label, MapPlace, None, arith, insert_entry-new, same_label, ◌+◌, ◌∙◌}
use Rattle.indexmap.specs.IndexMap.{Updates}
use Rattle.dam_book.proofs.FillFacts.{refilled, at_gap, filler_absent, if_some}
use Rattle.dam_book.proofs.rows.relabel_gap.Goals as goal

pub returns-clause-rows : goal.returns-clause-rows
returns-clause-rows g c =
    let filler : Label = ((c.copy.result, c.copy-2.result), c.args.place + 1) in
    let absent = filler_absent filler.0 filler.1 1 c.args.place c.args.map.now.entries c.args.label.now None c.requires.numbered
    c.requires.gap c.requires.unfilled (omega arith) (omega arith) in
    let last = c.in_ok-insert.ensures.entries ∙ insert_entry-new same_label c.args.map.now filler None absent in
    (refilled c.args.map.now.entries c.insert.new.self.entries c.swap_remove_index.new.self.entries c.args.place c.args.label.now filler
    c.swap_remove_index.result c.requires.numbered c.requires.gap (omega arith) last
    c.swap_remove_index.ensures.entry c.swap_remove_index.ensures.entries).rows

pub returns-clause-count : goal.returns-clause-count
returns-clause-count g c =
    let filler : Label = ((c.copy.result, c.copy-2.result), c.args.place + 1) in
    let absent = filler_absent filler.0 filler.1 1 c.args.place c.args.map.now.entries c.args.label.now None c.requires.numbered
    c.requires.gap c.requires.unfilled (omega arith) (omega arith) in
    let last = c.in_ok-insert.ensures.entries ∙ insert_entry-new same_label c.args.map.now filler None absent in
    (refilled c.args.map.now.entries c.insert.new.self.entries c.swap_remove_index.new.self.entries c.args.place c.args.label.now filler
    c.swap_remove_index.result c.requires.numbered c.requires.gap (omega arith) last
    c.swap_remove_index.ensures.entry c.swap_remove_index.ensures.entries).count

pub returns-clause-numbered : goal.returns-clause-numbered
returns-clause-numbered g c =
    let filler : Label = ((c.copy.result, c.copy-2.result), c.args.place + 1) in
    let absent = filler_absent filler.0 filler.1 1 c.args.place c.args.map.now.entries c.args.label.now None c.requires.numbered
    c.requires.gap c.requires.unfilled (omega arith) (omega arith) in
    let last = c.in_ok-insert.ensures.entries ∙ insert_entry-new same_label c.args.map.now filler None absent in
    (refilled c.args.map.now.entries c.insert.new.self.entries c.swap_remove_index.new.self.entries c.args.place c.args.label.now filler
    c.swap_remove_index.result c.requires.numbered c.requires.gap (omega arith) last
    c.swap_remove_index.ensures.entry c.swap_remove_index.ensures.entries).numbered

pub returns-clause-absent : goal.returns-clause-absent
returns-clause-absent g c =
    let filler : Label = ((c.copy.result, c.copy-2.result), c.args.place + 1) in
    let absent = filler_absent filler.0 filler.1 1 c.args.place c.args.map.now.entries c.args.label.now None c.requires.numbered
    c.requires.gap c.requires.unfilled (omega arith) (omega arith) in
    let last = c.in_ok-insert.ensures.entries ∙ insert_entry-new same_label c.args.map.now filler None absent in
    let out = at_gap c.args.map.now.entries c.insert.new.self.entries c.args.place c.args.label.now filler c.swap_remove_index.result
    c.requires.gap last c.swap_remove_index.ensures.entry in
    (if_some (λ (p : MapPlace). Updates same_label c.insert.new.self c.swap_remove_index.new.self p.0 None) c.swap_remove_index.result
    (c.args.label.now, None) out c.swap_remove_index.ensures.updates).1
