use Rattle.std.proofs.Common.{List, ℕ, sym, ◌∙◌, subst}
use Rattle.dam_store.specs.FileLines.{StandsFor, lines_in}
use Rattle.dam_store.specs.inside.Shape.{IsAtRest, IsEndedAt}
use Rattle.dam_store.proofs.Rest.{journal_of, journal_stands}
use Rattle.dam_store.proofs.Steps.{opened_from}
use Rattle.dam_store.proofs.recovery.tidy_end.Goals as goal

stands : (file : List ℕ) (end : ℕ) → IsEndedAt file end → StandsFor (lines_in file) file
stands file end ended = journal_stands file end (lines_in file) (journal_of file end ended) ended.room

pub returns-clause-opened : goal.returns-clause-opened
returns-clause-opened g c clean =
    let seen = g.D.Disk.seen c.args.disk.now in
    let blank = sym c.write_end_mark.ensures.writes.clean ∙ clean in
    let old = sym c.write_blanks.ensures.writes.clean ∙ blank in
    let rest = subst (IsAtRest (g.D.Disk.seen c.write_end_mark.new.disk) c.args.end) (c.in_ok-write_blanks.ensures.lines blank) (c.in_ok-write_end_mark.ensures.at_rest clean) in
    opened_from g.D.Disk c.write_end_mark.new.disk seen c.args.end (lines_in seen) rest (stands seen c.args.end (c.requires.ended old))

pub returns-in_err-write_blanks-clause-crash : goal.returns-in_err-write_blanks-clause-crash
returns-in_err-write_blanks-clause-crash g c clean file left =
    let old = sym c.write_blanks.ensures.writes.clean ∙ clean in
    c.write_blanks.ensures.crash clean file left ∙ sym (stands (g.D.Disk.seen c.args.disk.now) c.args.end (c.requires.ended old))

pub returns-in_err-write_end_mark-clause-crash : goal.returns-in_err-write_end_mark-clause-crash
returns-in_err-write_end_mark-clause-crash g c clean file left =
    let blank = sym c.write_end_mark.ensures.writes.clean ∙ clean in
    let old = sym c.write_blanks.ensures.writes.clean ∙ blank in
    subst (λ (ls : List (List ℕ)). StandsFor ls file) (c.in_ok-write_blanks.ensures.lines blank) (c.write_end_mark.ensures.crash clean file left)
    ∙ sym (stands (g.D.Disk.seen c.args.disk.now) c.args.end (c.requires.ended old))

pub returns-clause-crash : goal.returns-clause-crash
returns-clause-crash g c clean file left =
    let blank = sym c.write_end_mark.ensures.writes.clean ∙ clean in
    let old = sym c.write_blanks.ensures.writes.clean ∙ blank in
    subst (λ (ls : List (List ℕ)). StandsFor ls file) (c.in_ok-write_blanks.ensures.lines blank) (c.write_end_mark.ensures.crash clean file left)
    ∙ sym (stands (g.D.Disk.seen c.args.disk.now) c.args.end (c.requires.ended old))
