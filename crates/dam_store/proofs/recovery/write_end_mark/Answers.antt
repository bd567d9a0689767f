use Rattle.std.proofs.Common.{List, ℕ, ◌∷◌, refl, sym, ap, ◌∙◌}
use Rattle.dam_store.specs.FileLines.{StandsFor, lines_in}
use Rattle.dam_store.specs.inside.Shape.{has_newline}
use Rattle.dam_store.proofs.Rest.{after_end, closed_at_rest, closed_is, closed_torn, minus_first, journal_of}
use Rattle.dam_store.proofs.Steps.{crash_step}
use Rattle.dam_store.proofs.recovery.write_end_mark.Goals as goal

pub returns-then-begins_uncounted_line-clause-at_rest : goal.returns-then-begins_uncounted_line-clause-at_rest
returns-then-begins_uncounted_line-clause-at_rest g c clean =
    let rest = c.args.rest.now in
    let end = c.args.end in
    let seen = g.D.Disk.seen c.args.disk.now in
    let same = c.requires.read.same clean in
    let after = after_end seen rest end same in
    let minus = minus_first rest (sym c.begins_uncounted_line.ensures ∙ c.if-begins_uncounted_line.true) in
    closed_at_rest seen end (lines_in seen) (journal_of seen end (c.requires.read.ended clean)) (ap has_newline after ∙ c.requires.last)
    (same ∙ minus ∙ ap (λ (l : List ℕ). 45 ∷ l) (sym after))

pub returns-in_err-write_and_sync-clause-crash : goal.returns-in_err-write_and_sync-clause-crash
returns-in_err-write_and_sync-clause-crash g c clean file left =
    let end = c.args.end in
    let old = sym c.write_and_sync.ensures.clean ∙ clean in
    let seen = g.D.Disk.seen c.args.disk.now in
    let after = after_end seen c.args.rest.now end (c.requires.read.same old) in
    crash_step g.D.Disk c.args.disk.now c.write_and_sync.new.disk seen refl end 1 (StandsFor (lines_in seen)) c.requires.read.synced.durable c.write_and_sync.ensures.crash
    (closed_torn seen end (lines_in seen) (journal_of seen end (c.requires.read.ended old)) (ap has_newline after ∙ c.requires.last) c.requires.read.room) file left

pub returns-clause-crash : goal.returns-clause-crash
returns-clause-crash g c clean file left =
    let end = c.args.end in
    let old = sym c.write_and_sync.ensures.clean ∙ clean in
    let seen = g.D.Disk.seen c.args.disk.now in
    let after = after_end seen c.args.rest.now end (c.requires.read.same old) in
    crash_step g.D.Disk c.args.disk.now c.write_and_sync.new.disk seen refl end 1 (StandsFor (lines_in seen)) c.requires.read.synced.durable c.write_and_sync.ensures.crash
    (closed_torn seen end (lines_in seen) (journal_of seen end (c.requires.read.ended old)) (ap has_newline after ∙ c.requires.last) c.requires.read.room) file left

pub returns-clause-at_rest : goal.returns-clause-at_rest
returns-clause-at_rest g c clean =
    let end = c.args.end in
    let old = sym c.write_and_sync.ensures.clean ∙ clean in
    let seen = g.D.Disk.seen c.args.disk.now in
    let after = after_end seen c.args.rest.now end (c.requires.read.same old) in
    closed_is seen end (lines_in seen) (journal_of seen end (c.requires.read.ended old)) (ap has_newline after ∙ c.requires.last) c.requires.read.room
    (g.D.Disk.seen c.write_and_sync.new.disk) c.write_and_sync.ensures.others c.in_ok-write_and_sync.ensures.written
