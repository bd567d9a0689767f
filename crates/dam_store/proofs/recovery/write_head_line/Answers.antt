use Rattle.std.proofs.Common.{◌∷◌, [], drop, length, sym, ◌∙◌}
use Rattle.dam_store.specs.FileLines.{StandsFor, after_first}
use Rattle.dam_store.proofs.Steps.{crash_step, seen_step}
use Rattle.dam_store.proofs.Unmade.{head_torn, head_written, first_torn, first_written, made_at_rest, unmade_tail}
use Rattle.dam_store.proofs.recovery.write_head_line.Goals as goal

pub returns-in_err-write_and_sync-clause-crash : goal.returns-in_err-write_and_sync-clause-crash
returns-in_err-write_and_sync-clause-crash g c clean file left =
    let tail = drop 1 c.args.bytes.now in
    let short = unmade_tail c.args.bytes.now c.requires.unmade in
    let begun = c.in_ok-write_first_mark.ensures.begun (sym c.write_and_sync.ensures.clean ∙ clean) in
    crash_step g.D.Disk c.write_first_mark.new.disk c.write_and_sync.new.disk (45 ∷ tail) begun 1 (length after_first) (StandsFor []) c.in_ok-write_first_mark.ensures.synced.durable c.write_and_sync.ensures.crash (head_torn tail short) file left

pub returns-in_err-write_and_sync-2-clause-crash : goal.returns-in_err-write_and_sync-2-clause-crash
returns-in_err-write_and_sync-2-clause-crash g c clean file left =
    let tail = drop 1 c.args.bytes.now in
    let short = unmade_tail c.args.bytes.now c.requires.unmade in
    let clean_then = sym c.write_and_sync-2.ensures.clean ∙ clean in
    let begun = c.in_ok-write_first_mark.ensures.begun (sym c.write_and_sync.ensures.clean ∙ clean_then) in
    let torn = seen_step g.D.Disk c.write_first_mark.new.disk c.write_and_sync.new.disk (45 ∷ tail) begun 1 (length after_first) c.write_and_sync.ensures.others in
    let staged = head_written tail short (g.D.Disk.seen c.write_and_sync.new.disk) torn c.in_ok-write_and_sync.ensures.written in
    crash_step g.D.Disk c.write_and_sync.new.disk c.write_and_sync-2.new.disk (45 ∷ after_first) staged 0 1 (StandsFor []) c.in_ok-write_and_sync.ensures.synced.durable c.write_and_sync-2.ensures.crash first_torn file left

pub returns-clause-crash : goal.returns-clause-crash
returns-clause-crash g c clean file left =
    let tail = drop 1 c.args.bytes.now in
    let short = unmade_tail c.args.bytes.now c.requires.unmade in
    let clean_then = sym c.write_and_sync-2.ensures.clean ∙ clean in
    let begun = c.in_ok-write_first_mark.ensures.begun (sym c.write_and_sync.ensures.clean ∙ clean_then) in
    let torn = seen_step g.D.Disk c.write_first_mark.new.disk c.write_and_sync.new.disk (45 ∷ tail) begun 1 (length after_first) c.write_and_sync.ensures.others in
    let staged = head_written tail short (g.D.Disk.seen c.write_and_sync.new.disk) torn c.in_ok-write_and_sync.ensures.written in
    crash_step g.D.Disk c.write_and_sync.new.disk c.write_and_sync-2.new.disk (45 ∷ after_first) staged 0 1 (StandsFor []) c.in_ok-write_and_sync.ensures.synced.durable c.write_and_sync-2.ensures.crash first_torn file left

pub returns-clause-at_rest : goal.returns-clause-at_rest
returns-clause-at_rest g c clean =
    let tail = drop 1 c.args.bytes.now in
    let short = unmade_tail c.args.bytes.now c.requires.unmade in
    let clean_then = sym c.write_and_sync-2.ensures.clean ∙ clean in
    let begun = c.in_ok-write_first_mark.ensures.begun (sym c.write_and_sync.ensures.clean ∙ clean_then) in
    let torn = seen_step g.D.Disk c.write_first_mark.new.disk c.write_and_sync.new.disk (45 ∷ tail) begun 1 (length after_first) c.write_and_sync.ensures.others in
    let staged = head_written tail short (g.D.Disk.seen c.write_and_sync.new.disk) torn c.in_ok-write_and_sync.ensures.written in
    let torn_mark = seen_step g.D.Disk c.write_and_sync.new.disk c.write_and_sync-2.new.disk (45 ∷ after_first) staged 0 1 c.write_and_sync-2.ensures.others in
    made_at_rest (g.D.Disk.seen c.write_and_sync-2.new.disk) (first_written (g.D.Disk.seen c.write_and_sync-2.new.disk) torn_mark c.in_ok-write_and_sync-2.ensures.written)
