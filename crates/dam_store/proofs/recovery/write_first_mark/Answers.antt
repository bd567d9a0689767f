use Rattle.std.proofs.Common.{[], sym, ◌∙◌}
use Rattle.dam_store.specs.FileLines.{StandsFor}
use Rattle.dam_store.proofs.Steps.{crash_step, seen_step}
use Rattle.dam_store.proofs.Unmade.{minus_torn, minus_written}
use Rattle.dam_store.proofs.recovery.write_first_mark.Goals as goal

pub returns-in_err-write_and_sync-clause-crash : goal.returns-in_err-write_and_sync-clause-crash
returns-in_err-write_and_sync-clause-crash g c clean file left =
    let bytes = c.args.bytes.now in
    let other = sym c.begins_uncounted_line.ensures ∙ c.if-begins_uncounted_line.false in
    crash_step g.D.Disk c.args.disk.now c.write_and_sync.new.disk bytes (c.requires.read.same (sym c.write_and_sync.ensures.clean
    ∙ clean)) 0 1 (StandsFor []) c.requires.read.synced.durable c.write_and_sync.ensures.crash
    (λ f torn. minus_torn bytes c.requires.unmade f torn other) file left

pub returns-clause-crash : goal.returns-clause-crash
returns-clause-crash g c clean file left =
    let bytes = c.args.bytes.now in
    let other = sym c.begins_uncounted_line.ensures ∙ c.if-begins_uncounted_line.false in
    crash_step g.D.Disk c.args.disk.now c.write_and_sync.new.disk bytes (c.requires.read.same (sym c.write_and_sync.ensures.clean
    ∙ clean)) 0 1 (StandsFor []) c.requires.read.synced.durable c.write_and_sync.ensures.crash
    (λ f torn. minus_torn bytes c.requires.unmade f torn other) file left

pub returns-clause-begun : goal.returns-clause-begun
returns-clause-begun g c clean =
    let bytes = c.args.bytes.now in
    let torn = seen_step g.D.Disk c.args.disk.now c.write_and_sync.new.disk bytes (c.requires.read.same (sym c.write_and_sync.ensures.clean
    ∙ clean)) 0 1 c.write_and_sync.ensures.others in
    minus_written bytes c.requires.unmade (g.D.Disk.seen c.write_and_sync.new.disk) torn c.in_ok-write_and_sync.ensures.written
