use Rattle.std.proofs.Common.{sym, ap, ◌∙◌, subst}
use Rattle.dam_store.specs.FileLines.{stands_for}
use Rattle.dam_store.specs.inside.Synced.{IsRest}
use Rattle.dam_store.proofs.Unmade.{unmade_stands}
use Rattle.dam_store.proofs.recovery.repair.Goals as goal

pub returns-in_err-write_head_line-in-None-clause-crash : goal.returns-in_err-write_head_line-in-None-clause-crash
returns-in_err-write_head_line-in-None-clause-crash g c clean file left =
    let rest = c.args.rest.items in
    let unmade = subst (λ e. IsRest g.D.Disk c.args.disk.now e rest) c.in-None.is c.requires in
    c.write_head_line.ensures.crash clean file left
    ∙ sym (ap stands_for (unmade.0.same (sym c.write_head_line.ensures.writes.clean ∙ clean)) ∙ unmade_stands rest unmade.1)
