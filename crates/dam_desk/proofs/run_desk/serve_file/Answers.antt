-- The file that was opened is at rest.
use Rattle.dam_desk.proofs.Served.{at_rest}
use Rattle.dam_desk.proofs.run_desk.serve_file.Goals as goal

pub returns-clause-run : goal.returns-clause-run
returns-clause-run g c =
    let opened = c.in_ok-disk.ensures in
    at_rest c.in_ok-disk.disk c.run_desk.result.disk g.S.Start.db _ _ _ _ _ opened.seen opened.synced opened.no_fault c.run_desk.ensures
