use Rattle.dam_desk.proofs.Growth.{reads_run, replies_step}
use Rattle.dam_desk.proofs.laws.journals_grow.Goals as goal

pub returns-clause-reads : goal.returns-clause-reads
returns-clause-reads c state last lines answers reads run =
    reads_run c.histories_are_runs.ensures.commands c.written_journals_read.ensures state lines answers last reads run

pub returns-clause-replies : goal.returns-clause-replies
returns-clause-replies c number journal meaning = replies_step c.runs_grow.ensures.entries number journal meaning
