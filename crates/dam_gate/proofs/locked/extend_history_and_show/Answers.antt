-- The version that is shown next is the journal after the step.
use Rattle.dam_gate.proofs.locked.extend_history_and_show.Goals as goal

pub new-requires-clause-journal : goal.new-requires-clause-journal
new-requires-clause-journal g c = rw (c.copy.ensures, c.in-Some.ensures.added) c.requires.journal
