-- Ancestors by the chain of parents, and the others of a group by their number.
use Rattle.dam_blocks.proofs.Conflicting.{ancestors_accepted, others_rejected}
use Rattle.dam_blocks.proofs.laws.admissible_keeps_ancestors_and_groups.Goals as goal

pub returns-clause-ancestors : goal.returns-clause-ancestors
returns-clause-ancestors c = ancestors_accepted

pub returns-clause-group : goal.returns-clause-group
returns-clause-group c = others_rejected
