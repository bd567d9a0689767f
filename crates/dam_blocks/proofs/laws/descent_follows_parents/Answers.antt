-- Parents by their names and by their places, and families by their chains.
use Rattle.dam_blocks.proofs.Descending.{named, place, descends_is}
use Rattle.dam_blocks.proofs.laws.descent_follows_parents.Goals as goal

pub returns-clause-named : goal.returns-clause-named
returns-clause-named c = named

pub returns-clause-place : goal.returns-clause-place
returns-clause-place c = place

pub returns-clause-descends : goal.returns-clause-descends
returns-clause-descends c = descends_is
