use Rattle.dam_store.proofs.Histories.{nothing_lost}
use Rattle.dam_store.proofs.laws.nothing_is_lost.Goals as goal

pub returns : goal.returns
returns c = nothing_lost
