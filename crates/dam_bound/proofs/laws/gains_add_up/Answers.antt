-- The gains of one place more.
use Rattle.dam_bound.proofs.Opening.{more_gains}
use Rattle.dam_bound.proofs.laws.gains_add_up.Goals as goal

pub returns : goal.returns
returns c gains selection place inside within free = more_gains gains selection place inside within free
