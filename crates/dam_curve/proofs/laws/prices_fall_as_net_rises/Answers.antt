-- Each period's price falls.
use Rattle.dam_curve.proofs.Falling.{joint_falls}
use Rattle.dam_curve.proofs.laws.prices_fall_as_net_rises.Goals as goal

pub returns : goal.returns
returns c = joint_falls c.prices_fall_as_net_rises.ensures.price
