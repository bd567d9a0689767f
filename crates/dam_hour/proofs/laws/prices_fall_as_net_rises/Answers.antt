-- Two supporting prices, and the prices of a period, at two net volumes.
use Rattle.dam_hour.proofs.Falling.{prices_fall, price_falls}
use Rattle.dam_hour.proofs.laws.prices_fall_as_net_rises.Goals as goal

pub returns-clause-supporting : goal.returns-clause-supporting
returns-clause-supporting c = prices_fall

pub returns-clause-price : goal.returns-clause-price
returns-clause-price c = price_falls
