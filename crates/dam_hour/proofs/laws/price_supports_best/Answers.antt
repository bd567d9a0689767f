-- The period's price lies between the ends, each of which supports the best execution.
use Rattle.dam_hour.specs.Price.{price_between}
use Rattle.dam_hour.proofs.Midpoint.{price_lies_between}
use Rattle.dam_hour.proofs.Supporting.{ends_support_best}
use Rattle.dam_hour.proofs.laws.price_supports_best.Goals as goal

pub returns : goal.returns
returns c steps net low high xs ends best =
    let between = price_lies_between low high (ends.least high ends.high_supports) in
    ends_support_best steps net low high (price_between low high) xs ends best between.0 between.1
