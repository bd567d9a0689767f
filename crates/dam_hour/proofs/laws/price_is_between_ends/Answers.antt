-- The price's cases, and that it lies between the ends.
use Rattle.std.proofs.Common.{refl}
use Rattle.dam_hour.proofs.Midpoint.{price_lies_between, price_at_low_end, price_at_high_end, price_inside}
use Rattle.dam_hour.proofs.laws.price_is_between_ends.Goals as goal

pub returns-clause-between : goal.returns-clause-between
returns-clause-between c = price_lies_between

pub returns-clause-low_open : goal.returns-clause-low_open
returns-clause-low_open c = price_at_low_end

pub returns-clause-high_open : goal.returns-clause-high_open
returns-clause-high_open c = price_at_high_end

pub returns-clause-inside : goal.returns-clause-inside
returns-clause-inside c = price_inside

pub returns-clause-all_open : goal.returns-clause-all_open
returns-clause-all_open c = refl
