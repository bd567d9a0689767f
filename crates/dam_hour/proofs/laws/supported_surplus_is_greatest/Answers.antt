-- Welfare and surplus at a price.
use Rattle.dam_hour.proofs.Duality.{welfare_balanced, surplus_at_least_zero, surplus_greatest}
use Rattle.dam_hour.proofs.laws.supported_surplus_is_greatest.Goals as goal

pub returns-clause-welfare : goal.returns-clause-welfare
returns-clause-welfare c = welfare_balanced

pub returns-clause-at_least_zero : goal.returns-clause-at_least_zero
returns-clause-at_least_zero c = surplus_at_least_zero

pub returns-clause-greatest : goal.returns-clause-greatest
returns-clause-greatest c = surplus_greatest
