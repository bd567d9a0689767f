-- A net volume that balances is within the offers, and each one within them balances.
use Rattle.dam_hour.proofs.Supporting.{balance_within}
use Rattle.dam_hour.proofs.Existence.{balance_exists}
use Rattle.dam_hour.proofs.laws.balances_within_offers.Goals as goal

pub returns-clause-within : goal.returns-clause-within
returns-clause-within c = balance_within

pub returns-clause-exists : goal.returns-clause-exists
returns-clause-exists c = balance_exists
