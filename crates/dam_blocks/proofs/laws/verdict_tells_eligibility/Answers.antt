-- No other verdict is true of an eligible selection.
use Rattle.dam_blocks.proofs.Verdicts.{eligible_verdict, other_verdict, one_welfare}
use Rattle.dam_blocks.proofs.laws.verdict_tells_eligibility.Goals as goal

pub returns : goal.returns
returns c = record { eligible = eligible_verdict; other = other_verdict; one = one_welfare }
