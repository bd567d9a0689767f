-- The greatest welfare of a period is the welfare of some execution.
use Rattle.dam_blocks.proofs.Magnitudes.{welfare_size}
use Rattle.dam_blocks.proofs.laws.selection_welfare_is_small.Goals as goal

pub returns : goal.returns
returns c = welfare_size (record { short = c.days_are_short.ensures.short; reached = c.best_has_greatest_welfare.ensures.reached })
