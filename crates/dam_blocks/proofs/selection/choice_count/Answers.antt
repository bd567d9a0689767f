-- The power is small enough for the word.
use Rattle.dam_blocks.proofs.Choices.{power_is}
use Rattle.dam_blocks.proofs.selection.choice_count.Goals as goal

pub returns : goal.returns
returns c = power_is c.args.count c.requires
