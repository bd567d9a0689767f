-- Sums over a front and the rest.
use Rattle.dam_blocks.proofs.Sums.{over_accepted-append, over_accepted-padded}
use Rattle.dam_blocks.proofs.laws.sums_split_at_fronts.Goals as goal

pub returns : goal.returns
returns c = record { parted = over_accepted-append; padded = over_accepted-padded }
