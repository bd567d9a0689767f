-- The other views are spent.
use Rattle.dam_search.proofs.Rule.{closes}
use Rattle.dam_search.proofs.laws.closed_words_count_pieces.Goals as goal

pub returns : goal.returns
returns c pieces seat state view h at all = closes pieces state seat view h at all
