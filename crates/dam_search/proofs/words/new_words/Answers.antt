-- The rule holds of two zeros and one seat.
use Rattle.std.proofs.Common.{arith}
use Rattle.dam_search.proofs.Rule.{opens}
use Rattle.dam_search.proofs.words.new_words.Goals as goal

pub of_words-requires : goal.of_words-requires
of_words-requires c = opens c.from.result (let same = c.from.ensures in let few = c.requires in omega (arith, same, few))
