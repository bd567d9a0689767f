-- Either order of the two; the one that loses is rejected.
use Rattle.dam_blocks.specs.Selection.{accepts}
use Rattle.dam_search.proofs.RulingOut.{not_true}
use Rattle.dam_search.proofs.conflicts.are_rivals_either_way.Goals as goal

pub returns-else-are_rivals : goal.returns-else-are_rivals
returns-else-are_rivals g c e selection welfare eligible on =
    not_true (accepts selection c.args.other)
    (λ both. (let off = c.are_rivals-else-are_rivals.ensures e selection welfare eligible both in cc))
