-- A place more, if the two exclude each other.
use Rattle.dam_search.proofs.Common.{List, Bool, ◌∙◌, sym, subst, Excludes}
use Rattle.dam_search.proofs.RulingOut.{rival_more}
use Rattle.dam_search.proofs.conflicts.with_rivals.Goals.{then-are_rivals_either_way, else-are_rivals_either_way}
use Rattle.dam_search.proofs.conflicts.with_rivals.Goals as goal

pub loop-other-preserved : goal.loop-other-preserved
loop-other-preserved g c = elim c.if-are_rivals_either_way.branch [
  | then-are_rivals_either_way branch ↦
      rival_more (g.P.PriceOracle.problem c.args.oracle.now) c.args.place c.loop-other.other c.loop-other.excluded _ (branch.excluded-is ∙ branch.with-excluded.ensures)
      (c.are_rivals_either_way.ensures branch.if-are_rivals_either_way.true) c.loop-other.invariant
  | else-are_rivals_either_way branch ↦
      subst (λ (r : List Bool). Excludes (g.P.PriceOracle.problem c.args.oracle.now) c.args.place r) (sym branch.excluded-is) c.loop-other.invariant
]
