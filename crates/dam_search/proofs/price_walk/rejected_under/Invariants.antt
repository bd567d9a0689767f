-- Of the places so far, those that the selection rejects.
use Rattle.dam_search.proofs.Common.{not, accepts}
use Rattle.dam_search.proofs.Sets.{IsSetSoFar}
use Rattle.dam_search.proofs.price_walk.rejected_under.Given as goal

abbrev pub invariant-loop-place : goal.invariant-loop-place
invariant-loop-place l = IsSetSoFar l.place (λ at. not (accepts l.selection at)) l.rejected
