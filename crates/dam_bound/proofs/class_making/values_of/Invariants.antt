-- The values of the blocks so far.
use Rattle.dam_bound.proofs.Common.{◌≡◌, take, most_blocks, value_in, at_places, over_periods}
use Rattle.dam_bound.proofs.class_making.values_of.Given as goal

abbrev pub invariant-loop-place : goal.invariant-loop-place
invariant-loop-place l = l.values ≡ at_places most_blocks (λ o. over_periods (λ t. value_in t o) 1 l.count) (take l.place l.blocks)
