-- The net volumes of the blocks so far.
use Rattle.dam_bound.proofs.Common.{◌≡◌, ◌+◌, take, most_blocks, net_volume_of_block, at_places}
use Rattle.dam_bound.proofs.class_making.net_volumes_in.Given as goal

abbrev pub invariant-loop-place : goal.invariant-loop-place
invariant-loop-place l = l.nets ≡ at_places most_blocks (net_volume_of_block (l.at + 1)) (take l.place l.blocks)
