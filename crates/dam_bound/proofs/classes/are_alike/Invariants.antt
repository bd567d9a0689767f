-- The blocks so far are alike.
use Rattle.dam_bound.proofs.Common.{◌≡◌, drop, are_alike}
use Rattle.dam_bound.proofs.classes.are_alike.Given as goal

abbrev pub invariant-loop-block : goal.invariant-loop-block
invariant-loop-block l = are_alike (drop l.block-index l.blocks) l.fn.one l.fn.other ≡ are_alike l.blocks l.fn.one l.fn.other
