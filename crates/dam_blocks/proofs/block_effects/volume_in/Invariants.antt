-- The pairs that are left have the same volume in the period as all of them.
use Rattle.dam_blocks.proofs.Common.{◌≡◌, drop, volume_in}
use Rattle.dam_blocks.proofs.block_effects.volume_in.Given as goal

abbrev pub invariant-loop-own : goal.invariant-loop-own
invariant-loop-own l = volume_in (drop l.own-index l.pairs) l.period ≡ volume_in l.volumes l.period
