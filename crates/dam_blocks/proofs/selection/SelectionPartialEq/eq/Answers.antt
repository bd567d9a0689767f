-- Two selections are equal if their numbers are.
use Rattle.std.proofs.Common.{rules}
use Rattle.dam_blocks.specs.inside.Bits.{same_bits}
use Rattle.dam_blocks.proofs.selection.SelectionPartialEq.eq.Goals as goal

pub returns : goal.returns
returns c = grind (rules, same_bits)
