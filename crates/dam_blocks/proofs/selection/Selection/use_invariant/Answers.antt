-- There are as many bits as places.
use Rattle.dam_blocks.proofs.Common.{List, Bool, length, ap, ◌∙◌, sym, most_blocks}
use Rattle.dam_blocks.proofs.Bits.{length-flags}
use Rattle.dam_blocks.proofs.selection.Selection.use_invariant.Goals as goal

pub returns : goal.returns
returns c = sym (ap (λ (xs : List Bool). length xs) c.self.view_is) ∙ length-flags most_blocks c.self.inside.accepted
