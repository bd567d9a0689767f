-- A problem's blocks are within their limits.
use Rattle.dam_blocks.proofs.Common.{◌≡◌, Some, length, ap, sym, ◌∙◌, rules, arith, List, common_steps, gets, Block}
use Rattle.std.proofs.Common.{slice_get}
use Rattle.dam_blocks.proofs.Readers.{block_is}
use Rattle.dam_blocks.proofs.problem.Problem.block.Goals as goal

pub returns-clause-limits : goal.returns-clause-limits
returns-clause-limits g c =
    let at : slice_get c.blocks-2.result.now c.args.place ≡ Some c.in_ok-block.block.now =
    grind (arith, common_steps, gets, c.in_ok-block.ensures.lookup) in
    let here = ap (λ (bs : List Block). slice_get bs c.args.place) (sym c.blocks-2.ensures.value) ∙ at in
    let is = block_is (length c.args.self.now.hours) c.args.self.now.blocks c.args.place c.in_ok-block.block.now here (search rules) in
    (is.order, is.in_day)
