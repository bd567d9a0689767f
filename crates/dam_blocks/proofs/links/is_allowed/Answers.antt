-- Its parent is accepted if it has one, and no more of its group than may be.
use Rattle.dam_blocks.proofs.Common.{◌∙◌, sym, arith, nat_tests}
use Rattle.dam_blocks.proofs.Hindering.{allowed_by, parents_accepted, group_within}
use Rattle.dam_blocks.proofs.links.is_allowed.Goals as goal

pub returns-then-count_accepted-parents : goal.returns-then-count_accepted-parents
returns-then-count_accepted-parents g c =
    let blocks = c.args.problem.now.blocks in let own = c.in-Some.hindrances.now in
    let parents = c.as_slice-parents in let group = c.as_slice-group in
    let all = c.count_accepted.ensures in let some = c.count_accepted-then-count_accepted-parents.ensures in
    let as_many = c.if-count_accepted-parents.true in (
      λ t. allowed_by blocks c.args.selection c.args.place own parents.result.now group.result.now c.in-Some.ensures.some.1
          parents.ensures.value group.ensures.value (sym all ∙ as_many) (grind (arith, nat_tests, some, t)),
      λ allowed.
          (let few = group_within blocks c.args.selection c.args.place own group.result.now c.in-Some.ensures.some.1 group.ensures.value allowed in
          grind (arith, nat_tests, some, few)),
    )

pub returns-else-count_accepted-parents : goal.returns-else-count_accepted-parents
returns-else-count_accepted-parents g c =
    let blocks = c.args.problem.now.blocks in let own = c.in-Some.hindrances.now in
    let parents = c.as_slice-parents in
    let all = c.count_accepted.ensures in let fewer = c.if-count_accepted-parents.false in (
      λ t. absurd (grind (arith, nat_tests, fewer, t)),
      λ allowed.
          (let as_many = parents_accepted blocks c.args.selection c.args.place own parents.result.now c.in-Some.ensures.some.1
          parents.ensures.value allowed in
          absurd (fewer (all ∙ as_many))),
    )
