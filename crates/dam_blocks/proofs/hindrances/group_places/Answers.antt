-- A block more, and all of them.
use Rattle.dam_blocks.proofs.Common.{ℕ, ◌+◌, List, ◌∙◌, sym, subst, refl, rules, slice_get_read, are_of_one_group}
use Rattle.dam_blocks.proofs.Hindering.{AreFoundSoFar, found_more, found_same, found_all}
use Rattle.dam_blocks.proofs.hindrances.group_places.Goals.{then-are_of_one_group, else-are_of_one_group}
use Rattle.dam_blocks.proofs.hindrances.group_places.Goals as goal

pub loop-at-preserved : goal.loop-at-preserved
loop-at-preserved c =
    let blocks = c.args.blocks.now in let at = c.loop-at.at in let places = c.loop-at.places.items in
    let other = c.index-blocks-at.result in
    let stands = slice_get_read blocks _ at other refl c.loop-at-test.true c.index-blocks-at.is in
    elim c.if-are_of_one_group.branch [
      | then-are_of_one_group w ↦
          found_more (λ b. are_of_one_group c.args.block.now b) blocks at other places c.if-are_of_one_group.places.items stands
          (sym c.are_of_one_group.ensures ∙ w.if-are_of_one_group.true) (search rules) c.loop-at.invariant
      | else-are_of_one_group w ↦
          subst (λ (xs : List ℕ). AreFoundSoFar (λ b. are_of_one_group c.args.block.now b) blocks (at + 1) xs) (search rules)
          (found_same (λ b. are_of_one_group c.args.block.now b) blocks at other places stands (sym c.are_of_one_group.ensures ∙ w.if-are_of_one_group.false)
          c.loop-at.invariant)
    ]

pub returns : goal.returns
returns c =
    found_all (λ b. are_of_one_group c.args.block.now b) c.args.blocks.now c.loop-at.at c.loop-at.places.items c.loop-at-test.false c.loop-at.invariant
