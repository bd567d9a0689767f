-- A block more, and all of them.
use Rattle.dam_blocks.proofs.Common.{ℕ, ◌+◌, List, ◌∙◌, sym, subst, refl, rules, slice_get_read, names}
use Rattle.dam_blocks.proofs.Hindering.{AreFoundSoFar, found_more, found_same, found_all}
use Rattle.dam_blocks.proofs.hindrances.parent_places.Goals.{then-is_parent, else-is_parent}
use Rattle.dam_blocks.proofs.hindrances.parent_places.Goals as goal

pub loop-at-preserved : goal.loop-at-preserved
loop-at-preserved c =
    let blocks = c.args.blocks.now in let at = c.loop-at.at in let places = c.loop-at.places.items in
    let other = c.index-blocks-at.result in
    let stands = slice_get_read blocks _ at other refl c.loop-at-test.true c.index-blocks-at.is in
    elim c.if-is_parent.branch [
      | then-is_parent w ↦
          found_more (λ b. names b c.args.block.now) blocks at other places c.if-is_parent.places.items stands
          (sym c.is_parent.ensures.test ∙ w.if-is_parent.true) (search rules) c.loop-at.invariant
      | else-is_parent w ↦
          subst (λ (xs : List ℕ). AreFoundSoFar (λ b. names b c.args.block.now) blocks (at + 1) xs) (search rules)
          (found_same (λ b. names b c.args.block.now) blocks at other places stands (sym c.is_parent.ensures.test ∙ w.if-is_parent.false)
          c.loop-at.invariant)
    ]

pub returns : goal.returns
returns c =
    found_all (λ b. names b c.args.block.now) c.args.blocks.now c.loop-at.at c.loop-at.places.items c.loop-at-test.false c.loop-at.invariant
