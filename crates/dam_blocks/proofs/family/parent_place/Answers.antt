-- The first block that is named stands at the place of the parent.
use Rattle.dam_blocks.proofs.Common.{◌≡◌, ℕ, get_or, ap, ◌∙◌, sym, inl, inr, arith, rules, cases_lt, slice_get_read, get_or_from_slice_get, gets, common_steps}
use Rattle.dam_blocks.proofs.Common.{Block, names}
use Rattle.dam_blocks.proofs.Families.{first_parent, no_parent}
use Rattle.dam_blocks.proofs.family.parent_place.Goals as goal

pub loop-at-preserved : goal.loop-at-preserved
loop-at-preserved c k l = elim (cases_lt k c.loop-at.at) [
  | inl before ↦ c.loop-at.invariant k before
  | inr here ↦
      (let same : k ≡ c.loop-at.at = omega arith in
      let stands = slice_get_read c.args.blocks.now _ c.loop-at.at c.index-blocks-at.result (search rules) c.loop-at-test.true
      c.index-blocks-at.is in
      ap (λ (m : ℕ). names (get_or c.args.blocks.now m c.in-Some.child.now) c.in-Some.child.now) same
      ∙ ap (λ (b : Block). names b c.in-Some.child.now)
      (get_or_from_slice_get c.args.blocks.now c.loop-at.at c.index-blocks-at.result c.in-Some.child.now stands)
      ∙ search rules)
]

pub returns-then-is_parent : goal.returns-then-is_parent
returns-then-is_parent c =
    let stands = slice_get_read c.args.blocks.now _ c.loop-at.at c.index-blocks-at.result (search rules) c.loop-at-test.true
    c.index-blocks-at.is in
    sym (first_parent c.args.blocks.now c.args.place c.loop-at.at c.in-Some.child.now c.index-blocks-at.result
    (grind (arith, common_steps, gets, c.in-Some.ensures.lookup)) stands
    c.loop-at.invariant (search rules))

pub returns : goal.returns
returns c = sym (no_parent c.args.blocks.now c.args.place c.in-Some.child.now (grind (arith, common_steps, gets, c.in-Some.ensures.lookup))
    (λ k l. c.loop-at.invariant k (omega (arith, l))))

pub returns-then-has_no_parent : goal.returns-then-has_no_parent
returns-then-has_no_parent c =
    sym (no_parent c.args.blocks.now c.args.place c.in-Some.child.now (grind (arith, common_steps, gets, c.in-Some.ensures.lookup))
    (λ k l. c.has_no_parent.ensures c.if-has_no_parent.true (get_or c.args.blocks.now k c.in-Some.child.now)))
