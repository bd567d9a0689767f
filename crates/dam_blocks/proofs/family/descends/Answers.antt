-- If the parent is another block, the chain goes on from it.
use Rattle.dam_blocks.proofs.Common.{◌≡◌, ℕ, ◌+◌, ◌-◌, Option, length, ap, ◌∙◌, arith, rules, leads_to}
use Rattle.dam_blocks.proofs.Families.{next_link}
use Rattle.dam_blocks.proofs.family.descends.Goals as goal

pub loop-preserved : goal.loop-preserved
loop-preserved c =
    let blocks = c.args.blocks.now in
    let left = length blocks - (c.loop.counter + 1) in
    let same : c.in-Some.at ≡ c.in-Some-2.at = search rules in
    ap (λ (o : Option ℕ). leads_to left blocks c.args.ancestor o) c.parent_place-parent-in-Some-2.ensures
    ∙ next_link blocks left (length blocks - c.loop.counter) c.args.ancestor c.in-Some-2.at c.loop.parent (omega (arith, c.loop-test.true))
    (λ e. c.if-at-ancestor.false (same ∙ e)) c.in-Some-2.is
    ∙ c.loop.invariant
