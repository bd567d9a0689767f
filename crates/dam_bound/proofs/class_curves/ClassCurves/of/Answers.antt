-- The parts are those of the problem.
use Rattle.dam_bound.proofs.Common.{◌≡◌, ◌∙◌, ℕ, length, List, ap₂, subst, arith, most_blocks, Block, value_in, at_places, over_periods}
use Rattle.dam_bound.specs.inside.Families.{AreFamilies}
use Rattle.dam_bound.proofs.Ranges.{day_small}
use Rattle.dam_bound.proofs.class_curves.ClassCurves.of.Goals as goal

pub invariant_of-result : goal.invariant_of-result
invariant_of-result g c =
    let count : c.from.result ≡ length c.args.problem.now.hours =
    omega (arith, c.periods.ensures.value, c.get.ensures.value, c.from.ensures) in
    record {
      few_periods = day_small (length c.args.problem.now.hours) c.periods.ensures.valid.day;
      few_blocks = c.periods.ensures.valid.few_blocks;
      blocks_are = c.periods.ensures.valid.blocks;
      classes_are = c.in_ok-classes.ensures;
      values_are = c.values_of-values.ensures
          ∙ ap₂ (λ (bs : List Block) (n : ℕ). at_places most_blocks (λ o. over_periods (λ t. value_in t o) 1 n) bs) c.blocks-2.ensures.value count;
      families_are = subst (λ (bs : List Block). AreFamilies bs c.in_ok-families.families.items) c.blocks-3.ensures.value
          c.in_ok-families.ensures;
    }
