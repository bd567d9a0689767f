-- The steps are sorted by their height.
use Rattle.std.proofs.Common.{rules}
use Rattle.std.proofs.lemmas.List.Sorted.{IsNonDecreasingBy-from_sort_by_key}
use Rattle.dam_curve.specs.Supply.{height_of}
use Rattle.dam_curve.proofs.Sorting.{same_total}
use Rattle.dam_curve.proofs.supply.Supply.of.Goals as goal

pub returns : goal.returns
returns g c = record {
  is_hour = c.requires;
  same = same_total _ _ (search rules);
  rises = IsNonDecreasingBy-from_sort_by_key (λ s. height_of s.price) _ c.sort_unstable_by_key.ensures.sorted (λ a r q k. search rules);
}
