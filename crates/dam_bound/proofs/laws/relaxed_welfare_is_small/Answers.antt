-- Each hourly order and each block stands as one step of an execution.
use Rattle.dam_bound.proofs.Ranges.{relaxed_size}
use Rattle.dam_bound.proofs.laws.relaxed_welfare_is_small.Goals as goal

pub returns : goal.returns
returns c = relaxed_size (record {
  joined = c.executions_join.ensures.joined;
  parted = c.executions_join.ensures.parted;
  volume = c.executions_join.ensures.volume;
  welfare = c.executions_join.ensures.welfare;
  reached = c.best_has_greatest_welfare.ensures.reached;
  bound = c.best_has_greatest_welfare.ensures.bound;
  some = c.best_has_greatest_welfare.ensures.some;
  small = c.executions_are_small.ensures;
  sums = record { parted = c.sums_split_at_fronts.ensures.parted; padded = c.sums_split_at_fronts.ensures.padded };
})
