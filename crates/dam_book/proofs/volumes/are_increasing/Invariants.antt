-- The pairs that are left increase from here exactly if all of them do, and are in range only if all of them are.
use Rattle.dam_book.proofs.Common.{ArePairs, drop, is_increasing, ◌≡◌}
use Rattle.dam_book.proofs.volumes.are_increasing.Given as goal

abbrev pub invariant-loop-period : goal.invariant-loop-period
invariant-loop-period l = record {
  order : is_increasing l.low (drop l.period-index l.pairs) ≡ is_increasing 0 l.pairs;
  ranges : ArePairs (drop l.period-index l.pairs) → ArePairs l.pairs;
}
