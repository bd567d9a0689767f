-- The rows so far have their places, and are parted by their kind and period.
use Rattle.dam_blocks.proofs.Common.{◌≡◌, ◌++◌, drop, length, map, blocks_in}
use Rattle.dam_blocks.proofs.RowByRow.{IsPlacedSoFar}
use Rattle.dam_blocks.proofs.problem_making.split_orders.Given as goal

abbrev pub invariant-loop-place : goal.invariant-loop-place
invariant-loop-place g l = record {
  placed : IsPlacedSoFar l.book.periods l.book.rows l.place l.rows.items
      (map (λ steps. steps.items) l.hourly.items) (length l.blocks.items);
  blocks : l.blocks.items ++ blocks_in (drop l.place l.book.rows) ≡ blocks_in l.book.rows;
}
