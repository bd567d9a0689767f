-- The first places of the periods so far.
use Rattle.dam_bound.proofs.Common.{◌≡◌, ◌<◌, ℕ, length, slice_index_or, last_period}
use Rattle.dam_bound.specs.Classes.{first_of_class}
use Rattle.dam_bound.proofs.classes.firsts_of_classes.Given as goal

abbrev pub invariant-loop-at : goal.invariant-loop-at
invariant-loop-at l = record {
  long : length l.firsts ≡ last_period;
  each : (i d : ℕ) → i < l.at → slice_index_or l.firsts i d ≡ first_of_class l.blocks i;
}
