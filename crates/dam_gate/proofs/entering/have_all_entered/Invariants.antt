-- Those so far have.
use Rattle.std.proofs.Common.{ℕ, ◌<◌, get_or}
use Rattle.dam_gate.specs.Pass.{Knowledge, IsKnowledge}
use Rattle.dam_gate.specs.inside.Entering.{HasAll, places_of}
use Rattle.dam_gate.proofs.entering.have_all_entered.Given as goal

abbrev pub invariant-loop-place : goal.invariant-loop-place
invariant-loop-place g l = record {
  all : (i : ℕ) (d : Knowledge) → i < l.place → HasAll (places_of l.all_places i) (get_or l.passes i d).account;
  valid : (i : ℕ) (d : Knowledge) → i < l.place → IsKnowledge (get_or l.passes i d);
}
