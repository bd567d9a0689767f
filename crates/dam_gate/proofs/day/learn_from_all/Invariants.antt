-- It has learnt all that those so far have seen.
use Rattle.std.proofs.Common.{◌≡◌, ℕ, ◌<◌, get_or}
use mathlib.Core.List.{IsPrefix}
use Rattle.dam_gate.specs.Pass.{Knowledge, after_learning}
use Rattle.dam_gate.proofs.day.learn_from_all.Given as goal

abbrev pub invariant-loop-other : goal.invariant-loop-other
invariant-loop-other g l = record {
  pass : l.pass ≡ after_learning l.initial.pass l.pass.learnt;
  learnt : (i : ℕ) (d : Knowledge) → i < l.other-index → IsPrefix (get_or l.others i d).history l.pass.learnt;
}
