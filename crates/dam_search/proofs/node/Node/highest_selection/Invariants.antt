-- The places so far are accepted.
use Rattle.dam_search.proofs.Common.{◌≡◌, drop, with_all}
use Rattle.dam_search.proofs.node.Node.highest_selection.Given as goal

abbrev pub invariant-loop-place : goal.invariant-loop-place
invariant-loop-place l = with_all l.highest (drop l.place-index l.self.undecided.now) ≡ with_all l.self.accepted l.self.undecided.now
