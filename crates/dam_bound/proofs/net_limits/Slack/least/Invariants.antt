-- The least of the slacks so far.
use Rattle.dam_bound.proofs.Limiting.{IsLeast}
use Rattle.dam_bound.proofs.net_limits.Slack.least.Given as goal

abbrev pub invariant-loop-k : goal.invariant-loop-k
invariant-loop-k l = IsLeast l.self.slacks l.k l.least
