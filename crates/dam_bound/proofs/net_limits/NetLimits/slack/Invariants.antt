-- The slacks so far.
use Rattle.dam_bound.proofs.Common.{◌≡◌, ℕ, ◌<◌, ℤ, length, get_or, most_limits, limit_in}
use Rattle.dam_bound.proofs.net_limits.NetLimits.slack.Given as goal

abbrev pub invariant-loop-k : goal.invariant-loop-k
invariant-loop-k l = record {
  many : length l.slacks ≡ most_limits;
  each : (i : ℕ) (d : ℤ) → i < l.k → get_or l.slacks i d ≡ (limit_in l.self.limits i).slack;
}
