-- The slacks so far are lowered, and the others are as they were.
use Rattle.std.proofs.Common.{◌≡◌, ℕ, ◌<◌, ◌≤◌, ℤ, pos, ◌-ℤ◌, length, get_or}
use Rattle.dam_bound.specs.NetLimits.{most_limits, limit_in, slack_taken}
use Rattle.dam_bound.proofs.net_limits.NetLimits.lowered.Given as goal

abbrev pub invariant-loop-k : goal.invariant-loop-k
invariant-loop-k l = record {
  many : length l.slacks ≡ most_limits;
  lowered : (i : ℕ) (d : ℤ) → i < l.k
      → get_or l.slacks i d ≡ get_or l.slack.slacks i d -ℤ slack_taken l.accept (get_or (limit_in l.self.limits i).nets l.place (pos 0));
  rest : (i : ℕ) (d : ℤ) → l.k ≤ i → get_or l.slacks i d ≡ get_or l.slack.slacks i d;
}
