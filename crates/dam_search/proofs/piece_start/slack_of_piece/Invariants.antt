-- The slack that the decisions so far leave.
use Rattle.dam_search.proofs.Common.{◌≡◌, ℕ, ◌<◌, ℤ, Bool, List, not, get_or, nat_lt, ProblemState, IsEligible, limit_in, AreLimits, HasSlack}
use Rattle.dam_bound.specs.NetLimits.{most_limits, AreSlacks}
use Rattle.dam_search.specs.inside.PriceWalk.{slack_left, AgreesUnder}
use Rattle.dam_search.proofs.piece_start.slack_of_piece.Given as goal

abbrev pub invariant-loop-place : goal.invariant-loop-place
invariant-loop-place l = record {
  slacks : AreSlacks l.slack.slacks;
  has : (problem : ProblemState) (selection : List Bool) (welfare : ℤ) → AreLimits problem l.net_limits.limits → IsEligible problem selection welfare
      → AgreesUnder l.place l.accepted selection → HasSlack l.net_limits.limits selection (λ place. not (nat_lt place l.place)) l.slack.slacks;
  left : (k : ℕ) (d : ℤ) → k < most_limits → get_or l.slack.slacks k d ≡ slack_left (limit_in l.net_limits.limits k) l.accepted l.place;
}
