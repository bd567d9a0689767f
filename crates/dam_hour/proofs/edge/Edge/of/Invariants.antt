-- The buys before `from` are served, and those from `to` on are not.
use Rattle.std.proofs.Common.{◌≤◌, ◌-◌, length}
use Rattle.dam_hour.proofs.Rungs.{AreAround}
use Rattle.dam_hour.proofs.edge.Edge.of.Given as goal

abbrev pub invariant-loop-from : goal.invariant-loop-from
invariant-loop-from g l = record {
  ordered : l.from ≤ l.to;
  within : l.to ≤ length l.buys;
  around : AreAround l.hour l.buys l.net l.last l.next l.from l.to;
}

abbrev pub decreases-loop-from : goal.decreases-loop-from
decreases-loop-from g l = l.to - l.from
