-- A decision is on one block more.
use Rattle.std.proofs.Common.{◌-◌, length}
use Rattle.dam_search.proofs.prefix_walk.PrefixWalk.+visit.Given as goal

abbrev pub decreases-visit : goal.decreases-visit
decreases-visit g l = length l.self.now.problem.now.blocks - length l.prefix.now
