-- A decision leaves one place less.
use Rattle.std.proofs.Common.{◌+◌, ◌*◌, length}
use Rattle.dam_search.proofs.price_walk.PriceWalk.+visit.Given as goal

abbrev pub decreases-visit : goal.decreases-visit
decreases-visit g l = 4 * length l.node.now.undecided.now + 3

abbrev pub decreases-branch_repriced : goal.decreases-branch_repriced
decreases-branch_repriced g l = 4 * length l.node.now.undecided.now + 2

abbrev pub decreases-branch : goal.decreases-branch
decreases-branch g l = 4 * length l.node.now.undecided.now + 1

abbrev pub decreases-walk_decision : goal.decreases-walk_decision
decreases-walk_decision g l = 4 * length l.rest.now + 4
