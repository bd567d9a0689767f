-- Either decision.
use Rattle.std.proofs.Common.{not, ◌∙◌, ap, sym}
use Rattle.dam_search.proofs.price_walk.PriceWalk.forbids.Goals as goal

pub returns-then-accept : goal.returns-then-accept
returns-then-accept g c forbidden selection welfare e all none =
    c.forbids_accepting.ensures forbidden c.args.self.now.problem.now selection welfare c.args.self.now.are_conflicts e all none ∙ sym (ap not c.if-accept.true)

pub returns-else-accept : goal.returns-else-accept
returns-else-accept g c forbidden selection welfare e all none =
    c.forbids_rejecting.ensures forbidden c.args.self.now.problem.now selection welfare c.args.self.now.are_conflicts e all ∙ sym (ap not c.if-accept.false)
