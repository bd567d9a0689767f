-- The two products and their sum fit.
use Rattle.dam_bound.proofs.Common.{◌*◌, sym, subst, greatest_volume, IsWithin}
use Rattle.dam_bound.proofs.Rivalry.{weigh_exact, weigh_within}
use Rattle.dam_bound.proofs.rivals.Weights.weigh.Goals as goal

pub overflow_add-result : goal.overflow_add-result
overflow_add-result c = (weigh_exact c.args.self c.args.sell c.args.buy c.requires.weights c.requires.sell c.requires.buy).0

pub returns-clause-value : goal.returns-clause-value
returns-clause-value c = (weigh_exact c.args.self c.args.sell c.args.buy c.requires.weights c.requires.sell c.requires.buy).1

pub returns-clause-size : goal.returns-clause-size
returns-clause-size c n sell buy =
    subst (IsWithin (2 * (greatest_volume * n)))
    (sym (weigh_exact c.args.self c.args.sell c.args.buy c.requires.weights c.requires.sell c.requires.buy).1)
    (weigh_within c.args.self c.args.sell c.args.buy n c.requires.weights sell buy)
