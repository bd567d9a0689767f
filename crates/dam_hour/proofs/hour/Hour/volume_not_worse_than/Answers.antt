-- No step stands after the last place.
use Rattle.dam_hour.proofs.Common.{◌+◌, List, ap, ◌∙◌, Step, most_steps, better_volume, at_volume}
use Rattle.std.proofs.lemmas.List.{take_all}
use Rattle.dam_hour.proofs.hour.Hour.volume_not_worse_than.Goals as goal

pub returns-clause-value : goal.returns-clause-value
returns-clause-value g c =
    c.volume_before.ensures.value
    ∙ ap (λ (ss : List Step). better_volume c.args.side c.args.price c.args.self.now + at_volume c.args.side c.args.price ss)
    (take_all most_steps c.args.self.now c.volume_before.ensures.steps.few)
