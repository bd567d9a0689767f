-- A problem's hours are in range, and few enough.
use Rattle.dam_blocks.proofs.Common.{◌≡◌, ◌-◌, Some, ap, sym, ◌∙◌, arith, List, common_steps, gets, Step}
use Rattle.std.proofs.Common.{slice_get}
use Rattle.dam_blocks.proofs.Readers.{hour_is}
use Rattle.dam_blocks.proofs.problem.Problem.hour.Goals as goal

pub returns-clause-steps : goal.returns-clause-steps
returns-clause-steps g c =
    let at : slice_get c.hours.result.now (c.from.result - 1) ≡ Some c.in_ok-hour.hour.now =
    grind (arith, common_steps, gets, c.in_ok-hour.ensures.lookup) in
    let here = ap (λ (hs : List (List Step)). slice_get hs (c.from.result - 1)) (sym c.hours.ensures.value) ∙ at in
    hour_is c.args.self.now.hours (c.from.result - 1) c.in_ok-hour.hour.now here c.hours.ensures.valid.hours
    c.hours.ensures.valid.few_hourly
