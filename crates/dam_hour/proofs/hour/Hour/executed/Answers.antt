-- The volume is the best execution's at the place: the traded volume less the volume before the
-- step.
use Rattle.dam_hour.proofs.Common.{◌≡◌, ℕ, ℤ, min, ◌-◌, Some, List, sym, subst, ◌∙◌, ap, ap₂, slice_get, to_z-of_z, slice_get-get_or, w64, Step, AreTotals}
use Rattle.std.proofs.lemmas.Option.{slice_get_past}
use Rattle.dam_hour.proofs.Answering.{best_volume, past_answer}
use Rattle.dam_hour.proofs.Positions.{share_from_before}
use Rattle.dam_hour.proofs.hour.Hour.executed.Goals as goal

pub returns-in_err-step-clause-best : goal.returns-in_err-step-clause-best
returns-in_err-step-clause-best g c xs best =
    let steps = c.steps-steps.result.now in
    c.from_residual.ensures
    ∙ past_answer c.args.self.now steps c.args.net c.args.place c.steps-steps.ensures.value
    (slice_get_past steps c.args.place c.in_err-step.ensures.lookup.3) xs best

pub returns-clause-best : goal.returns-clause-best
returns-clause-best g c =
    let steps = c.args.self.now in
    let step = c.in_ok-step.field-0.now in
    let traded = c.in_ok-traded.traded in
    let found = c.in_ok-step.ensures.lookup in
    let at : slice_get steps c.args.place ≡ Some step =
    ap (λ (all : List Step). slice_get all c.args.place) (sym c.steps-steps.ensures.value)
    ∙ slice_get-get_or c.steps-steps.result.now c.args.place step found.3.0 ∙ ap (λ (s : Step). Some s) (sym found.1) in
    let totals = subst (λ (z : ℤ). AreTotals steps z traded.low traded.bought traded.sold)
    (to_z-of_z w64 c.args.net c.ranges.net) c.in_ok-traded.ensures.totals in
    best_volume steps c.args.net traded.low traded.bought traded.sold c.args.place step _ totals at
    (c.min.ensures
    ∙ ap₂ (λ (a b : ℕ). min a b) c.volume.ensures.value
    (c.saturating_sub-left.ensures ∙ ap₂ (λ (a b : ℕ). a - b) c.on.ensures c.volume_before-before.ensures.value)
    ∙ share_from_before steps c.args.net traded.low traded.bought traded.sold c.args.place step totals at)
