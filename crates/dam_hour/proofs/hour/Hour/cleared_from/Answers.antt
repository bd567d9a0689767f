-- The welfare is the welfare of the best execution, which has these totals.
use Rattle.dam_hour.proofs.Common.{◌≡◌, ℤ, pos, ◌+ℤ◌, ◌*ℤ◌, ap, ◌∙◌, rules, to_z-of_z, w64, to_z, of_z, AreBestTotals, full_surplus}
use mir.Val.{SFits}
use Rattle.dam_hour.proofs.Answering.{best_totals}
use Rattle.dam_hour.proofs.Magnitude.{best_small}
use Rattle.dam_hour.proofs.hour.Hour.cleared_from.Goals as goal

pub returns : goal.returns
returns g c =
    let steps = c.args.self.now in let net = c.args.net in let traded = c.args.traded.now in
    let fits : SFits w64 c.welfare_at_price.result = search rules in
    let held = to_z w64 (of_z w64 c.welfare_at_price.result) in
    let welfare : held ≡ pos (full_surplus traded.low steps) +ℤ traded.low *ℤ net =
    to_z-of_z w64 c.welfare_at_price.result fits ∙ c.welfare_at_price.ensures
    ∙ ap (λ (z : ℤ). pos (full_surplus traded.low steps) +ℤ traded.low *ℤ z) (to_z-of_z w64 net c.ranges.net) in
    let totals : AreBestTotals steps net traded.bought traded.sold held =
    best_totals steps net traded.low traded.bought traded.sold held c.requires.totals welfare in
    record {
      ends = c.requires.ends;
      price_is = c.price_between.ensures;
      totals = totals;
      small = best_small steps net traded.bought traded.sold held c.len-few.ensures.steps.in_range totals;
    }
