-- The prices at the ends of the curve.
use Rattle.std.proofs.Common.{◌≡◌, ◌<◌, ◌-◌, length, pos, sym, subst, rules, arith}
use Rattle.dam_curve.specs.Curve.{segments_at, IsCurve}
use Rattle.dam_curve.specs.declared.segment.Segment.{Segment}
use Rattle.dam_curve.proofs.Falling.{none_in, ends_in, end_price_narrow, last_there}
use Rattle.dam_curve.proofs.curves.Curves.price_range.Goals as goal

abbrev any : Segment
any = record { most = pos 0; price = pos 0; end_price = pos 0; surplus = pos 0 }

pub returns-then-curve-eq0-clause-prices : goal.returns-then-curve-eq0-clause-prices
returns-then-curve-eq0-clause-prices g c ps least most is =
    none_in c.best_has_greatest_welfare.ensures.some c.args.self.now c.args.curve ps least most (record { lowest = pos 0; highest = pos 0 }) is (search rules)

pub returns-clause-prices : goal.returns-clause-prices
returns-clause-prices g c ps least most is =
    let ls = c.segments_of-segments.result.now in
    let some : 0 < c.args.curve.count = search rules in
    let segments : ls ≡ segments_at c.args.self.now.segments c.args.curve = search rules in
    let curve = subst (IsCurve ps least most) (sym segments) is.is_curve in
    let last = last_there c.args.self.now c.args.curve ps least most ls is some segments in
    ends_in c.prices_fall_as_net_rises.ensures c.best_has_greatest_welfare.ensures.some c.args.self.now c.args.curve ps least most _ ls (length ls - 1) any is some segments last
    (end_price_narrow ps least most ls 0 any curve (omega (arith, last))).2
    (end_price_narrow ps least most ls (length ls - 1) any curve (omega (arith, last))).2

pub returns-clause-small : goal.returns-clause-small
returns-clause-small g c =
    let ls = c.segments_of-segments.result.now in
    let some : 0 < c.args.curve.count = search rules in
    let segments : ls ≡ segments_at c.args.self.now.segments c.args.curve = search rules in
    let is = c.requires.3 in
    let curve = subst (IsCurve c.requires.0 c.requires.1 c.requires.2) (sym segments) is.is_curve in
    let last = last_there c.args.self.now c.args.curve _ _ _ ls is some segments in
    let low = end_price_narrow c.requires.0 c.requires.1 c.requires.2 ls 0 any curve (omega (arith, last)) in
    let high = end_price_narrow c.requires.0 c.requires.1 c.requires.2 ls (length ls - 1) any curve (omega (arith, last)) in
    record { lowest_at_least = low.0; lowest_at_most = low.1; highest_at_least = high.0; highest_at_most = high.1 }
