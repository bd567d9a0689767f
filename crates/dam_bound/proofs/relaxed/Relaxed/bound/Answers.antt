-- A period more, all of them, and one that doesn't balance.
use Rattle.dam_bound.proofs.Common.{◌≡◌, List, ◌++◌, drop, map, length, ap, ◌∙◌, sym, rules, arith, slice_get, ints, slice_get_read, Step, Block, ProblemState}
use Rattle.dam_bound.proofs.Common.{period_welfare, as_steps, last_steps}
use Rattle.std.proofs.lemmas.List.{length-map}
use Rattle.dam_bound.proofs.Bounding.{one_bound, none_bound, all_bound}
use Rattle.dam_bound.proofs.Covering.{padded_welfare}
use Rattle.dam_bound.proofs.DayLevels.{hour_of}
use Rattle.dam_bound.proofs.relaxed.Relaxed.bound.Goals as goal

pub loop-place-preserved : goal.loop-place-preserved
loop-place-preserved g c =
    let at = slice_get_read _ _ c.loop-place.place _ (search rules) c.loop-place-test.true c.levels-item.is in
    let periods = ap (λ (ls : _). slice_get ls c.loop-place.place) (sym c.deref-levels-items.ensures.value) ∙ at in
    let hours : c.args.self.now.hours ≡ map last_steps c.self.inside.periods.items =
    ap (λ (p : ProblemState). p.hours) (sym c.self.view_is) in
    let blocks : c.deref.result.now ≡ c.args.self.now.blocks = c.deref.ensures.value ∙ ap (λ (p : ProblemState). p.blocks) c.self.view_is in
    let there = ap (λ (hs : List (List Step)). slice_get hs c.loop-place.place) hours
    ∙ hour_of c.self.inside.periods.items c.loop-place.place c.levels-item.result periods in
    let welfare = c.in_ok-welfare.ensures.value
    ∙ ap (λ (bs : List Block). period_welfare bs c.args.accepted c.at-period.result
    (last_steps c.levels-item.result ++ as_steps c.at-period.result (drop c.args.depth bs))) blocks in
    let few = c.self.invariant.0.few_periods in let long = ap length c.deref-levels-items.ensures.value in let inside =
    c.loop-place-test.true in
    let low = c.loop-place.invariant.low in let high = c.loop-place.invariant.high in
    one_bound c.args.self.now.blocks c.args.accepted (drop c.args.depth c.args.self.now.blocks)
    c.args.self.now.hours c.loop-place.place c.at-period.result (last_steps c.levels-item.result)
    c.in_ok-welfare.welfare _ _ there c.at-period.ensures welfare c.in_ok-welfare.ensures.size
    (omega (arith, ints, few, long, inside, low, high, c.in_ok-welfare.ensures.size.at_least, c.in_ok-welfare.ensures.size.at_most))
    c.loop-place.invariant

pub returns-in_err-welfare : goal.returns-in_err-welfare
returns-in_err-welfare g c prefix depth is =
    let at = slice_get_read _ _ c.loop-place.place _ (search rules) c.loop-place-test.true c.levels-item.is in
    let periods = ap (λ (ls : _). slice_get ls c.loop-place.place) (sym c.deref-levels-items.ensures.value) ∙ at in
    let hours : c.args.self.now.hours ≡ map last_steps c.self.inside.periods.items =
    ap (λ (p : ProblemState). p.hours) (sym c.self.view_is) in
    let blocks : c.deref.result.now ≡ c.args.self.now.blocks = c.deref.ensures.value ∙ ap (λ (p : ProblemState). p.blocks) c.self.view_is in
    let there = ap (λ (hs : List (List Step)). slice_get hs c.loop-place.place) hours
    ∙ hour_of c.self.inside.periods.items c.loop-place.place c.levels-item.result periods in
    let none = c.in_err-welfare.ensures.value
    ∙ ap (λ (bs : List Block). period_welfare bs c.args.accepted c.at-period.result
    (last_steps c.levels-item.result ++ as_steps c.at-period.result (drop c.args.depth bs))) blocks in
    c.from_residual.ensures
    ∙ none_bound c.args.self.now.blocks c.args.accepted (drop c.args.depth c.args.self.now.blocks)
    c.args.self.now.hours c.loop-place.place c.at-period.result (last_steps c.levels-item.result) _
    there c.at-period.ensures none c.loop-place.invariant
    ∙ padded_welfare (record { parted = c.sums_split_at_fronts.ensures.parted; padded = c.sums_split_at_fronts.ensures.padded })
    c.args.self.now.blocks prefix c.args.accepted c.args.depth c.args.self.now.hours depth is

pub returns : goal.returns
returns g c prefix depth is =
    let hours = ap (λ (p : ProblemState). length p.hours) (sym c.self.view_is) ∙ length-map c.self.inside.periods.items last_steps
    ∙ sym (ap length c.deref-levels-items.ensures.value) in
    all_bound c.args.self.now.blocks c.args.accepted (drop c.args.depth c.args.self.now.blocks) c.args.self.now.hours c.loop-place.place _
    (omega (arith, hours, c.loop-place-test.false)) c.loop-place.invariant
    ∙ padded_welfare (record { parted = c.sums_split_at_fronts.ensures.parted; padded = c.sums_split_at_fronts.ensures.padded })
    c.args.self.now.blocks prefix c.args.accepted c.args.depth c.args.self.now.hours depth is
