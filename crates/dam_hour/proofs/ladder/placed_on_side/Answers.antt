-- A step joins those of its side, and one of the other side is passed over.
use Rattle.dam_hour.proofs.Common.{◌≡◌, ◌<◌, ◌+◌, List, ◌∷◌, [], ◌++◌, length, drop, ap, ◌∙◌, sym, subst, rules, arith, drop_more, Step, PlacedStep, sort_key_of}
use Rattle.std.proofs.lemmas.List.{length-append}
use Rattle.dam_hour.proofs.Ladders.{AreSoFar, placed_more, passed_over}
use Rattle.dam_hour.proofs.ladder.placed_on_side.Goals as goal
use Rattle.dam_hour.proofs.ladder.placed_on_side.Goals.{then-eq+in_ok-push, else-eq}

pub loop-place-preserved : goal.loop-place-preserved
loop-place-preserved g c =
    let step = c.index-steps-place.result in
    let rest = drop (c.loop-place.place + 1) c.args.steps.now in
    let within : c.loop-place.place < length c.args.steps.now = search rules in
    let opened : drop c.loop-place.place c.args.steps.now ≡ step ∷ rest =
    drop_more c.args.steps.now c.loop-place.place step within ∙ ap (λ (u : Step). u ∷ rest) (sym c.index-steps-place.is) in
    let so_far = subst (λ (ss : List Step). AreSoFar c.args.side c.loop-place.placed.items c.loop-place.place ss c.args.steps.now) opened
    c.loop-place.invariant.so_far in
    let few = c.loop-place.invariant.few in
    elim c.if-eq.branch [
      | then-eq+in_ok-push w ↦
          (let sort_key = w.sort_key_of-sort_key.ensures.sort_key in
          let placed = ap (λ (n : _). c.loop-place.placed.items ++ record { sort_key = n; step = step } ∷ []) sort_key in
          let pushed = ap (λ (v : _). v.items) w.placed-is ∙ w.in_ok-push.ensures.items ∙ placed in
          let more = placed_more c.args.side c.loop-place.placed.items c.loop-place.place step rest c.args.steps.now (search rules)
          so_far in
          let long = ap length pushed
          ∙ length-append c.loop-place.placed.items
          (record { sort_key = sort_key_of c.args.side step.price c.loop-place.place; step = step } ∷ []) in
          record {
            few = omega (arith, few, long);
            so_far = subst (λ (ps : List PlacedStep). AreSoFar c.args.side ps (c.loop-place.place + 1) rest c.args.steps.now) (sym pushed) more;
          })
      | else-eq w ↦
          (let same = ap (λ (v : _). v.items) w.placed-is in
          let over = passed_over c.args.side c.loop-place.placed.items c.loop-place.place step rest c.args.steps.now
          (λ e. absurd (search rules)) so_far in
          let long = ap length same in
          record {
            few = omega (arith, few, long);
            so_far = subst (λ (ps : List PlacedStep). AreSoFar c.args.side ps (c.loop-place.place + 1) rest c.args.steps.now) (sym same) over;
          })
    ]
