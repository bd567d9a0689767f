-- A block with a volume adds an hour, and any other keeps the last one.
use Rattle.dam_bound.proofs.Common.{◌≡◌, ℕ, List, length, ◌-◌, drop, ◌∷◌, [], ◌++◌, get_or, ap, ◌∙◌, rules, arith, slice_get_read, get_or_from_slice_get, Step}
use Rattle.dam_bound.proofs.Common.{volume_in, as_steps}
use Rattle.std.proofs.lemmas.List.{length-append}
use Rattle.dam_bound.proofs.Levelling.{first_level, level_below, new_level, same_level, last_level, moved}
use Rattle.dam_bound.proofs.levels.Levels.of.Goals as goal
use Rattle.dam_bound.proofs.levels.Levels.of.Goals.{then-volume_in-gt0+in_ok-hour+in_ok-push-3, else-volume_in-gt0}

pub loop-block-init : goal.loop-block-init
loop-block-init g c =
    let hour = c.in_ok-relaxed_hour.field-0 in
    let hours = c.in_ok-push.ensures.items ∙ ap (λ (hs : List (List Step)). hs ++ hour ∷ []) c.new-hours.ensures.items in
    let places = c.in_ok-push-2.ensures.items ∙ ap (λ (ps : List ℕ). ps ++ 0 ∷ []) c.in_ok-places.ensures.items in
    moved hours places (first_level c.args.period c.args.steps.now c.args.blocks.now hour c.in_ok-relaxed_hour.ensures)

pub overflow_sub-len : goal.overflow_sub-len
overflow_sub-len g c =
    let some = c.loop-block.invariant.some in
    let long : c.len.result ≡ length c.loop-block.hours.items = search rules in
    omega (arith, some, long)

pub without-requires : goal.without-requires
without-requires g c =
    let at = slice_get_read _ _ _ _ (search rules) c.loop-block-test.true c.block-item.is in
    let volume = c.volume_in.ensures.value ∙ ap (λ (v : _). volume_in v c.args.period) c.volumes.ensures in
    let some = c.if-volume_in-gt0.true in
    let long : c.len.result ≡ length c.loop-block.hours.items = search rules in
    let above = c.index-above.ensures ∙ ap (λ (n : ℕ). get_or c.loop-block.hours.items (n - 1) c.index-above.result.now) long
    ∙ get_or_from_slice_get c.loop-block.hours.items (length c.loop-block.hours.items - 1)
    (c.args.steps.now ++ as_steps c.args.period (drop c.loop-block.block-index c.args.blocks.now)) c.index-above.result.now
    c.loop-block.invariant.last in
    (level_below c.args.period c.args.steps.now c.args.blocks.now c.loop-block.block-index c.block-item.result c.index-above.result.now at
    (omega (arith, volume, some)) above).0

pub overflow_sub-len-in-loop-block : goal.overflow_sub-len-in-loop-block
overflow_sub-len-in-loop-block g c =
    let some = c.loop-block.invariant.some in
    let long : c.len-in-loop-block.result ≡ length c.if-volume_in-gt0.hours.items = search rules in
    elim c.if-volume_in-gt0.branch [
      | then-volume_in-gt0+in_ok-hour+in_ok-push-3 w ↦
          (let pushed = ap length (ap (λ (v : _). v.items) w.hours-is ∙ w.in_ok-push-3.ensures.items) ∙ length-append
          c.loop-block.hours.items (w.in_ok-hour.hour ∷ []) in
          omega (arith, some, long, pushed))
      | else-volume_in-gt0 w ↦ (let same = ap length (ap (λ (v : _). v.items) w.hours-is) in omega (arith, some, long, same))
    ]

pub loop-block-preserved : goal.loop-block-preserved
loop-block-preserved g c =
    let at = slice_get_read _ _ _ _ (search rules) c.loop-block-test.true c.block-item.is in
    let volume = c.volume_in.ensures.value ∙ ap (λ (v : _). volume_in v c.args.period) c.volumes.ensures in
    let long : c.len-in-loop-block.result ≡ length c.if-volume_in-gt0.hours.items = search rules in
    elim c.if-volume_in-gt0.branch [
      | then-volume_in-gt0+in_ok-hour+in_ok-push-3 w ↦
          (let pushed : c.if-volume_in-gt0.hours.items ≡ c.loop-block.hours.items ++ w.in_ok-hour.hour ∷ [] = ap (λ (v : _). v.items)
          w.hours-is ∙ w.in_ok-push-3.ensures.items in
          let some = w.if-volume_in-gt0.true in
          let len : w.len.result ≡ length c.loop-block.hours.items = search rules in
          let above = w.index-above.ensures ∙ ap (λ (n : ℕ). get_or c.loop-block.hours.items (n - 1) w.index-above.result.now) len
          ∙ get_or_from_slice_get c.loop-block.hours.items (length c.loop-block.hours.items - 1)
          (c.args.steps.now ++ as_steps c.args.period (drop c.loop-block.block-index c.args.blocks.now)) w.index-above.result.now
          c.loop-block.invariant.last in
          let hour = w.in_ok-hour.ensures ∙ (level_below c.args.period c.args.steps.now c.args.blocks.now c.loop-block.block-index
          c.block-item.result w.index-above.result.now at (omega (arith, volume, some)) above).1 in
          let last = ap (λ n. n - 1) (long ∙ ap length pushed) in
          moved pushed c.in_ok-push-4.ensures.items
          (new_level c.args.period c.args.steps.now c.args.blocks.now c.loop-block.block-index c.loop-block.hours.items
          c.loop-block.places.items _ _ hour last c.loop-block.invariant))
      | else-volume_in-gt0 w ↦
          (let same = ap (λ (v : _). v.items) w.hours-is in
          let none = w.if-volume_in-gt0.false in
          moved same c.in_ok-push-4.ensures.items
          (same_level c.args.period c.args.steps.now c.args.blocks.now c.loop-block.block-index c.loop-block.hours.items
          c.loop-block.places.items c.block-item.result _ at (omega (arith, volume, none)) (ap (λ n. n - 1) (long ∙ ap length same))
          c.loop-block.invariant))
    ]

pub returns-clause-last : goal.returns-clause-last
returns-clause-last g c = last_level c.args.period c.args.steps.now c.args.blocks.now c.loop-block.block-index c.loop-block.hours.items
    c.loop-block.places.items c.loop-block-test.false c.loop-block.invariant
