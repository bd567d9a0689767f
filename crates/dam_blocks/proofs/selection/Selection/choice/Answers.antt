-- One place more is chosen.
use Rattle.std.proofs.Common.{◌+◌, ◌-◌, ◌<◌, ◌≤◌, ◌^◌, arith}
use Rattle.dam_blocks.proofs.Choices.{one_accepted, one_rejected, half_is, rest_small}
use Rattle.dam_blocks.proofs.selection.Selection.choice.Goals as goal
use Rattle.dam_blocks.proofs.selection.Selection.choice.Goals.{then-rest-half, else-rest-half}

pub loop-place-preserved : goal.loop-place-preserved
loop-place-preserved c =
    let is = half_is c.args.count c.loop-place.place _ c.choice_count-half.ensures in
    elim c.if-rest-half.branch [
      | then-rest-half w ↦
          (let h : c.loop-place.rest < 2 ^ (c.args.count - (c.loop-place.place + 1)) = omega (arith, is, w.if-rest-half.true) in
          rw (w.rest-is, w.selection-is, w.with-selection.ensures) record {
            small = h;
            chosen = one_accepted _ _ _ _ _ c.loop-place-test.true c.requires.count h c.loop-place.invariant.chosen;
          })
      | else-rest-half w ↦
          (let h : 2 ^ (c.args.count - (c.loop-place.place + 1)) ≤ c.loop-place.rest = omega (arith, is, w.if-rest-half.false) in
          rw (w.rest-is, w.selection-is, is) record {
            small = rest_small _ _ _ c.loop-place-test.true c.loop-place.invariant.small;
            chosen = one_rejected _ _ _ _ _ c.loop-place-test.true c.requires.count h c.loop-place.invariant.chosen;
          })
    ]
