-- Each look halves the buys of which it isn't known yet whether they are served.
use Rattle.std.proofs.Common.{◌≤◌, ◌+◌, ◌-◌, ◌/◌, length, refl, arith, rules}
use Rattle.dam_book.specs.declared.order.Side.TheVariants.{Buy}
use Rattle.dam_hour.proofs.Rungs.{volume_small, around_all, around_served, around_unserved}
use Rattle.dam_hour.proofs.edge.Edge.of.Goals as goal

pub loop-from-init : goal.loop-from-init
loop-from-init g c =
    let long = c.len-to.ensures in
    record {
      ordered = omega arith;
      within = omega (arith, long);
      around = around_all c.args.hour.now c.ladder-buys.result.now _ c.highest-last.result c.lowest-next.result c.len-to.result
          c.ladder-buys.ensures.side c.highest-last.ensures c.lowest-next.ensures long;
    }

pub is_served-requires-clause-before : goal.is_served-requires-clause-before
is_served-requires-clause-before g c =
    let before = c.limit_and_volume_before-limit.ensures.before in
    let at = c.loop-from.from + (c.loop-from.to - c.loop-from.from) / 2 in
    let within : at ≤ length c.ladder-buys.result.now = search rules in
    let small = volume_small Buy c.ladder-buys.result.now c.args.hour.now at c.ladder-buys.ensures.side c.ladder-buys.ensures.steps within in
    omega (arith, before, small)

pub loop-from-preserved-then-is_served : goal.loop-from-preserved-then-is_served
loop-from-preserved-then-is_served g c =
    let at = c.loop-from.from + (c.loop-from.to - c.loop-from.from) / 2 in
    record {
      ordered = search rules;
      within = search rules;
      around = around_served c.args.hour.now c.ladder-buys.result.now _ c.loop-from.last c.loop-from.next c.limit_and_volume_before-limit.result.0
          c.loop-from.from c.loop-from.to at (at + 1) c.limit_and_volume_before-limit.result.1
          c.ladder-buys.ensures.side c.ladder-buys.ensures.steps c.limit_and_volume_before-limit.ensures.limit c.limit_and_volume_before-limit.ensures.before (omega arith)
          (c.if-is_served.ensures.0 refl) c.loop-from.invariant.around;
    }

pub loop-from-preserved : goal.loop-from-preserved
loop-from-preserved g c =
    let at = c.loop-from.from + (c.loop-from.to - c.loop-from.from) / 2 in
    record {
      ordered = search rules;
      within = search rules;
      around = around_unserved c.args.hour.now c.ladder-buys.result.now _ c.loop-from.last c.loop-from.next c.limit_and_volume_before-limit.result.0
          c.loop-from.from c.loop-from.to at c.limit_and_volume_before-limit.result.1
          c.ladder-buys.ensures.side c.ladder-buys.ensures.steps c.limit_and_volume_before-limit.ensures.limit c.limit_and_volume_before-limit.ensures.before
          (λ served. (let never = c.if-is_served.ensures.1 served in cc)) c.loop-from.invariant.around;
    }

pub returns-clause-small : goal.returns-clause-small
returns-clause-small g c =
    let volume = c.sums_before.ensures.volume in
    let small = volume_small Buy c.ladder-buys.result.now c.args.hour.now c.loop-from.from c.ladder-buys.ensures.side c.ladder-buys.ensures.steps
    (search rules) in
    omega (arith, volume, small)
