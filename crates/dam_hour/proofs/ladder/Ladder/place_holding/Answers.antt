-- The last rung with less than the unit before it holds the unit.
use Rattle.dam_hour.proofs.Common.{◌-◌, ◌∙◌, rules, arith, ltb, Rung, placed_of}
use Rattle.std.proofs.Common.{tests}
use Rattle.std.proofs.lemmas.List.Sorted.{IsPartitionPoint-from_clause, IsPartitionedBy-ltb}
use Rattle.dam_hour.proofs.Rungs.{rungs_rise, some_under, holds_unit}
use Rattle.dam_hour.proofs.ladder.Ladder.place_holding.Goals as goal

pub overflow_sub-result : goal.overflow_sub-result
overflow_sub-result g c =
    let rungs = c.as_slice.result.now in
    let made = c.as_slice.ensures.value ∙ c.self.invariant.cumulated in
    let parted = IsPartitionedBy-ltb (λ (r : Rung). r.before.volume) rungs c.args.unit (rungs_rise rungs _ made) in
    let point = IsPartitionPoint-from_clause (λ (r : Rung). ltb r.before.volume c.args.unit) _ _ c.partition_point-count.ensures.partitioned
    parted (λ a r q k. search (rules, tests)) in
    some_under rungs (placed_of c.self.inside.rungs.items) c.args.unit c.partition_point-count.result made point c.requires.first
    (rw (← c.self.view_is) at c.requires.last)

pub returns-clause-under : goal.returns-clause-under
returns-clause-under g c =
    let rungs = c.as_slice.result.now in
    let some = overflow_sub-result g c in
    let made = c.as_slice.ensures.value ∙ c.self.invariant.cumulated in
    let parted = IsPartitionedBy-ltb (λ (r : Rung). r.before.volume) rungs c.args.unit (rungs_rise rungs _ made) in
    let point = IsPartitionPoint-from_clause (λ (r : Rung). ltb r.before.volume c.args.unit) _ _ c.partition_point-count.ensures.partitioned
    parted (λ a r q k. search (rules, tests)) in
    let holds = holds_unit rungs (placed_of c.self.inside.rungs.items) c.args.unit (c.partition_point-count.result - 1)
    c.partition_point-count.result made c.partition_point-count.ensures.bound
    (omega (arith, some)) point (rw (← c.self.view_is) at c.requires.last) in
    rw (← c.self.view_is) holds.1

pub returns-clause-up_to : goal.returns-clause-up_to
returns-clause-up_to g c =
    let rungs = c.as_slice.result.now in
    let some = overflow_sub-result g c in
    let made = c.as_slice.ensures.value ∙ c.self.invariant.cumulated in
    let parted = IsPartitionedBy-ltb (λ (r : Rung). r.before.volume) rungs c.args.unit (rungs_rise rungs _ made) in
    let point = IsPartitionPoint-from_clause (λ (r : Rung). ltb r.before.volume c.args.unit) _ _ c.partition_point-count.ensures.partitioned
    parted (λ a r q k. search (rules, tests)) in
    let holds = holds_unit rungs (placed_of c.self.inside.rungs.items) c.args.unit (c.partition_point-count.result - 1)
    c.partition_point-count.result made c.partition_point-count.ensures.bound
    (omega (arith, some)) point (rw (← c.self.view_is) at c.requires.last) in
    rw (← c.self.view_is) holds.2
