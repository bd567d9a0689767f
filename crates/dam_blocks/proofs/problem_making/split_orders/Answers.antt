-- A row more, with its place, among those of its kind and period.
use Rattle.dam_blocks.proofs.Common.{◌≡◌, ℕ, Vec, Some, List, [], ◌++◌, map, ap, length, take, ◌∙◌, refl, arith, rules, Row, Order, Step, Block, hours_from}
use Rattle.dam_blocks.proofs.Common.{block_under, blocks_in}
use Rattle.std.proofs.lemmas.List.{length-map}
use Rattle.dam_blocks.specs.declared.problem.Place.{Place}
use Rattle.dam_blocks.specs.declared.problem.Place.TheVariants.{Hour as AtHour, Block as AtBlock}
use Rattle.dam_blocks.proofs.FromBook.{length-hours_from}
use Rattle.dam_blocks.proofs.RowByRow.{in_day, nothing_placed, hour_placed, block_placed, more_some, more_none, same_block, one_longer}
use Rattle.dam_blocks.proofs.problem_making.split_orders.Goals as goal
use Rattle.dam_blocks.proofs.problem_making.split_orders.Goals.{in-Hour+in_ok-add_step-in-Hour, in-Block+in_ok-push-in-Block}

pub loop-place-init : goal.loop-place-init
loop-place-init g c = record {
  placed = nothing_placed c.args.book.now.periods _ _ _ _ c.in_ok-rows.ensures.items
      (c.in_ok-hourly.ensures ∙ ap (λ (n : ℕ). hours_from 1 n []) (c.get.ensures.value ∙ c.periods.ensures.value))
      (ap length c.new-blocks.ensures.items);
  blocks = ap (λ (bs : List Block). bs ++ blocks_in c.args.book.now.rows) c.new-blocks.ensures.items;
}

pub add_step-requires : goal.add_step-requires
add_step-requires g c =
    let items = λ (steps : Vec Step g.row.A.Denot). steps.items in
    let kept = length-map c.loop-place.hourly.items items in
    let same = ap length c.loop-place.invariant.placed.hours_are in
    let long = length-hours_from 1 c.args.book.now.periods (take c.loop-place.place c.args.book.now.rows) in
    let who = c.row_at-who.result.0 in let name = c.row_at-who.result.1 in
    let at = c.row_at-who.ensures ∙ ap (λ (o : Order). Some ((who, name), o)) c.in-Hour.is in
    let within = in_day _ _ _ _ _ c.periods.ensures.valid.rows at in
    omega (arith, kept, same, long, within)

pub loop-place-preserved : goal.loop-place-preserved
loop-place-preserved g c =
    let who = c.row_at-who.result.0 in let name = c.row_at-who.result.1 in
    let items = λ (steps : Vec Step g.row.A.Denot). steps.items in
    elim c.match-order.branch [
      | in-Hour+in_ok-add_step-in-Hour w ↦
          (let at = c.row_at-who.ensures ∙ ap (λ (o : Order). Some ((who, name), o)) w.in-Hour.is in
          let added = w.in_ok-add_step-in-Hour in
          let least = w.period.ensures.valid.period.at_least in
          let most = in_day _ _ _ _ _ c.periods.ensures.valid.rows at in
          record {
            placed = hour_placed _ _ _ (who, name) w.in-Hour.order _ _ _ _ _ _ _ _ at least most
                (ap (λ (a : Place). record { who = who; name = name; at = a })
                (w.at-is ∙ ap (λ (p : ℕ). AtHour p added.field-0) w.period.ensures.value))
                added.ensures.place c.in_ok-push.ensures.items
                (ap (λ (v : _). map items v.items) w.hourly-is ∙ added.ensures.added) (ap (λ (v : _). length v.items) w.blocks-is)
                c.loop-place.invariant.placed;
            blocks = rw w.blocks-is (more_none (λ (r : Row). block_under r.0.0 r.0.1 r.1) c.args.book.now.rows c.loop-place.place _
                c.loop-place.blocks.items _ at refl c.loop-place.invariant.blocks);
          })
      | in-Block+in_ok-push-in-Block w ↦
          (let at = c.row_at-who.ensures ∙ ap (λ (o : Order). Some ((who, name), o)) w.in-Block.is in
          let long : w.len-in-Block.result ≡ length c.loop-place.blocks.items = search rules in
          let is = same_block w.of.result _ _ _ w.of.ensures.who w.of.ensures.name w.of.ensures.order in
          let pushed = w.in_ok-push-in-Block.ensures.items in
          record {
            placed = block_placed _ _ _ (who, name) w.in-Block.order _ _ _ _ _ _ _ at
                (ap (λ (a : Place). record { who = who; name = name; at = a }) (w.at-is ∙ ap (λ (n : ℕ). AtBlock n) long))
                c.in_ok-push.ensures.items (ap (λ (v : _). map items v.items) w.hourly-is)
                (ap (λ (v : _). length v.items) w.blocks-is ∙ one_longer _ _ _ pushed) c.loop-place.invariant.placed;
            blocks = rw w.blocks-is (more_some (λ (r : Row). block_under r.0.0 r.0.1 r.1) c.args.book.now.rows c.loop-place.place _ _
                c.loop-place.blocks.items _ _ at is pushed c.loop-place.invariant.blocks);
          })
    ]
