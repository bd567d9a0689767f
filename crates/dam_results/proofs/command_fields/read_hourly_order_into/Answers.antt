-- The record is the parts that were read, and two empty fields.
use Rattle.std.proofs.Common.{suc, arith, codes, sym, ap, ap₂, ◌∙◌, ℕ}
use Rattle.dam_book.specs.Fields.{price_text, pair_text}
use Rattle.dam_results.specs.Records.{side_word}
use Rattle.dam_results.specs.Rules.{submit_of, hour_rules}
use Rattle.dam_results.proofs.Rules.{nine_alike, stops, is_word, side_kept}
use Rattle.dam_results.proofs.command_fields.read_hourly_order_into.Goals as goal

pub returns : goal.returns
returns c =
    let who = rw c.in_ok-who.ensures.ok_part at c.new.ensures in
    let name = rw c.in_ok-name.ensures.ok_part at c.new-2.ensures in
    let side = rw c.in_ok-side.ensures.ok_part at c.read_side.ensures in
    let price = rw c.in_ok-price.ensures.ok_part at c.read_price.ensures in
    let volume = rw c.in_ok-period.ensures.ok_part at c.read_one_pair.ensures in
    let order = c.new-3.ensures in
    let rest = c.in_ok-check_no_family.ensures in (
      (
        rw who.1 who.0,
        rw name.1 name.0,
        record { price = rw order.price price.0; period = rw order.period volume.0; qty = rw order.qty volume.1 },
      ),
      nine_alike _ _ _ _ _ _ _ _ _ _ _ _ _ _ _ _ _ _ c.requires.kind (sym who.1) (sym name.1) c.requires.form
          (side ∙ ap side_word (sym order.side)) (price.1 ∙ ap price_text (sym order.price))
          (volume.2 ∙ ap₂ (λ (p q : ℕ). pair_text (p, q)) (sym order.period) (sym order.qty)) rest.0 rest.1.0,
    )

pub returns-in_err-check_no_family : goal.returns-in_err-check_no_family
returns-in_err-check_no_family c =
    let who = rw c.in_ok-who.ensures.ok_part at c.new.ensures in
    let name = rw c.in_ok-name.ensures.ok_part at c.new-2.ensures in
    let side = rw c.in_ok-side.ensures.ok_part at c.read_side.ensures in
    let price = rw c.in_ok-price.ensures.ok_part at c.read_price.ensures in
    let volume = rw c.in_ok-period.ensures.ok_part at c.read_one_pair.ensures in
    let broken = c.in_err-check_no_family.ensures in
    stops (submit_of hour_rules) c.args.fields.now _ _
    (suc (suc (suc (suc (suc (suc (suc (suc broken.0)))))))) _ c.from_residual-in_err-check_no_family.ensures.1
    (omega (arith, broken.1)) (
      is_word (codes "submit") _ c.requires.kind,
      (
        who.0,
        (
          name.0,
          (
            is_word (codes "hour") _ c.requires.form,
            (side_kept _ _ side, ((_, price.0, price.1), ((_, _, volume.0, volume.1, volume.2), broken.2))),
          ),
        ),
      ),
    )
