-- Each field that was checked is empty.
use Rattle.std.proofs.Common.{suc, arith, sym, codes}
use Rattle.dam_results.specs.Rules.{amend_rules}
use Rattle.dam_results.proofs.Rules.{nine_alike, stops, is_word}
use Rattle.dam_results.proofs.command_fields.read_amend_into.Goals as goal

pub returns : goal.returns
returns c =
    let who = rw c.in_ok-who.ensures.ok_part at c.new.ensures in
    let name = rw c.in_ok-name.ensures.ok_part at c.new-2.ensures in
    let price = rw c.in_ok-price.ensures.ok_part at c.read_price.ensures in
    let volumes = rw c.in_ok-volumes.ensures.ok_part at c.read_volumes.ensures in
    let rest = c.in_ok-check_no_family.ensures in (
      (rw who.1 who.0, rw name.1 name.0, price.0, volumes.0),
      nine_alike _ _ _ _ _ _ _ _ _ _ _ _ _ _ _ _ _ _ c.requires (sym who.1)
          (sym name.1) c.in_ok-check_empty.ensures c.in_ok-check_empty-2.ensures price.1 volumes.1 rest.0 rest.1.0,
    )

pub returns-in_err-check_empty : goal.returns-in_err-check_empty
returns-in_err-check_empty c =
    let who = rw c.in_ok-who.ensures.ok_part at c.new.ensures in
    let name = rw c.in_ok-name.ensures.ok_part at c.new-2.ensures in
    stops amend_rules c.args.fields.now _ _ 4 _ c.from_residual-in_err-check_empty.ensures.1 c.in_err-check_empty.ensures.0
    (is_word (codes "amend") _ c.requires, (who.0, (name.0, c.in_err-check_empty.ensures.1)))

pub returns-in_err-check_empty-2 : goal.returns-in_err-check_empty-2
returns-in_err-check_empty-2 c =
    let who = rw c.in_ok-who.ensures.ok_part at c.new.ensures in
    let name = rw c.in_ok-name.ensures.ok_part at c.new-2.ensures in
    stops amend_rules c.args.fields.now _ _ 5 _ c.from_residual-in_err-check_empty-2.ensures.1 c.in_err-check_empty-2.ensures.0
    (is_word (codes "amend") _ c.requires, (who.0, (name.0, (c.in_ok-check_empty.ensures, c.in_err-check_empty-2.ensures.1))))

pub returns-in_err-check_no_family : goal.returns-in_err-check_no_family
returns-in_err-check_no_family c =
    let who = rw c.in_ok-who.ensures.ok_part at c.new.ensures in
    let name = rw c.in_ok-name.ensures.ok_part at c.new-2.ensures in
    let price = rw c.in_ok-price.ensures.ok_part at c.read_price.ensures in
    let volumes = rw c.in_ok-volumes.ensures.ok_part at c.read_volumes.ensures in
    let broken = c.in_err-check_no_family.ensures in
    stops amend_rules c.args.fields.now _ _
    (suc (suc (suc (suc (suc (suc (suc (suc broken.0)))))))) _ c.from_residual-in_err-check_no_family.ensures.1
    (omega (arith, broken.1)) (
      is_word (codes "amend") _ c.requires,
      (
        who.0,
        (
          name.0,
          (
            c.in_ok-check_empty.ensures,
            (
              c.in_ok-check_empty-2.ensures,
              ((c.in_ok-price.price, price.0, price.1), ((c.in_ok-volumes.volumes, volumes.0, volumes.1), broken.2)),
            ),
          ),
        ),
      ),
    )
