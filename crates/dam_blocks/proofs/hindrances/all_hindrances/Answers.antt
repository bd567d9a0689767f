-- A block more.
use Rattle.dam_blocks.proofs.Common.{◌≡◌, ℕ, List, Some, [], ◌∷◌, ◌++◌, length, length-append, ap, subst, sym, refl, arith, slice_get_read, AreHindrances}
use Rattle.dam_blocks.proofs.Common.{Hindrances}
use Rattle.std.specs.List.{slice_get}
use Rattle.dam_blocks.proofs.Hindering.{all_more}
use Rattle.dam_blocks.proofs.hindrances.all_hindrances.Goals as goal

pub loop-place-preserved : goal.loop-place-preserved
loop-place-preserved g c =
    let blocks = c.args.blocks.now in let before = c.loop-place.all.items in let place = c.loop-place.place in
    let block = c.index-blocks-place.result in
    let own : Hindrances = record { parent_places = c.parent_places-parents.result; group_places = c.group_places-group.result } in
    let is : c.push.new.self.items ≡ before ++ own ∷ [] = c.in_ok-push.ensures.items in
    let many = c.loop-place.invariant.as_many in
    let here : AreHindrances blocks place own = record {
      block = block;
      stands = slice_get_read blocks _ place block refl c.loop-place-test.true c.index-blocks-place.is;
      are = record { parents = c.parent_places-parents.ensures; group = c.group_places-group.ensures };
    } in
    let last = subst (λ (n : ℕ). AreHindrances blocks n own) (sym many) here in
    record {
      as_many = omega (arith, ap (λ (xs : List Hindrances). length xs) is, length-append before (own ∷ []), many);
      each = λ i a e.
          all_more blocks before own last c.loop-place.invariant.each i a
          (subst (λ (xs : List Hindrances). slice_get xs i ≡ Some a) is e);
    }
