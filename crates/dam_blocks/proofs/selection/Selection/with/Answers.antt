-- One bit more is 1.
use Rattle.dam_blocks.proofs.Common.{◌≡◌, ℕ, ◌*◌, ◌%◌, ◌^◌, ◌<◌, true, List, Bool, slice_set, ap, ◌∙◌, sym, subst, arith, most_blocks}
use Rattle.std.specs.Int.RustNames.{bit_or}
use Rattle.std.proofs.lemmas.Nat.{one_shl}
use Rattle.dam_blocks.specs.inside.Bits.{flags}
use Rattle.dam_blocks.proofs.Bits.{flags-set, set_small}
use Rattle.dam_blocks.proofs.selection.Selection.with.Goals as goal

weight : (k : ℕ) → k < most_blocks → (1 * 2 ^ k) % 2 ^ 32 ≡ 2 ^ k
weight k h = one_shl k 32 (omega (arith, h))

pub invariant_of-self : goal.invariant_of-self
invariant_of-self c =
    let bits = c.self.inside.accepted in
    subst (λ (w : ℕ). bit_or bits w < 2 ^ most_blocks) (sym (weight c.args.place c.requires))
    (set_small most_blocks bits c.args.place c.self.invariant c.requires)

pub returns : goal.returns
returns c =
    let bits = c.self.inside.accepted in
    ap (λ (w : ℕ). flags most_blocks (bit_or bits w)) (weight c.args.place c.requires)
    ∙ flags-set most_blocks bits c.args.place c.requires
    ∙ ap (λ (xs : List Bool). slice_set xs c.args.place true) c.self.view_is
