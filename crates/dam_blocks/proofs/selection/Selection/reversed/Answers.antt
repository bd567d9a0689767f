-- One bit is reversed.
use Rattle.dam_blocks.proofs.Common.{◌≡◌, ℕ, ◌*◌, ◌%◌, ◌^◌, ◌<◌, not, List, Bool, slice_set, ap, ◌∙◌, sym, subst, arith, most_blocks, accepts}
use Rattle.std.specs.Int.RustNames.{bit_xor}
use Rattle.std.proofs.lemmas.Nat.{one_shl}
use Rattle.dam_blocks.specs.inside.Bits.{flags}
use Rattle.dam_blocks.proofs.Bits.{flags-turned, turned_small}
use Rattle.dam_blocks.proofs.selection.Selection.reversed.Goals as goal

weight : (k : ℕ) → k < most_blocks → (1 * 2 ^ k) % 2 ^ 32 ≡ 2 ^ k
weight k h = one_shl k 32 (omega (arith, h))

pub invariant_of-self : goal.invariant_of-self
invariant_of-self c =
    let bits = c.self.inside.accepted in
    subst (λ (w : ℕ). bit_xor bits w < 2 ^ most_blocks) (sym (weight c.args.place c.requires))
    (turned_small most_blocks bits c.args.place c.self.invariant c.requires)

pub returns : goal.returns
returns c =
    let bits = c.self.inside.accepted in
    ap (λ (w : ℕ). flags most_blocks (bit_xor bits w)) (weight c.args.place c.requires)
    ∙ flags-turned most_blocks bits c.args.place c.requires
    ∙ ap (λ (xs : List Bool). slice_set xs c.args.place (not (accepts xs c.args.place))) c.self.view_is
