-- The bit of the place's weight says whether it is accepted.
use Rattle.dam_blocks.proofs.Common.{◌≡◌, ℕ, ◌==◌, false, List, Bool, length, ap, ◌∙◌, sym, arith, nat_tests, most_blocks, accepts}
use Rattle.std.proofs.lemmas.List.{get_or_past}
use Rattle.std.proofs.lemmas.Nat.Bits.{shr_and_one}
use Rattle.dam_blocks.proofs.Bits.{length-flags, accepts-flags}
use Rattle.dam_blocks.proofs.selection.Selection.has.Goals as goal

pub returns-then-place-lt-MOST_BLOCKS-clause-value : goal.returns-then-place-lt-MOST_BLOCKS-clause-value
returns-then-place-lt-MOST_BLOCKS-clause-value c =
    let bits = c.self.inside.accepted in
    ap (λ (b : ℕ). b == 1) (shr_and_one bits c.args.place)
    ∙ sym (accepts-flags most_blocks bits c.args.place c.if-place-lt-MOST_BLOCKS.true)
    ∙ ap (λ (xs : List Bool). accepts xs c.args.place) c.self.view_is

pub returns-then-place-lt-MOST_BLOCKS-clause-places : goal.returns-then-place-lt-MOST_BLOCKS-clause-places
returns-then-place-lt-MOST_BLOCKS-clause-places c =
    sym (ap (λ (xs : List Bool). length xs) c.self.view_is) ∙ length-flags most_blocks c.self.inside.accepted

pub returns-else-place-lt-MOST_BLOCKS-clause-value : goal.returns-else-place-lt-MOST_BLOCKS-clause-value
returns-else-place-lt-MOST_BLOCKS-clause-value c =
    let long : length c.args.self ≡ most_blocks = sym (ap (λ (xs : List Bool). length xs) c.self.view_is)
    ∙ length-flags most_blocks c.self.inside.accepted in
    let outside = c.if-place-lt-MOST_BLOCKS.false in
    grind (arith, nat_tests, outside, get_or_past c.args.self c.args.place false (omega (arith, outside, long)))

pub returns-else-place-lt-MOST_BLOCKS-clause-places : goal.returns-else-place-lt-MOST_BLOCKS-clause-places
returns-else-place-lt-MOST_BLOCKS-clause-places c =
    sym (ap (λ (xs : List Bool). length xs) c.self.view_is) ∙ length-flags most_blocks c.self.inside.accepted
