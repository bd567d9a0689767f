-- The product is the product of the arguments, and in range.
use Rattle.dam_blocks.proofs.Common.{◌≡◌, ℤ, pos, neg_ℤ, ◌*ℤ◌, ◌≤ℤ◌, w64, ap, ap₂, ◌∙◌, sym, subst, arith, ints, IsWithin, greatest_gain}
use Rattle.std.proofs.Common.{FitsSigned, to_z, of_z}
use Rattle.dam_blocks.proofs.Products.{product_within}
use Rattle.dam_blocks.proofs.block_effects.cents_times_volume.Goals as goal

within : (c : goal.After-from-2) → IsWithin greatest_gain (c.args.cents *ℤ pos c.args.volume)
within c = product_within c.args.cents c.args.volume c.requires.at_least c.requires.at_most c.requires.volume

-- the results of the casts, and the product again
same : (c : goal.After-from-2)
    → (to_z w64 (of_z w64 c.from.result) *ℤ to_z w64 (of_z w64 c.from-2.result)) ≡ (c.args.cents *ℤ pos c.args.volume)
same c =
    let cents : to_z w64 (of_z w64 c.from.result) ≡ c.args.cents = omega (arith, ints, c.from.ensures, c.ranges.cents) in
    let volume : to_z w64 (of_z w64 c.from-2.result) ≡ pos c.args.volume = omega (arith, ints, c.from-2.ensures, c.ranges.volume) in
    ap₂ (λ (a b : ℤ). a *ℤ b) cents volume

fits : (c : goal.After-from-2) → FitsSigned w64 (c.args.cents *ℤ pos c.args.volume)
fits c = let w = within c in let low = w.at_least in let high = w.at_most in omega (arith, ints, low, high)

kept : (c : goal.After-from-2)
    → to_z w64 (of_z w64 (to_z w64 (of_z w64 c.from.result) *ℤ to_z w64 (of_z w64 c.from-2.result))) ≡ (c.args.cents *ℤ pos c.args.volume)
kept c =
    let fit = fits c in
    let whole : to_z w64 (of_z w64 (c.args.cents *ℤ pos c.args.volume)) ≡ (c.args.cents *ℤ pos c.args.volume) = omega (arith, ints, fit) in
    ap (λ (z : ℤ). to_z w64 (of_z w64 z)) (same c) ∙ whole

pub overflow_mul-result : goal.overflow_mul-result
overflow_mul-result c = subst (λ (z : ℤ). FitsSigned w64 z) (sym (same c)) (fits c)

pub returns-clause-value : goal.returns-clause-value
returns-clause-value c = kept c

pub returns-clause-low : goal.returns-clause-low
returns-clause-low c = subst (λ (z : ℤ). neg_ℤ (pos greatest_gain) ≤ℤ z) (sym (kept c)) (within c).at_least

pub returns-clause-high : goal.returns-clause-high
returns-clause-high c = subst (λ (z : ℤ). z ≤ℤ pos greatest_gain) (sym (kept c)) (within c).at_most
