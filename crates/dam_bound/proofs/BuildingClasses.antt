-- The search for the first period of a class.
use Rattle.dam_bound.proofs.Common.{◌≡◌, ℕ, suc, ◌+◌, ◌-◌, ◌<◌, ◌≤◌, cond, Bool, true, false, List, ap, ◌∙◌, sym, arith, Block, are_alike, first_from}
use Rattle.dam_bound.specs.Classes.{first_of_class}

left_over : (at other : ℕ) → other < at → at - other ≡ suc (at - (other + 1))
left_over at other l = omega (arith, l)

-- the place is alike
pub alike_found : (blocks : List Block) (at other : ℕ) → other < at → are_alike blocks other at ≡ true
    → first_from blocks at other (at - other) ≡ first_from blocks at 0 at → other ≡ first_of_class blocks at
unfolding first_of_class
alike_found blocks at other l e same =
    sym (ap (first_from blocks at other) (left_over at other l)
    ∙ ap (λ (t : Bool). cond t other (first_from blocks at (suc other) (at - (other + 1)))) e) ∙ same

-- the place isn't, and the search goes on
pub apart_found : (blocks : List Block) (at other : ℕ) → other < at → are_alike blocks other at ≡ false
    → first_from blocks at other (at - other) ≡ first_from blocks at 0 at
    → first_from blocks at (other + 1) (at - (other + 1)) ≡ first_from blocks at 0 at
apart_found blocks at other l e same =
    let next : other + 1 ≡ suc other = omega arith in
    ap (λ (n : ℕ). first_from blocks at n (at - (other + 1))) next
    ∙ sym (ap (first_from blocks at other) (left_over at other l)
    ∙ ap (λ (t : Bool). cond t other (first_from blocks at (suc other) (at - (other + 1)))) e) ∙ same

-- no place before it is
pub none_found : (blocks : List Block) (at other : ℕ) → at ≤ other → other ≤ at
    → first_from blocks at other (at - other) ≡ first_from blocks at 0 at → at ≡ first_of_class blocks at
unfolding first_of_class
none_found blocks at other l m same =
    let here : other ≡ at = omega (arith, l, m) in
    let none : at - other ≡ 0 = omega (arith, l) in
    sym here ∙ sym (ap (first_from blocks at other) none) ∙ same
