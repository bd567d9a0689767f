-- Numbers of the blocks at their places, and sums of them.
use Rattle.dam_bound.proofs.Common.{◌≡◌, ℕ, zero, suc, ◌+◌, ◌*◌, ◌<◌, ◌≤◌, ℤ, ◌+ℤ◌, ◌*ℤ◌, ◌≤ℤ◌, Bool, true, false, Some, List, [], ◌∷◌, length, drop, get_or}
use Rattle.dam_bound.proofs.Common.{ap, ap₂, ◌∙◌, sym, subst, refl, arith, slice_get, int_max, ints, to_z-of_z, int_max_is, SFits, drop_all, greatest_volume}
use Rattle.dam_bound.proofs.Common.{most_blocks, last_period, greatest_price, greatest_value, IsWithin, weighted_sum, accepts, over_gains, over_open}
use Rattle.std.proofs.Common.{pos, negsuc}
use mir.Syntax.{w32, w64}
use mir.Val.{to_z, of_z}
use Rattle.std.proofs.lemmas.Nat.{mul-le}
use Rattle.dam_bound.proofs.Accepted.{if_accepted}
use Rattle.dam_bound.proofs.Levelling.{drop_at}

-- a number that stands in the list is read with any default
pub get_or-any : {X : Type 0} (xs : List X) (i : ℕ) (d e : X) → i < length xs → get_or xs i d ≡ get_or xs i e
get_or-any [] i d e l = absurd (omega (arith, l))
get_or-any (x ∷ xs) zero d e l = refl
get_or-any (x ∷ xs) (suc i) d e l = get_or-any xs i d e (omega (arith, l))

-- ---- the gains of a selection, place by place
pub over_nothing : (gains : List ℤ) → over_gains gains [] ≡ pos 0
over_nothing [] = refl
over_nothing (g ∷ gains) = refl

pub gains_from : (gains : List ℤ) (sel : List Bool) (i : ℕ) (d : ℤ) → i < length gains
    → over_gains (drop i gains) (drop i sel)
    ≡ if_accepted (accepts sel i) (get_or gains i d) +ℤ over_gains (drop (suc i) gains) (drop (suc i) sel)
gains_from [] sel i d l = absurd (omega (arith, l))
gains_from (g ∷ gains) [] zero d l = let none = over_nothing gains in omega (arith, ints, none)
gains_from (g ∷ gains) [] (suc i) d l =
    let here = over_nothing (drop i gains) in let next = over_nothing (drop (suc i) gains) in omega (arith, ints, here, next)
gains_from (g ∷ gains) (true ∷ sel) zero d l = refl
gains_from (g ∷ gains) (false ∷ sel) zero d l = omega (arith, ints)
gains_from (g ∷ gains) (a ∷ sel) (suc i) d l = gains_from gains sel i d (omega (arith, l))

pub no_gains : (gains : List ℤ) (sel : List Bool) (i : ℕ) → length gains ≤ i → over_gains (drop i gains) (drop i sel) ≡ pos 0
no_gains gains sel i l = ap (λ (xs : List ℤ). over_gains xs (drop i sel)) (drop_all i gains l)

pub open_from : (gains : List ℤ) (places : List ℕ) (i p : ℕ) → slice_get places i ≡ Some p
    → over_open gains (drop i places) ≡ int_max (get_or gains p (pos 0)) (pos 0) +ℤ over_open gains (drop (i + 1) places)
open_from gains places i p at = ap (over_open gains) (drop_at places i p at)

-- ---- how large products and weighted_sum sums are
pub times_within : (m n : ℕ) (x y : ℤ) → IsWithin m x → IsWithin n y → IsWithin (m * n) (x *ℤ y)
times_within m n (pos a) (pos b) u v =
    let c = u.at_most in let e = v.at_most in
    let h : a * b ≤ m * n = mul-le a b m n (omega (arith, ints, c)) (omega (arith, ints, e)) in
    record { at_least = omega (arith, ints, h); at_most = omega (arith, ints, h) }
times_within m n (pos a) (negsuc b) u v =
    let c = u.at_most in let e = v.at_least in
    let h : a * suc b ≤ m * n = mul-le a (suc b) m n (omega (arith, ints, c)) (omega (arith, ints, e)) in
    record { at_least = omega (arith, ints, h); at_most = omega (arith, ints, h) }
times_within m n (negsuc a) (pos b) u v =
    let c = u.at_least in let e = v.at_most in
    let h : suc a * b ≤ m * n = mul-le (suc a) b m n (omega (arith, ints, c)) (omega (arith, ints, e)) in
    record { at_least = omega (arith, ints, h); at_most = omega (arith, ints, h) }
times_within m n (negsuc a) (negsuc b) u v =
    let c = u.at_least in let e = v.at_least in
    let h : suc a * suc b ≤ m * n = mul-le (suc a) (suc b) m n (omega (arith, ints, c)) (omega (arith, ints, e)) in
    record { at_least = omega (arith, ints, h); at_most = omega (arith, ints, h) }

pub weighted_from : (weights xs : List ℤ) (i : ℕ) (c d : ℤ) → i < length weights → i < length xs
    → weighted_sum (drop i weights) (drop i xs) ≡ get_or weights i c *ℤ get_or xs i d +ℤ weighted_sum (drop (suc i) weights) (drop (suc i) xs)
weighted_from [] xs i c d l m = absurd (omega (arith, l))
weighted_from (w ∷ weights) [] i c d l m = absurd (omega (arith, m))
weighted_from (w ∷ weights) (x ∷ xs) zero c d l m = refl
weighted_from (w ∷ weights) (x ∷ xs) (suc i) c d l m = weighted_from weights xs i c d (omega (arith, l)) (omega (arith, m))

-- a weight of 2 at most, times a net volume
pub a_weight : (weight x : ℤ) → pos 0 ≤ℤ weight → weight ≤ℤ pos 2 → IsWithin greatest_volume x → IsWithin (2 * greatest_volume) (weight *ℤ x)
a_weight weight x l h w = times_within 2 greatest_volume weight x (record { at_least = omega (arith, ints, l); at_most = h }) w

-- ---- sums as the code has them
product_32 : (x y : ℤ) → SFits w32 x → SFits w32 y → SFits w32 (x *ℤ y)
    → to_z w32 (of_z w32 (to_z w32 (of_z w32 x) *ℤ to_z w32 (of_z w32 y))) ≡ x *ℤ y
product_32 x y a b all =
    let same = ap₂ (λ (u v : ℤ). u *ℤ v) (to_z-of_z w32 x a) (to_z-of_z w32 y b) in
    ap (λ (z : ℤ). to_z w32 (of_z w32 z)) same ∙ to_z-of_z w32 (x *ℤ y) all

pub weight_added : (total x y : ℤ) (n : ℕ) → n < most_blocks → IsWithin (n * (2 * greatest_volume)) total
    → pos 0 ≤ℤ x → x ≤ℤ pos 2 → IsWithin greatest_volume y
    → SFits w32 (total +ℤ to_z w32 (of_z w32 (to_z w32 (of_z w32 x) *ℤ to_z w32 (of_z w32 y))))
    × (to_z w32 (of_z w32 (total +ℤ to_z w32 (of_z w32 (to_z w32 (of_z w32 x) *ℤ to_z w32 (of_z w32 y))))) ≡ total +ℤ x *ℤ y)
    × IsWithin ((n + 1) * (2 * greatest_volume)) (total +ℤ x *ℤ y)
weight_added total x y n few so_far least most within =
    let own = a_weight x y least most within in
    let a = own.at_least in let b = own.at_most in let c = so_far.at_least in let e = so_far.at_most in
    let l = within.at_least in let h = within.at_most in
    let same = ap (λ (z : ℤ). total +ℤ z) (product_32 x y (omega (arith, ints, least, most)) (omega (arith, ints, l, h)) (omega (arith, ints, a, b))) in
    let fits : SFits w32 (total +ℤ x *ℤ y) = omega (arith, ints, a, b, c, e, few) in (
      subst (SFits w32) (sym same) fits,
      ap (λ (z : ℤ). to_z w32 (of_z w32 z)) same ∙ to_z-of_z w32 (total +ℤ x *ℤ y) fits,
      record { at_least = omega (arith, ints, a, c); at_most = omega (arith, ints, b, e) },
    )

pub gain_raised : (held gain net price x p : ℤ) (n : ℕ) → n ≤ last_period → held ≡ gain → IsWithin (n * (last_period * greatest_value)) gain
    → IsWithin greatest_volume x → IsWithin (last_period * greatest_price) p → net ≡ x → price ≡ p
    → SFits w64 (to_z w64 (of_z w64 held) +ℤ to_z w64 (of_z w64 (to_z w64 (of_z w64 net) *ℤ to_z w64 (of_z w64 price))))
    × (to_z w64 (of_z w64 (to_z w64 (of_z w64 held) +ℤ to_z w64 (of_z w64 (to_z w64 (of_z w64 net) *ℤ to_z w64 (of_z w64 price)))))
    ≡ gain +ℤ p *ℤ x)
gain_raised held gain net price x p n few same so_far within small net_is price_is =
    let own = times_within (last_period * greatest_price) greatest_volume p x small within in
    let a = own.at_least in let b = own.at_most in let c = so_far.at_least in let e = so_far.at_most in
    let l = within.at_least in let h = within.at_most in let k = small.at_least in let m = small.at_most in
    let one = to_z-of_z w64 held (omega (arith, ints, same, c, e, few)) in
    let two = to_z-of_z w64 net (omega (arith, ints, net_is, l, h)) ∙ net_is in
    let three = to_z-of_z w64 price (omega (arith, ints, price_is, k, m)) ∙ price_is in
    let turned : x *ℤ p ≡ p *ℤ x = omega (arith, ints) in
    let product = ap₂ (λ (u v : ℤ). u *ℤ v) two three ∙ turned in
    let four = ap (λ (z : ℤ). to_z w64 (of_z w64 z)) product ∙ to_z-of_z w64 (p *ℤ x) (omega (arith, ints, a, b)) in
    let all = ap₂ (λ (u v : ℤ). u +ℤ v) (one ∙ same) four in
    let fits : SFits w64 (gain +ℤ p *ℤ x) = omega (arith, ints, a, b, c, e, few) in
    (subst (SFits w64) (sym all) fits, ap (λ (z : ℤ). to_z w64 (of_z w64 z)) all ∙ to_z-of_z w64 (gain +ℤ p *ℤ x) fits)

-- a gain that is raised, as the code adds it up
pub gain_added : (gain net price x p : ℤ) (n : ℕ) → n ≤ last_period → IsWithin (n * (last_period * greatest_value)) gain
    → IsWithin greatest_volume x → IsWithin (last_period * greatest_price) p → net ≡ x → price ≡ p
    → SFits w64 (gain +ℤ to_z w64 (of_z w64 (to_z w64 (of_z w64 net) *ℤ to_z w64 (of_z w64 price))))
    × (to_z w64 (of_z w64 (gain +ℤ to_z w64 (of_z w64 (to_z w64 (of_z w64 net) *ℤ to_z w64 (of_z w64 price))))) ≡ gain +ℤ p *ℤ x)
gain_added gain net price x p n few so_far within small net_is price_is =
    let c = so_far.at_least in let e = so_far.at_most in
    let one = to_z-of_z w64 gain (omega (arith, ints, c, e, few)) in
    let raised = gain_raised gain gain net price x p n few refl so_far within small net_is price_is in
    let left = λ (z : ℤ). z +ℤ to_z w64 (of_z w64 (to_z w64 (of_z w64 net) *ℤ to_z w64 (of_z w64 price))) in
    (subst (λ (z : ℤ). SFits w64 (left z)) one raised.0, subst (λ (z : ℤ). to_z w64 (of_z w64 (left z)) ≡ gain +ℤ p *ℤ x) one raised.1)

-- the part of a number above 0 is no larger
pub positive_within : (x : ℤ) (n : ℕ) → IsWithin n x → IsWithin n (int_max x (pos 0))
positive_within x n w =
    let l = w.at_least in let h = w.at_most in let is = int_max_is x (pos 0) in
    record { at_least = omega (arith, ints, l, h, is); at_most = omega (arith, ints, l, h, is) }
