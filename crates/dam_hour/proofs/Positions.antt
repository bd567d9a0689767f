-- The size of the volume before a step, and the volume that the totals leave for it.
use Rattle.dam_hour.proofs.Common.{◌≡◌, ℕ, zero, suc, min, ◌+◌, ◌-◌, ◌*◌, ◌<◌, ◌≤◌, ℤ, pos, negsuc, ◌≤ℤ◌, ◌<ℤ◌, Some, List, [], ◌∷◌, length, take, ap, ◌∙◌}
use Rattle.dam_hour.proofs.Common.{refl, arith, slice_get, ints, mul-le, greatest_volume, IsPrice, Side, Buy, Sell, Step, price_span, AreInRange, volume_on}
use Rattle.dam_hour.proofs.Common.{offered_volume, margin_of, above_zero, if_better, if_at, better_volume, at_volume, share, total_on, AreTotals}
use Rattle.dam_hour.specs.inside.Ladder.{better_surplus}
use Rattle.dam_hour.proofs.FilledExecution.{volume_on_sum}

-- ---- sizes
parts_small : (side own : Side) (m : ℤ) (q : ℕ) → volume_on side own (if_better m q) + volume_on side own (if_at m q) ≤ q
parts_small Buy Buy (pos zero) q = omega arith
parts_small Buy Buy (pos (suc n)) q = omega arith
parts_small Buy Buy (negsuc n) q = omega arith
parts_small Sell Sell (pos zero) q = omega arith
parts_small Sell Sell (pos (suc n)) q = omega arith
parts_small Sell Sell (negsuc n) q = omega arith
parts_small Buy Sell m q = omega arith
parts_small Sell Buy m q = omega arith

pub front_small : (side : Side) (p : ℤ) (n : ℕ) (ss : List Step) → AreInRange ss
    → better_volume side p ss + at_volume side p (take n ss) ≤ length ss * greatest_volume
front_small side p zero [] r = omega arith
front_small side p (suc n) [] r = omega arith
front_small side p zero (s ∷ ss) r =
    let here = parts_small side s.side (margin_of s.side s.price p) s.qty in let most = r.1.at_most in
    let rest = front_small side p zero ss r.2 in
    omega (arith, here, most, rest)
front_small side p (suc n) (s ∷ ss) r =
    let here = parts_small side s.side (margin_of s.side s.price p) s.qty in let most = r.1.at_most in
    let rest = front_small side p n ss r.2 in
    omega (arith, here, most, rest)

part_on : (side own : Side) (x : ℕ) → volume_on side own x ≤ x
part_on Buy Buy x = omega arith
part_on Sell Sell x = omega arith
part_on Buy Sell x = omega arith
part_on Sell Buy x = omega arith

pub offered_small : (side : Side) (ss : List Step) → AreInRange ss → offered_volume side ss ≤ length ss * greatest_volume
offered_small side [] r = omega arith
offered_small side (s ∷ ss) r =
    let here = part_on side s.side s.qty in let most = r.1.at_most in let rest = offered_small side ss r.2 in
    omega (arith, here, most, rest)

above_small : (z : ℤ) (n : ℕ) → z ≤ℤ pos n → above_zero z ≤ n
above_small (pos m) n h = omega (arith, ints, h)
above_small (negsuc m) n h = omega arith

margin_small : (side : Side) (l p : ℤ) → IsPrice l → IsPrice p → margin_of side l p ≤ℤ pos price_span
margin_small Buy l p r h = let a = r.at_most in let b = h.at_least in omega (arith, ints, a, b)
margin_small Sell l p r h = let a = r.at_least in let b = h.at_most in omega (arith, ints, a, b)

pub gain_small : (side : Side) (p : ℤ) (ss : List Step) → IsPrice p → AreInRange ss
    → better_surplus side p ss ≤ length ss * (price_span * greatest_volume)
gain_small side p [] h r = omega arith
gain_small side p (s ∷ ss) h r =
    let margin = above_small (margin_of side s.price p) price_span (margin_small side s.price p r.0 h) in
    let product = mul-le (above_zero (margin_of side s.price p)) s.qty price_span greatest_volume margin r.1.at_most in
    let here = part_on side s.side (above_zero (margin_of side s.price p) * s.qty) in
    let rest = gain_small side p ss h r.2 in
    omega (arith, here, product, rest)

-- ---- a limit against the price
not_worse_then_better : (m k : ℤ) (q : ℕ) → m <ℤ k → if_better m q + if_at m q ≤ if_better k q
not_worse_then_better (negsuc m) k q h = omega arith
not_worse_then_better (pos zero) (pos zero) q h = let no : 0 < 0 = omega (arith, ints) in omega (arith, no)
not_worse_then_better (pos zero) (pos (suc k)) q h = omega arith
not_worse_then_better (pos zero) (negsuc k) q h = let no : 0 < 0 = omega (arith, ints) in omega (arith, no)
not_worse_then_better (pos (suc m)) (pos zero) q h = let no : 0 < 0 = omega (arith, ints) in omega (arith, no)
not_worse_then_better (pos (suc m)) (pos (suc k)) q h = omega arith
not_worse_then_better (pos (suc m)) (negsuc k) q h = let no : 0 < 0 = omega (arith, ints) in omega (arith, no)

on_own_le : (side own : Side) (x y : Side → ℕ) → x side ≤ y side → volume_on side own (x own) ≤ volume_on side own (y own)
on_own_le Buy Buy x y h = h
on_own_le Sell Sell x y h = h
on_own_le Buy Sell x y h = omega arith
on_own_le Sell Buy x y h = omega arith

margin_less : (side : Side) (k l p : ℤ) → pos 0 <ℤ margin_of side l p → margin_of side k l <ℤ margin_of side k p
margin_less Buy k l p h = omega (arith, ints, h)
margin_less Sell k l p h = omega (arith, ints, h)

-- a step that is not worse than a better limit is better than the price
pub not_worse_is_better : (side : Side) (l p : ℤ) (ss : List Step) → pos 0 <ℤ margin_of side l p
    → better_volume side l ss + at_volume side l ss ≤ better_volume side p ss
not_worse_is_better side l p [] h = omega arith
not_worse_is_better side l p (s ∷ ss) h =
    let here = on_own_le side s.side (λ own. if_better (margin_of own s.price l) s.qty + if_at (margin_of own s.price l) s.qty)
    (λ own. if_better (margin_of own s.price p) s.qty)
    (not_worse_then_better (margin_of side s.price l) (margin_of side s.price p) s.qty (margin_less side s.price l p h)) in
    let sum = volume_on_sum side s.side _ (if_better (margin_of s.side s.price l) s.qty) (if_at (margin_of s.side s.price l) s.qty) refl in
    let rest = not_worse_is_better side l p ss h in
    omega (arith, here, sum, rest)

own_part : (side : Side) (l : ℤ) (q : ℕ) → volume_on side side (if_at (margin_of side l l) q) ≡ q
own_part Buy l q = ap (λ (m : ℤ). if_at m q) (let none : margin_of Buy l l ≡ pos 0 = omega (arith, ints) in none)
own_part Sell l q = ap (λ (m : ℤ). if_at m q) (let none : margin_of Sell l l ≡ pos 0 = omega (arith, ints) in none)

-- a step and the ones with its limit in front of it
at_with_own : (ss : List Step) (i : ℕ) (s : Step) → slice_get ss i ≡ Some s
    → at_volume s.side s.price (take i ss) + s.qty ≤ at_volume s.side s.price ss
at_with_own [] i s e = cc
at_with_own (t ∷ ss) zero s e =
    let same : t ≡ s = cc in
    let own = ap (λ (u : Step). volume_on s.side u.side (if_at (margin_of u.side u.price s.price) u.qty)) same
    ∙ own_part s.side s.price s.qty in
    omega (arith, own)
at_with_own (t ∷ ss) (suc i) s e = let rest = at_with_own ss i s e in omega (arith, rest)

-- ---- a step's share, from the volume before it
clamped : (m : ℤ) (q t b f b' a' f' : ℕ) → (pos 0 <ℤ m → b + f + q ≤ b') → (m ≡ pos 0 → (b ≡ b') × (f ≡ f')) → (m <ℤ pos 0 → b' + a' ≤ b)
    → b' ≤ t → t ≤ b' + a'
    → min q (t - (b + f)) ≡ share m q ((t - b') - f')
clamped (pos zero) q t b f b' a' f' better at worse least most = let same = at refl in omega (arith, same.0, same.1)
clamped (pos (suc n)) q t b f b' a' f' better at worse least most = let all = better (omega (arith, ints)) in omega (arith, all, least)
clamped (negsuc n) q t b f b' a' f' better at worse least most = let none = worse (omega (arith, ints)) in omega (arith, none, most)

total_within : (side : Side) (ss : List Step) (net p : ℤ) (bought sold : ℕ) → AreTotals ss net p bought sold
    → (better_volume side p ss ≤ total_on side bought sold) × (total_on side bought sold ≤ better_volume side p ss + at_volume side p ss)
total_within Buy ss net p bought sold t = (t.buys_at_least, t.buys_at_most)
total_within Sell ss net p bought sold t = (t.sells_at_least, t.sells_at_most)

margin_back : (side : Side) (l p : ℤ) → margin_of side l p <ℤ pos 0 → pos 0 <ℤ margin_of side p l
margin_back Buy l p h = omega (arith, ints, h)
margin_back Sell l p h = omega (arith, ints, h)

margin_none : (side : Side) (l p : ℤ) → margin_of side l p ≡ pos 0 → l ≡ p
margin_none Buy l p e = omega (arith, ints, e)
margin_none Sell l p e = omega (arith, ints, e)

pub share_from_before : (ss : List Step) (net p : ℤ) (bought sold i : ℕ) (s : Step) → AreTotals ss net p bought sold
    → slice_get ss i ≡ Some s
    → min s.qty (total_on s.side bought sold - (better_volume s.side s.price ss + at_volume s.side s.price (take i ss)))
    ≡ share (margin_of s.side s.price p) s.qty ((total_on s.side bought sold - better_volume s.side p ss) - at_volume s.side p (take i ss))
share_from_before ss net p bought sold i s t at =
    let within = total_within s.side ss net p bought sold t in
    clamped (margin_of s.side s.price p) s.qty (total_on s.side bought sold) (better_volume s.side s.price ss)
    (at_volume s.side s.price (take i ss))
    (better_volume s.side p ss) (at_volume s.side p ss) (at_volume s.side p (take i ss))
    (λ m. (let own = at_with_own ss i s at in let all = not_worse_is_better s.side s.price p ss m in omega (arith, own, all)))
    (λ e. (let same = margin_none s.side s.price p e in
    (ap (λ (l : ℤ). better_volume s.side l ss) same, ap (λ (l : ℤ). at_volume s.side l (take i ss)) same)))
    (λ m. not_worse_is_better s.side p s.price ss (margin_back s.side s.price p m))
    within.0 within.1
