-- Two blocks at prices that lie in the ranges of their classes.
use Rattle.dam_bound.proofs.Common.{◌≡◌, ℕ, suc, ◌+◌, ◌*◌, ◌<◌, ◌≤◌, ◌&&◌, Bool, true, false, ℤ, ◌+ℤ◌, ◌-ℤ◌, ◌*ℤ◌, ◌≤ℤ◌, Option, Some, None, List, length, take}
use Rattle.dam_bound.proofs.Common.{get_or, ap, ap₂, ◌∙◌, sym, subst, refl, arith, int_max, slice_get, ints, to_z-of_z, int_max_is, take_all, up, down, SFits}
use Rattle.dam_bound.proofs.Common.{BlockTerms, greatest_volume, last_period, most_blocks, greatest_price, greatest_value, CurvesState, Block, ProblemState}
use Rattle.dam_bound.proofs.Common.{IsWithin, accepts, net_volume_of_block, descends, accepted_descendants, surplus_of, surplus_at, family_surplus}
use Rattle.dam_bound.proofs.Common.{class_orders, least_net_in, most_net_in, day_value, AreClassCurves, class_places, over_places, at_places, Class, IsFamily}
use Rattle.dam_bound.proofs.Common.{AreNumbersWithin}
use Rattle.std.proofs.Common.{pos, negsuc, ◌<ℤ◌}
use Rattle.std.specs.Prelude.{int_lt}
use Rattle.std.specs.Option.{is_some}
use Rattle.std.proofs.lemmas.Bool.{and_right}
use Rattle.std.proofs.Math.Nat.{mul-le-mul_left}
use mir.Syntax.{w32, w64}
use mir.Val.{to_z, of_z}
use Rattle.dam_curve.specs.JointPrice.{IsJointPrice}
use Rattle.dam_curve.specs.PriceRange.{ArePricesIn, IsSmallRange}
use Rattle.dam_curve.specs.declared.price_range.PriceRange.{PriceRange}
use Rattle.dam_blocks.specs.Eligible.{IsEligible}
use Rattle.dam_bound.specs.declared.rivals.Weights.{Weights}
use Rattle.dam_bound.specs.inside.Rivals.{AreVolumes, weigh, IsMost}
use Rattle.dam_bound.proofs.AtPlaces.{at_block, all_within, order_at, value_small}
use Rattle.dam_bound.proofs.ClassPlaces.{times_plus, over_same, over_plus, over_times, over_next}
use Rattle.dam_bound.proofs.Lining.{net_inside}
use Rattle.dam_bound.proofs.LineByLine.{IsAtPlace}
use Rattle.dam_bound.proofs.Members.{no_members}
use Rattle.dam_bound.proofs.PlaceSums.{times_within}
use Rattle.dam_bound.proofs.PricesByClass.{class_price, gain_by, class_price_is, surplus_is}
use Rattle.dam_bound.proofs.ClassPricing.{surplus_there}

-- ---- two numbers, each times its weight
pub record AreWeighed (weights : Weights) (x y : ℤ) (n : ℕ) : Type 0 where
  pub sell : IsWithin (greatest_volume * n) (weights.sell *ℤ x)
  pub buy : IsWithin (greatest_volume * n) (weights.buy *ℤ y)

pub weighed_within : (weights : Weights) (x y : ℤ) (n : ℕ) → AreVolumes weights → IsWithin n x → IsWithin n y → AreWeighed weights x y n
weighed_within weights x y n are a b =
    let s = are.sell_at_least in let t = are.sell_at_most in let u = are.buy_at_least in let v = are.buy_at_most in record {
      sell = times_within greatest_volume n weights.sell x (record { at_least = omega (arith, ints, s); at_most = t }) a;
      buy = times_within greatest_volume n weights.buy y (record { at_least = omega (arith, ints, u); at_most = v }) b;
    }

pub weigh_within : (weights : Weights) (x y : ℤ) (n : ℕ) → AreVolumes weights → IsWithin n x → IsWithin n y
    → IsWithin (2 * (greatest_volume * n)) (weigh weights x y)
weigh_within weights x y n are a b =
    let w = weighed_within weights x y n are a b in
    let s = w.sell.at_least in let t = w.sell.at_most in let u = w.buy.at_least in let v = w.buy.at_most in
    record { at_least = omega (arith, ints, s, u); at_most = omega (arith, ints, t, v) }

-- products and sums as the code has them
pub product_64 : (x y : ℤ) → SFits w64 x → SFits w64 y → SFits w64 (x *ℤ y)
    → to_z w64 (of_z w64 (to_z w64 (of_z w64 x) *ℤ to_z w64 (of_z w64 y))) ≡ x *ℤ y
product_64 x y a b all =
    let same = ap₂ (λ (u v : ℤ). u *ℤ v) (to_z-of_z w64 x a) (to_z-of_z w64 y b) in
    ap (λ (z : ℤ). to_z w64 (of_z w64 z)) same ∙ to_z-of_z w64 (x *ℤ y) all

-- the sum of two products as the code has it
abbrev pub weigh_64 : Weights → ℤ → ℤ → ℤ
weigh_64 weights x y = to_z w64 (of_z w64 (to_z w64 (of_z w64 weights.sell) *ℤ to_z w64 (of_z w64 x)))
    +ℤ to_z w64 (of_z w64 (to_z w64 (of_z w64 weights.buy) *ℤ to_z w64 (of_z w64 y)))

pub weigh_exact : (weights : Weights) (x y : ℤ) → AreVolumes weights → IsWithin (last_period * greatest_value) x
    → IsWithin (last_period * greatest_value) y
    → SFits w64 (weigh_64 weights x y) × (to_z w64 (of_z w64 (weigh_64 weights x y)) ≡ weigh weights x y)
weigh_exact weights x y are a b =
    let w = weighed_within weights x y (last_period * greatest_value) are a b in
    let s = w.sell.at_least in let t = w.sell.at_most in let u = w.buy.at_least in let v = w.buy.at_most in
    let c = are.sell_at_least in let d = are.sell_at_most in let e = are.buy_at_least in let f = are.buy_at_most in
    let g = a.at_least in let h = a.at_most in let k = b.at_least in let l = b.at_most in
    let sell = product_64 weights.sell x (omega (arith, ints, c, d)) (omega (arith, ints, g, h)) (omega (arith, ints, s, t)) in
    let buy = product_64 weights.buy y (omega (arith, ints, e, f)) (omega (arith, ints, k, l)) (omega (arith, ints, u, v)) in
    let all = ap₂ (λ (p q : ℤ). p +ℤ q) sell buy in
    let fits : SFits w64 (weigh weights x y) = omega (arith, ints, s, t, u, v) in
    (subst (SFits w64) (sym all) fits, ap (λ (z : ℤ). to_z w64 (of_z w64 z)) all ∙ to_z-of_z w64 (weigh weights x y) fits)

-- ---- a volume at the ends of a range of prices
pub product_at_ends : (p v low high : ℤ) → low ≤ℤ p → p ≤ℤ high → (p *ℤ v) ≤ℤ int_max (v *ℤ low) (v *ℤ high)
product_at_ends p (pos k) low high l h =
    let under : up p + down high ≤ up high + down p = omega (arith, ints, h) in
    let m = mul-le-mul_left k under in
    let is = int_max_is (pos k *ℤ low) (pos k *ℤ high) in
    omega (arith, ints, m, is)
product_at_ends p (negsuc k) low high l h =
    let over : up low + down p ≤ up p + down low = omega (arith, ints, l) in
    let m = mul-le-mul_left (suc k) over in
    let is = int_max_is (negsuc k *ℤ low) (negsuc k *ℤ high) in
    omega (arith, ints, m, is)

-- the ends as the code has them
pub ends_exact : (v low high a b m : ℤ) (range : PriceRange) → IsWithin (2 * (greatest_volume * greatest_volume)) v
    → IsSmallRange last_period range → low ≡ range.lowest → high ≡ range.highest → a ≡ low → b ≡ high
    → m ≡ int_max (to_z w64 (of_z w64 (to_z w64 (of_z w64 v) *ℤ to_z w64 (of_z w64 a))))
    (to_z w64 (of_z w64 (to_z w64 (of_z w64 v) *ℤ to_z w64 (of_z w64 b))))
    → m ≡ int_max (v *ℤ low) (v *ℤ high)
ends_exact v low high a b m range within small low_is high_is a_is b_is is =
    let c = within.at_least in let d = within.at_most in
    let e = small.lowest_at_least in let f = small.lowest_at_most in let g = small.highest_at_least in let h = small.highest_at_most in
    let one = times_within (2 * (greatest_volume * greatest_volume)) (last_period * greatest_price) v low within
    (record { at_least = omega (arith, ints, e, low_is); at_most = omega (arith, ints, f, low_is) }) in
    let two = times_within (2 * (greatest_volume * greatest_volume)) (last_period * greatest_price) v high within
    (record { at_least = omega (arith, ints, g, high_is); at_most = omega (arith, ints, h, high_is) }) in
    let k = one.at_least in let l = one.at_most in let n = two.at_least in let o = two.at_most in
    let left = product_64 v low (omega (arith, ints, c, d)) (omega (arith, ints, e, f, low_is)) (omega (arith, ints, k, l)) in
    let right = product_64 v high (omega (arith, ints, c, d)) (omega (arith, ints, g, h, high_is)) (omega (arith, ints, n, o)) in
    is ∙ ap₂ int_max
    (ap (λ (z : ℤ). to_z w64 (of_z w64 (to_z w64 (of_z w64 v) *ℤ to_z w64 (of_z w64 z)))) a_is ∙ left)
    (ap (λ (z : ℤ). to_z w64 (of_z w64 (to_z w64 (of_z w64 v) *ℤ to_z w64 (of_z w64 z)))) b_is ∙ right)

-- ---- the classes so far
-- a price of the class at a net volume that some selection makes
pub record IsClassPrice (problem : ProblemState) (c : ℕ) (p : ℤ) : Type 0 where
  pub net : ℤ
  pub at_least : least_net_in (c + 1) problem.blocks ≤ℤ net
  pub at_most : net ≤ℤ most_net_in (c + 1) problem.blocks
  pub joint : IsJointPrice (class_orders problem c) net p

-- the surpluses of two blocks by the prices of the classes at these places, each times its weight
abbrev pub two_by : ProblemState → (ℕ → ℤ) → Weights → BlockTerms → BlockTerms → List ℕ → ℤ
two_by problem f weights a b places = weigh weights (day_value problem a) (day_value problem b)
    +ℤ over_places (λ c. f c *ℤ weigh weights (net_volume_of_block (c + 1) a) (net_volume_of_block (c + 1) b)) places

pub record IsMostSoFar (problem : ProblemState) (j sell buy : ℕ) (weights : Weights) (most : ℤ) : Type 0 where
  pub each : (f : ℕ → ℤ) → ((c : ℕ) → IsClassPrice problem c (f c)) → (a b : Block) → slice_get problem.blocks sell ≡ Some a
      → slice_get problem.blocks buy ≡ Some b → two_by problem f weights a.order b.order (take j (class_places problem)) ≤ℤ most

-- the values of the blocks
pub no_class : (problem : ProblemState) (sell buy : ℕ) (weights : Weights) (values : List ℤ) (d e most : ℤ) → length problem.blocks ≤ most_blocks
    → values ≡ at_places most_blocks (day_value problem) problem.blocks
    → most ≡ weigh weights (get_or values sell d) (get_or values buy e) → IsMostSoFar problem 0 sell buy weights most
no_class problem sell buy weights values d e most few are is = record {
  each = λ f prices a b at there.
      (let one = ap (λ (xs : List ℤ). get_or xs sell d) are ∙ at_block most_blocks (day_value problem) problem.blocks sell d a at few in
      let two = ap (λ (xs : List ℤ). get_or xs buy e) are ∙ at_block most_blocks (day_value problem) problem.blocks buy e b there few in
      let same = is ∙ ap₂ (weigh weights) one two in
      omega (arith, ints, same));
}

pub class_more : (problem : ProblemState) (j : ℕ) (class : Class) (range : PriceRange) (sell buy : ℕ) (weights : Weights)
    (d e volume term most after : ℤ) → length problem.blocks ≤ most_blocks → IsAtPlace problem j class.first_place
    → class.nets ≡ at_places most_blocks (net_volume_of_block (class.first_place + 1)) problem.blocks
    → ArePricesIn (class_orders problem class.first_place) (least_net_in (class.first_place + 1) problem.blocks) (most_net_in (class.first_place + 1) problem.blocks) range
    → volume ≡ weigh weights (get_or class.nets sell d) (get_or class.nets buy e)
    → ((p : ℤ) → range.lowest ≤ℤ p → p ≤ℤ range.highest → (p *ℤ volume) ≤ℤ term) → after ≡ most +ℤ term
    → IsMostSoFar problem j sell buy weights most → IsMostSoFar problem (j + 1) sell buy weights after
class_more problem j class range sell buy weights d e volume term most after few place nets prices_in volume_is under sum so_far = record {
  each = λ f prices a b at there.
      (let c = class.first_place in
      let one = ap (λ (xs : List ℤ). get_or xs sell d) nets ∙ at_block most_blocks (net_volume_of_block (c + 1)) problem.blocks sell d a at few in
      let two = ap (λ (xs : List ℤ). get_or xs buy e) nets ∙ at_block most_blocks (net_volume_of_block (c + 1)) problem.blocks buy e b there few in
      let same = ap (λ (v : ℤ). f c *ℤ v) (volume_is ∙ ap₂ (weigh weights) one two) in
      let price = prices c in
      let inside = prices_in price.net (f c) price.at_least price.at_most price.joint in
      let own = under (f c) inside.0 inside.1 in
      let next = over_next (λ c. f c *ℤ weigh weights (net_volume_of_block (c + 1) a.order) (net_volume_of_block (c + 1) b.order)) (class_places problem) j c
      place.place in
      let before = so_far.each f prices a b at there in
      let number : suc j ≡ j + 1 = omega arith in
      subst (λ (n : ℕ). two_by problem f weights a.order b.order (take n (class_places problem)) ≤ℤ after) number
      (omega (arith, ints, same, own, next, before, sum)));
}

-- ---- all classes
swapped : (p x n : ℤ) → p *ℤ (x *ℤ n) ≡ x *ℤ (p *ℤ n)
swapped p x n =
    let e : up (x *ℤ n) + (up x * down n + down x * up n) ≡ down (x *ℤ n) + (up x * up n + down x * down n) = omega (arith, ints) in
    let f : up (p *ℤ n) + (up p * down n + down p * up n) ≡ down (p *ℤ n) + (up p * up n + down p * down n) = omega (arith, ints) in
    let a = ap (λ (m : ℕ). up p * m) e in let b = ap (λ (m : ℕ). down p * m) e in
    let c = ap (λ (m : ℕ). up x * m) f in let d = ap (λ (m : ℕ). down x * m) f in
    omega (arith, ints, a, b, c, d)

weigh_times : (weights : Weights) (p x y : ℤ) → p *ℤ weigh weights x y ≡ weights.sell *ℤ (p *ℤ x) +ℤ weights.buy *ℤ (p *ℤ y)
weigh_times weights p x y =
    times_plus p (weights.sell *ℤ x) (weights.buy *ℤ y) ∙ ap₂ (λ (u v : ℤ). u +ℤ v) (swapped p weights.sell x) (swapped p weights.buy y)

two_is : (problem : ProblemState) (f : ℕ → ℤ) (weights : Weights) (a b : BlockTerms) (places : List ℕ)
    → weigh weights (gain_by problem f places a) (gain_by problem f places b) ≡ two_by problem f weights a b places
two_is problem f weights a b places =
    let x = λ (c : ℕ). f c *ℤ net_volume_of_block (c + 1) a in let y = λ (c : ℕ). f c *ℤ net_volume_of_block (c + 1) b in
    let sell = times_plus weights.sell (day_value problem a) (over_places x places) in
    let buy = times_plus weights.buy (day_value problem b) (over_places y places) in
    let one = over_times x weights.sell places in let two = over_times y weights.buy places in
    let sum = over_plus (λ c. weights.sell *ℤ x c) (λ c. weights.buy *ℤ y c) places in
    let each = over_same (λ c. f c *ℤ weigh weights (net_volume_of_block (c + 1) a) (net_volume_of_block (c + 1) b))
    (λ c. weights.sell *ℤ x c +ℤ weights.buy *ℤ y c) places
    (λ j c at. weigh_times weights (f c) (net_volume_of_block (c + 1) a) (net_volume_of_block (c + 1) b)) in
    omega (arith, ints, sell, buy, one, two, sum, each)

pub all_classes : (problem : ProblemState) (j sell buy : ℕ) (weights : Weights) (most : ℤ) → length (class_places problem) ≤ j
    → (a b : Block) → slice_get problem.blocks sell ≡ Some a → slice_get problem.blocks buy ≡ Some b
    → IsMostSoFar problem j sell buy weights most → IsMost problem sell buy weights most
all_classes problem j sell buy weights most past a b at there so_far selection prices are =
    let f = class_price problem prices in let places = class_places problem in
    let whole : take j places ≡ places = take_all j places past in
    let class_prices = λ (c : ℕ). price_of c in
    let under = subst (λ (ps : List ℕ). two_by problem f weights a.order b.order ps ≤ℤ most) whole (so_far.each f class_prices a b at there) in
    let one = surplus_there problem.blocks prices sell a at ∙ surplus_is problem selection prices sell a are at in
    let two = surplus_there problem.blocks prices buy b there ∙ surplus_is problem selection prices buy b are there in
    let sum = ap₂ (weigh weights) one two ∙ two_is problem f weights a.order b.order places in
    subst (λ (z : ℤ). z ≤ℤ most) (sym sum) under
  where
    price_of : (c : ℕ) → IsClassPrice problem c (class_price problem prices c)
    price_of c =
        let net = net_inside (c + 1) problem.blocks selection in
        record { net = _; at_least = net.0; at_most = net.1; joint = class_price_is problem selection prices c are }

-- ---- the numbers as the code has them

-- a number that is small enough, as 64 bits hold it
abbrev Held : ℕ → ℤ → Type 0
Held n x = IsWithin n (to_z w64 (of_z w64 x)) × (to_z w64 (of_z w64 x) ≡ x)

held : (n : ℕ) (x : ℤ) → SFits w64 x → IsWithin n x → Held n x
held n x fits within = let same = to_z-of_z w64 x fits in (subst (IsWithin n) (sym same) within, same)

pub value_held : (problem : ProblemState) (curves : CurvesState) (classes : List Class) (values : List ℤ) (families : List (Option (List Bool)))
    (i : ℕ) → AreClassCurves problem curves classes values families → i < length problem.blocks
    → Held (last_period * greatest_value) (get_or values i (pos 0))
value_held problem curves classes values families i are inside =
    let few = are.few_blocks in
    let all = all_within (day_value problem) problem.blocks (last_period * greatest_value) values are.values_are (λ k b at.
    value_small (length problem.hours) b.order are.few_periods (order_at (length problem.hours) problem.blocks k b are.blocks_are at)) in
    let own = all.each i (pos 0) (omega (arith, inside, few)) in
    let l = own.at_least in let h = own.at_most in
    held (last_period * greatest_value) (get_or values i (pos 0)) (omega (arith, ints, l, h)) own

pub net_held : (nets : List ℤ) (i : ℕ) (x : ℤ) → AreNumbersWithin greatest_volume nets → i < most_blocks
    → x ≡ to_z w32 (of_z w32 (get_or nets i (pos 0)))
    → IsWithin greatest_volume (to_z w64 (of_z w64 x)) × IsWithin (last_period * greatest_value) (to_z w64 (of_z w64 x))
    × (to_z w64 (of_z w64 x) ≡ get_or nets i (pos 0))
net_held nets i x are inside is =
    let own = are.each i (pos 0) inside in
    let l = own.at_least in let h = own.at_most in
    let narrow = is ∙ to_z-of_z w32 (get_or nets i (pos 0)) (omega (arith, ints, l, h)) in
    let same = to_z-of_z w64 x (omega (arith, ints, narrow, l, h)) ∙ narrow in (
      record { at_least = omega (arith, ints, l, same); at_most = omega (arith, ints, h, same) },
      record { at_least = omega (arith, ints, l, same); at_most = omega (arith, ints, h, same) },
      same,
    )

pub values_held : (x : ℤ) → IsWithin (2 * (greatest_volume * (last_period * greatest_value))) x → to_z w64 (of_z w64 x) ≡ x
values_held x within = let l = within.at_least in let h = within.at_most in to_z-of_z w64 x (omega (arith, ints, l, h))

pub volume_held : (x : ℤ) → IsWithin (2 * (greatest_volume * greatest_volume)) x → Held (2 * (greatest_volume * greatest_volume)) x
volume_held x within =
    let l = within.at_least in let h = within.at_most in
    held (2 * (greatest_volume * greatest_volume)) x (omega (arith, ints, l, h)) within

-- ---- the weights
over_zero : (x : ℤ) → int_lt (pos 0) x ≡ true → pos 1 ≤ℤ x
over_zero x e = grind (arith, ints)

pub are_volumes : (bought sold : ℤ) → IsWithin greatest_volume bought → IsWithin greatest_volume sold
    → int_lt (pos 0) (to_z w64 (of_z w64 (pos 0 -ℤ bought))) ≡ true → int_lt (pos 0) sold ≡ true
    → AreVolumes (record { sell = to_z w64 (of_z w64 (pos 0 -ℤ bought)); buy = sold })
are_volumes bought sold b s e f =
    let l = b.at_least in let h = b.at_most in let m = s.at_most in
    let same = to_z-of_z w64 (pos 0 -ℤ bought) (omega (arith, ints, l, h)) in record {
      sell_at_least = over_zero (to_z w64 (of_z w64 (pos 0 -ℤ bought))) e;
      sell_at_most = omega (arith, ints, same, l);
      buy_at_least = over_zero sold f;
      buy_at_most = m;
    }

-- ---- two rivals
-- the law of the accepted descendants
abbrev pub DescendantsLaw : Type 0
DescendantsLaw = (blocks : List Block) (selection : List Bool) (i j : ℕ)
    → accepts (accepted_descendants blocks selection i) j ≡ (accepts selection j && descends blocks i j)

alone : DescendantsLaw → (blocks : List Block) (selection : List Bool) (prices : List ℤ) (i : ℕ)
    → ((j : ℕ) → j < length blocks → descends blocks i j ≡ false) → family_surplus blocks selection prices i ≡ surplus_at blocks prices i
alone law blocks selection prices i none =
    let others = no_members (surplus_of prices) blocks (accepted_descendants blocks selection i)
    (λ j l. law blocks selection i j ∙ and_right _ _ (none j l)) in
    omega (arith, ints, others)

-- two numbers that are at least 0
weigh_positive : (weights : Weights) (x y : ℤ) → AreVolumes weights → pos 0 ≤ℤ x → pos 0 ≤ℤ y → pos 0 ≤ℤ weigh weights x y
weigh_positive weights x y are l m = positive weights.sell weights.buy x y (are.sell_at_least) (are.buy_at_least) l m
  where
    positive : (v w x y : ℤ) → pos 1 ≤ℤ v → pos 1 ≤ℤ w → pos 0 ≤ℤ x → pos 0 ≤ℤ y → pos 0 ≤ℤ (v *ℤ x +ℤ w *ℤ y)
    positive (pos v) (pos w) (pos x) (pos y) a b l m = omega (arith, ints)
    positive (negsuc v) w x y a b l m = absurd (omega (arith, ints, a))
    positive (pos v) (negsuc w) x y a b l m = absurd (omega (arith, ints, b))
    positive (pos v) (pos w) (negsuc x) y a b l m = absurd (omega (arith, ints, l))
    positive (pos v) (pos w) (pos x) (negsuc y) a b l m = absurd (omega (arith, ints, m))

pub lone : (blocks : List Block) (i : ℕ) (family : Option (List Bool)) → is_some family ≡ false → IsFamily blocks i family
    → (j : ℕ) → j < length blocks → descends blocks i j ≡ false
lone blocks i None e is = is
lone blocks i (Some family) e is = absurd (cc)

pub under_zero : (x held : ℤ) → held ≡ x → int_lt held (pos 0) ≡ true → x <ℤ pos 0
under_zero x held same e = grind (arith, ints)

pub one_loses : DescendantsLaw → (problem : ProblemState) (sell buy : ℕ) (weights : Weights) (most : ℤ) (selection : List Bool) (w : ℤ)
    → ((j : ℕ) → j < length problem.blocks → descends problem.blocks sell j ≡ false)
    → ((j : ℕ) → j < length problem.blocks → descends problem.blocks buy j ≡ false)
    → AreVolumes weights → IsMost problem sell buy weights most → most <ℤ pos 0 → IsEligible problem selection w
    → accepts selection sell ≡ true → accepts selection buy ≡ false
one_loses law problem sell buy weights most selection w none no_other are is below eligible on = not_true (accepts selection buy) (λ on_too.
    (let prices = eligible.prices in
    let one = eligible.no_loss.gains sell on in let two = eligible.no_loss.gains buy on_too in
    let own = alone law problem.blocks selection prices sell none in let other = alone law problem.blocks selection prices buy no_other in
    let positive = weigh_positive weights (surplus_at problem.blocks prices sell) (surplus_at problem.blocks prices buy) are
    (omega (arith, ints, one, own)) (omega (arith, ints, two, other)) in
    let most_is = is selection prices eligible.are_prices in
    absurd (omega (arith, ints, positive, most_is, below))))
  where
    not_true : (x : Bool) → (x ≡ true → ⊥) → x ≡ false
    not_true true never = absurd (never refl)
    not_true false never = refl
