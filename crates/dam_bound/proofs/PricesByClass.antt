-- The surplus of a block at the prices of a selection, class by class.
use Rattle.dam_bound.proofs.Common.{◌≡◌, ℕ, zero, suc, ◌+◌, ◌-◌, ◌*◌, ◌<◌, ◌==◌, cond, Bool, true, false, ℤ, neg_ℤ, ◌+ℤ◌, ◌-ℤ◌, ◌*ℤ◌, Some, List, [], ◌∷◌}
use Rattle.dam_bound.proofs.Common.{length, get_or, ap, ap₂, ◌∙◌, sym, subst, refl, inl, inr, arith, slice_get, ints, cases_eq, nat_tests, up, down, BlockTerms}
use Rattle.dam_bound.proofs.Common.{Side, Buy, Sell, signed, Step, Block, ProblemState, volume_in, net_volume_of_block, value_in, net_volume, ArePrices}
use Rattle.dam_bound.proofs.Common.{surplus_of, members, class_orders, day_value, over_periods, class_places, over_places}
use Rattle.std.proofs.Common.{pos}
use Rattle.dam_curve.specs.JointPrice.{IsJointPrice}
use Rattle.dam_blocks.specs.Eligible.{IsClearingPrice, surplus_from}
use Rattle.dam_bound.specs.Classes.{first_of_class}
use Rattle.dam_bound.proofs.ClassPlaces.{times_plus, turned, over_same, by_class, periods_plus, class_times}
use Rattle.dam_bound.proofs.Classing.{over_class, class_net, class_volume, same_class}

-- ---- the prices of the periods
-- the price of a period of the day
abbrev pub price_in : List ℤ → ℕ → ℤ
price_in prices t = get_or prices (t - 1) (pos 0)

pub as_long : (blocks : List Block) (sel : List Bool) (t : ℕ) (hours : List (List Step)) (prices : List ℤ)
    → ArePrices blocks sel t hours prices → length prices ≡ length hours
as_long blocks sel t [] [] are = refl
as_long blocks sel t [] (p ∷ prices) are = absurd are
as_long blocks sel t (ss ∷ hours) [] are = absurd are
as_long blocks sel t (ss ∷ hours) (p ∷ prices) are = ap suc (as_long blocks sel (suc t) hours prices are.1)

-- each period has this price at its net volume
abbrev ArePricesAt : (ℕ → ℤ) → List Block → List Bool → ℕ → List (List Step) → Type 0
ArePricesAt f blocks sel i hours = (k : ℕ) (ss : List Step) → slice_get hours k ≡ Some ss
    → IsClearingPrice ss (net_volume blocks sel (suc (i + k))) (f (suc (i + k)))

prices_at : (blocks : List Block) (sel : List Bool) (t : ℕ) (hours : List (List Step)) (prices : List ℤ) (k : ℕ) (ss : List Step)
    → ArePrices blocks sel t hours prices → slice_get hours k ≡ Some ss
    → IsClearingPrice ss (net_volume blocks sel (t + k)) (get_or prices k (pos 0))
prices_at blocks sel t [] prices k ss are at = absurd (cc)
prices_at blocks sel t (hour ∷ hours) [] k ss are at = absurd are
prices_at blocks sel t (hour ∷ hours) (p ∷ prices) zero ss are at =
    let same : hour ≡ ss = cc in let none : t ≡ t + 0 = omega arith in
    subst (λ (n : ℕ). IsClearingPrice ss (net_volume blocks sel n) p) none
    (subst (λ (hs : List Step). IsClearingPrice hs (net_volume blocks sel t) p) same are.0)
prices_at blocks sel t (hour ∷ hours) (p ∷ prices) (suc k) ss are at =
    let next : suc t + k ≡ t + suc k = omega arith in
    subst (λ (n : ℕ). IsClearingPrice ss (net_volume blocks sel n) (get_or prices k (pos 0))) next
    (prices_at blocks sel (suc t) hours prices k ss are.1 at)

all_prices : (blocks : List Block) (sel : List Bool) (hours : List (List Step)) (prices : List ℤ) → ArePrices blocks sel 1 hours prices
    → ArePricesAt (price_in prices) blocks sel 0 hours
all_prices blocks sel hours prices are k ss at =
    let number : 1 + k ≡ suc (0 + k) = omega arith in let place : k ≡ suc (0 + k) - 1 = omega arith in
    subst (λ (n : ℕ). IsClearingPrice ss (net_volume blocks sel (suc (0 + k))) (get_or prices n (pos 0))) place
    (subst (λ (n : ℕ). IsClearingPrice ss (net_volume blocks sel n) (get_or prices k (pos 0))) number
    (prices_at blocks sel 1 hours prices k ss are at))

-- ---- the prices of a class
price_here : (f : ℕ → ℤ) (blocks : List Block) (sel : List Bool) (i : ℕ) (ss : List Step) (hours : List (List Step))
    → ArePricesAt f blocks sel i (ss ∷ hours) → IsClearingPrice ss (net_volume blocks sel (suc i)) (f (suc i))
price_here f blocks sel i ss hours each =
    let none : i + 0 ≡ i = omega arith in
    subst (λ (n : ℕ). IsClearingPrice ss (net_volume blocks sel (suc n)) (f (suc n))) none (each 0 ss refl)

price_rest : (f : ℕ → ℤ) (blocks : List Block) (sel : List Bool) (i : ℕ) (ss : List Step) (hours : List (List Step))
    → ArePricesAt f blocks sel i (ss ∷ hours) → ArePricesAt f blocks sel (suc i) hours
price_rest f blocks sel i ss hours each k other at =
    let next : i + suc k ≡ suc i + k = omega arith in
    subst (λ (n : ℕ). IsClearingPrice other (net_volume blocks sel (suc n)) (f (suc n))) next (each (suc k) other at)

price_more : (ss : List Step) (rest : List (List Step)) (net p left : ℤ) → IsClearingPrice ss net p → IsJointPrice rest net left
    → IsJointPrice (ss ∷ rest) net (p +ℤ left)
price_more ss rest net p left is others = (is.low, is.high, left, is.ends, others, ap (λ (z : ℤ). z +ℤ left) is.between)

joint_from : (f : ℕ → ℤ) (blocks : List Block) (sel : List Bool) (c i : ℕ) (hours : List (List Step)) → ArePricesAt f blocks sel i hours
    → IsJointPrice (members blocks c i hours) (net_volume blocks sel (suc c)) (over_class f blocks c i (length hours))
joint_from f blocks sel c i [] each = refl
joint_from f blocks sel c i (ss ∷ hours) each =
    let net = net_volume blocks sel (suc c) in
    let here = price_here f blocks sel i ss hours each in
    let rest = joint_from f blocks sel c (suc i) hours (price_rest f blocks sel i ss hours each) in
    let left = over_class f blocks c (suc i) (length hours) in
    let others = members blocks c (suc i) hours in
    let none : left ≡ pos 0 +ℤ left = omega (arith, ints) in
    elim (cases_eq (first_of_class blocks i) c) [
      | inl e ↦
          (let yes : (first_of_class blocks i == c) ≡ true = grind (arith, nat_tests) in
          subst (λ (t : Bool). IsJointPrice (cond t (ss ∷ others) others) net (cond t (f (suc i)) (pos 0) +ℤ left)) (sym yes)
          (price_more ss others net (f (suc i)) left
          (subst (λ (z : ℤ). IsClearingPrice ss z (f (suc i))) (class_net blocks sel i c e) here) rest))
      | inr e ↦
          (let no : (first_of_class blocks i == c) ≡ false = grind (arith, nat_tests) in
          subst (λ (t : Bool). IsJointPrice (cond t (ss ∷ others) others) net (cond t (f (suc i)) (pos 0) +ℤ left)) (sym no)
          (subst (λ (z : ℤ). IsJointPrice others net z) none rest))
    ]

-- ---- the surplus of a block
minus_times : (a b : ℤ) (x : ℕ) → (a -ℤ b) *ℤ pos x +ℤ b *ℤ pos x ≡ a *ℤ pos x
minus_times a b x =
    let e : up (a -ℤ b) + down a + up b ≡ down (a -ℤ b) + up a + down b = omega (arith, ints) in
    let m = ap (λ (n : ℕ). n * x) e in
    omega (arith, ints, m)

times_net : (price p : ℤ) (side : Side) (v : ℕ)
    → signed side ((price -ℤ p) *ℤ pos v) ≡ signed side (price *ℤ pos v) +ℤ p *ℤ neg_ℤ (signed side (pos v))
times_net price p Buy v =
    let m = minus_times price p v in let sum = times_plus p (neg_ℤ (pos v)) (pos v) in
    let none : p *ℤ (neg_ℤ (pos v) +ℤ pos v) ≡ pos 0 =
    (let zero_is : neg_ℤ (pos v) +ℤ pos v ≡ pos 0 = omega (arith, ints) in
    let product : p *ℤ pos 0 ≡ pos 0 = omega (arith, ints) in ap (λ (z : ℤ). p *ℤ z) zero_is ∙ product) in
    omega (arith, ints, m, sum, none)
times_net price p Sell v =
    let m = minus_times price p v in
    let twice : neg_ℤ (neg_ℤ (pos v)) ≡ pos v = omega (arith, ints) in
    let product = ap (λ (z : ℤ). p *ℤ z) twice in
    omega (arith, ints, m, product)

surplus_parts : (f : ℕ → ℤ) (o : BlockTerms) (t : ℕ) (prices : List ℤ)
    → ((k : ℕ) → k < length prices → f (t + k) ≡ get_or prices k (pos 0))
    → surplus_from t prices o ≡ over_periods (λ u. value_in u o +ℤ f u *ℤ net_volume_of_block u o) t (length prices)
surplus_parts f o t [] each = refl
surplus_parts f o t (p ∷ prices) each =
    let none : t + 0 ≡ t = omega arith in
    let own : p ≡ f t = sym (each 0 (omega arith)) ∙ ap f none in
    ap₂ (λ (a b : ℤ). a +ℤ b)
    (times_net o.price p o.side (volume_in o.volumes t) ∙ ap (λ (z : ℤ). value_in t o +ℤ z *ℤ net_volume_of_block t o) own)
    (surplus_parts f o (suc t) prices (λ k l.
    (let next : suc t + k ≡ t + suc k = omega arith in ap f next ∙ each (suc k) (omega (arith, l)))))

class_part : (f : ℕ → ℤ) (blocks : List Block) (c n k : ℕ) (b : Block) → slice_get blocks k ≡ Some b
    → over_class (λ t. f t *ℤ net_volume_of_block t b.order) blocks c 0 n ≡ over_class f blocks c 0 n *ℤ net_volume_of_block (c + 1) b.order
class_part f blocks c n k b at =
    let number : suc c ≡ c + 1 = omega arith in
    let net = net_volume_of_block (c + 1) b.order in
    same_class (λ t. f t *ℤ net_volume_of_block t b.order) (λ t. net *ℤ f t) blocks c 0 n (λ i l m e.
    ap (λ (v : ℕ). f (suc i) *ℤ neg_ℤ (signed b.order.side (pos v))) (class_volume blocks i c k b e at)
    ∙ ap (λ (u : ℕ). f (suc i) *ℤ net_volume_of_block u b.order) number ∙ turned (f (suc i)) net)
    ∙ class_times f net blocks c 0 n ∙ turned net (over_class f blocks c 0 n)

-- ---- the selection
-- the prices of a class, added up
abbrev pub class_price : ProblemState → List ℤ → ℕ → ℤ
class_price problem prices c = over_class (price_in prices) problem.blocks c 0 (length problem.hours)

-- the surplus of a block by the prices of the classes at these places
abbrev pub gain_by : ProblemState → (ℕ → ℤ) → List ℕ → BlockTerms → ℤ
gain_by problem f places o = day_value problem o +ℤ over_places (λ c. f c *ℤ net_volume_of_block (c + 1) o) places

pub class_price_is : (problem : ProblemState) (sel : List Bool) (prices : List ℤ) (c : ℕ) → ArePrices problem.blocks sel 1 problem.hours prices
    → IsJointPrice (class_orders problem c) (net_volume problem.blocks sel (c + 1)) (class_price problem prices c)
class_price_is problem sel prices c are =
    let number : suc c ≡ c + 1 = omega arith in
    subst (λ (t : ℕ). IsJointPrice (class_orders problem c) (net_volume problem.blocks sel t) (class_price problem prices c)) number
    (joint_from (price_in prices) problem.blocks sel c 0 problem.hours (all_prices problem.blocks sel problem.hours prices are))

pub surplus_is : (problem : ProblemState) (sel : List Bool) (prices : List ℤ) (k : ℕ) (b : Block) → ArePrices problem.blocks sel 1 problem.hours prices
    → slice_get problem.blocks k ≡ Some b
    → surplus_of prices b.order ≡ gain_by problem (class_price problem prices) (class_places problem) b.order
surplus_is problem sel prices k b are at =
    let n = length problem.hours in let f = price_in prices in let o = b.order in
    let long = as_long problem.blocks sel 1 problem.hours prices are in
    let parts = surplus_parts f o 1 prices (λ i l. (let place : (1 + i) - 1 ≡ i = omega arith in ap (λ (m : ℕ). get_or prices m (pos 0)) place))
    ∙ ap (over_periods (λ u. value_in u o +ℤ f u *ℤ net_volume_of_block u o) 1) long in
    let sum = periods_plus (λ u. value_in u o) (λ u. f u *ℤ net_volume_of_block u o) 1 n in
    let classes = by_class (λ u. f u *ℤ net_volume_of_block u o) problem.blocks n in
    let each = over_same (λ c. over_class (λ u. f u *ℤ net_volume_of_block u o) problem.blocks c 0 n)
    (λ c. class_price problem prices c *ℤ net_volume_of_block (c + 1) o) (class_places problem)
    (λ j c there. class_part f problem.blocks c n k b at) in
    omega (arith, ints, parts, sum, classes, each)
