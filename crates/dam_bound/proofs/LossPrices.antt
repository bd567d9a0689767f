-- The joint price of a class, and the surplus of a block's family.
use Rattle.dam_bound.proofs.Common.{◌≡◌, ℕ, zero, suc, ◌+◌, ◌-◌, ◌*◌, ◌<◌, ◌≤◌, ◌==◌, ◌&&◌, cond, Bool, true, false, ℤ, ◌≤ℤ◌, Option, Some, None, List, [], ◌∷◌}
use Rattle.dam_bound.proofs.Common.{length, get_or, ap, ap₂, ◌∙◌, sym, subst, refl, inl, inr, arith, slice_get, ints, to_z-of_z, cases_eq, nat_tests}
use Rattle.dam_bound.proofs.Common.{get_or_from_slice_get, last_period, greatest_price, Step, Block, ProblemState, IsWithin, accepts, over_accepted, net_volume}
use Rattle.dam_bound.proofs.Common.{descends, accepted_descendants, ArePrices, surplus_of, family_surplus, members, class_orders}
use Rattle.std.proofs.Common.{◌||◌, pos}
use Rattle.std.specs.Option.{option_map, unwrap_or}
use mir.Syntax.{w32}
use mir.Val.{to_z, of_z}
use Rattle.std.proofs.lemmas.List.Quantifiers.{position-Some}
use Rattle.dam_hour.specs.Price.{AreEnds, price_between}
use Rattle.dam_curve.specs.Line.{IsJointPrice}
use Rattle.dam_blocks.specs.Family.{names, parent_among, parent_place, leads_to}
use Rattle.dam_bound.specs.Classes.{first_of_class}
use Rattle.dam_bound.proofs.Classing.{over_class, class_net, class_here, class_elsewhere}
use Rattle.dam_bound.proofs.PeriodPrices.{AreEndsUnique}
use Rattle.dam_bound.proofs.Members.{no_members}
use Rattle.dam_bound.proofs.PricesByClass.{price_in, class_price}

-- ---- the joint price of a class
-- these are the prices from a place on
abbrev ArePricesFrom : (ℕ → ℤ) → ℕ → List ℤ → Type 0
ArePricesFrom p i prices = (k : ℕ) (x : ℤ) → slice_get prices k ≡ Some x → p (suc (i + k)) ≡ x

prices_here : (p : ℕ → ℤ) (i : ℕ) (x : ℤ) (prices : List ℤ) → ArePricesFrom p i (x ∷ prices) → p (suc i) ≡ x
prices_here p i x prices each = let none : i + 0 ≡ i = omega arith in subst (λ (n : ℕ). p (suc n) ≡ x) none (each 0 x refl)

prices_rest : (p : ℕ → ℤ) (i : ℕ) (x : ℤ) (prices : List ℤ) → ArePricesFrom p i (x ∷ prices) → ArePricesFrom p (suc i) prices
prices_rest p i x prices each k y at =
    let next : i + suc k ≡ suc i + k = omega arith in subst (λ (n : ℕ). p (suc n) ≡ y) next (each (suc k) y at)

pub joint_price_from : AreEndsUnique → (p : ℕ → ℤ) (blocks : List Block) (sel : List Bool) (c i : ℕ) (hours : List (List Step)) (prices : List ℤ)
    (price : ℤ) → ArePrices blocks sel (suc i) hours prices → ArePricesFrom p i prices
    → IsJointPrice (members blocks c i hours) (net_volume blocks sel (suc c)) price → price ≡ over_class p blocks c i (length hours)
joint_price_from law p blocks sel c i [] [] price are each is = is
joint_price_from law p blocks sel c i [] (x ∷ prices) price are each is = absurd are
joint_price_from law p blocks sel c i (ss ∷ hours) [] price are each is = absurd are
joint_price_from law p blocks sel c i (ss ∷ hours) (x ∷ prices) price are each is =
    let net = net_volume blocks sel (suc c) in
    elim (cases_eq (first_of_class blocks i) c) [
      | inl e ↦
          (let yes : (first_of_class blocks i == c) ≡ true = grind (arith, nat_tests) in
          let own = subst (λ (t : Bool). IsJointPrice (cond t (ss ∷ members blocks c (suc i) hours) (members blocks c (suc i) hours)) net price) yes is in
          let rest = joint_price_from law p blocks sel c (suc i) hours prices own.2 are.1 (prices_rest p i x prices each) own.4 in
          let ends = subst (λ (z : ℤ). AreEnds ss z are.0.low are.0.high) (class_net blocks sel i c e) are.0.ends in
          let same = law ss net own.0 own.1 are.0.low are.0.high own.3 ends in
          let between : price_between own.0 own.1 ≡ x = ap₂ price_between same.0 same.1 ∙ sym are.0.between in
          let here = prices_here p i x prices each in
          let sum = own.5 in
          let step = class_here p blocks c i (length hours) e in
          omega (arith, ints, sum, rest, between, here, step))
      | inr e ↦
          (let no : (first_of_class blocks i == c) ≡ false = grind (arith, nat_tests) in
          let own = subst (λ (t : Bool). IsJointPrice (cond t (ss ∷ members blocks c (suc i) hours) (members blocks c (suc i) hours)) net price) no is in
          joint_price_from law p blocks sel c (suc i) hours prices price are.1 (prices_rest p i x prices each) own
          ∙ sym (class_elsewhere p blocks c i (length hours) e))
    ]

all_prices : (prices : List ℤ) → ArePricesFrom (price_in prices) 0 prices
all_prices prices k x at =
    let place : suc (0 + k) - 1 ≡ k = omega arith in
    ap (λ (n : ℕ). get_or prices n (pos 0)) place ∙ get_or_from_slice_get prices k x (pos 0) at

pub joint_price_is : AreEndsUnique → (problem : ProblemState) (sel : List Bool) (c : ℕ) (prices : List ℤ) (price : ℤ)
    → ArePrices problem.blocks sel 1 problem.hours prices
    → IsJointPrice (class_orders problem c) (net_volume problem.blocks sel (c + 1)) price → price ≡ class_price problem prices c
joint_price_is law problem sel c prices price are is =
    let number : c + 1 ≡ suc c = omega arith in
    joint_price_from law (price_in prices) problem.blocks sel c 0 problem.hours prices price are (all_prices prices)
    (subst (λ (n : ℕ). IsJointPrice (class_orders problem c) (net_volume problem.blocks sel n) price) number is)

pub price_fits : (x : ℤ) → IsWithin (last_period * greatest_price) x → to_z w32 (of_z w32 x) ≡ x
price_fits x small = let low = small.at_least in let high = small.at_most in to_z-of_z w32 x (omega (arith, ints, low, high))

-- ---- families
-- the law of dam_blocks on the accepted descendants
abbrev pub AreDescendants : Type 0
AreDescendants = (blocks : List Block) (sel : List Bool) (i j : ℕ)
    → accepts (accepted_descendants blocks sel i) j ≡ (accepts sel j && descends blocks i j)

rejects : (a b : Bool) → b ≡ false → (a && b) ≡ false
rejects true b e = e
rejects false b e = refl

no_descendants : AreDescendants → (blocks : List Block) (sel : List Bool) (prices : List ℤ) (place : ℕ)
    → ((j : ℕ) → j < length blocks → descends blocks place j ≡ false)
    → over_accepted (surplus_of prices) blocks (accepted_descendants blocks sel place) ≡ pos 0
no_descendants law blocks sel prices place none =
    no_members (surplus_of prices) blocks (accepted_descendants blocks sel place)
    (λ j l. law blocks sel place j ∙ rejects (accepts sel j) (descends blocks place j) (none j l))

-- ---- places at which no block stands
parent_below : (blocks : List Block) (o : Option Block) (p : ℕ) → parent_among blocks o ≡ Some p → p < length blocks
parent_below blocks None p e = absurd (cc)
parent_below [] (Some b) p e = absurd (cc)
parent_below (x ∷ blocks) (Some b) p e = (position-Some (λ q. names q b) (x ∷ blocks) p x e).0

leads_nowhere : (n : ℕ) (blocks : List Block) (i : ℕ) (o : Option ℕ) → length blocks ≤ i → ((p : ℕ) → o ≡ Some p → p < length blocks)
    → leads_to n blocks i o ≡ false
leads_nowhere n blocks i None l below = refl
leads_nowhere zero blocks i (Some p) l below = refl
leads_nowhere (suc n) blocks i (Some p) l below =
    let less = below p refl in
    let apart : (p == i) ≡ false = grind (arith, nat_tests, less, l) in
    ap (λ (t : Bool). t || leads_to n blocks i (parent_place blocks p)) apart
    ∙ leads_nowhere n blocks i (parent_place blocks p) l (λ q e. parent_below blocks (slice_get blocks p) q e)

past_all : (blocks : List Block) (i : ℕ) → length blocks ≤ i → slice_get blocks i ≡ None
past_all [] i l = refl
past_all (b ∷ blocks) zero l = absurd (omega (arith, l))
past_all (b ∷ blocks) (suc i) l = past_all blocks i (omega (arith, l))

pub past_surplus : AreDescendants → (blocks : List Block) (sel : List Bool) (prices : List ℤ) (i : ℕ) → length blocks ≤ i
    → pos 0 ≤ℤ family_surplus blocks sel prices i
past_surplus law blocks sel prices i l =
    let own = ap (λ (o : Option Block). unwrap_or (option_map (λ (b : Block). surplus_of prices b.order) o) (pos 0)) (past_all blocks i l) in
    let rest = no_descendants law blocks sel prices i (λ j m.
    leads_nowhere (length blocks) blocks i (parent_place blocks j) l (λ p e. parent_below blocks (slice_get blocks j) p e)) in
    omega (arith, ints, own, rest)
