-- Lines over the classes of a problem.
use Rattle.dam_bound.proofs.Common.{◌≡◌, ℕ, zero, suc, ◌+◌, ◌≤◌, Bool, true, false, ℤ, ◌+ℤ◌, ◌*ℤ◌, ◌≤ℤ◌, Some, List, [], ◌∷◌, length, ap, ap₂, ◌∙◌, sym, refl}
use Rattle.dam_bound.proofs.Common.{arith, int_max, int_min, ints, int_max_is, int_min_is, BlockTerms, most_blocks, joint_welfare, line_value, Line, Block}
use Rattle.dam_bound.proofs.Common.{ProblemState, over_accepted, net_volume_of_block, net_volume, selection_welfare, class_orders, least_net_in, most_net_in}
use Rattle.dam_bound.proofs.Common.{day_value, over_gains, line_in, IsByLines, class_places, over_places, at_places, Pricing}
use Rattle.std.proofs.Common.{pos}
use Rattle.dam_bound.specs.Prices.{IsClassLine, priced_gain}
use Rattle.dam_bound.proofs.Accepted.{over_accepted-plus, over_accepted-zero}
use Rattle.dam_bound.proofs.ByClass.{joint_of, whole_of, has_whole}
use Rattle.dam_bound.proofs.ClassPlaces.{times_plus, over_most, over_plus, is_place}
use Rattle.dam_bound.proofs.Worth.{worth}

-- ---- the net volumes that selections make
least_of : (x : ℤ) → (int_min x (pos 0) ≤ℤ x) × (int_min x (pos 0) ≤ℤ pos 0)
least_of x = let is = int_min_is x (pos 0) in (omega (arith, ints, is), omega (arith, ints, is))

bound_of : (x : ℤ) → (x ≤ℤ int_max x (pos 0)) × (pos 0 ≤ℤ int_max x (pos 0))
bound_of x = let is = int_max_is x (pos 0) in (omega (arith, ints, is), omega (arith, ints, is))

nothing_in : (t : ℕ) (bs : List Block) → (least_net_in t bs ≤ℤ pos 0) × (pos 0 ≤ℤ most_net_in t bs)
nothing_in t [] = (omega (arith, ints), omega (arith, ints))
nothing_in t (b ∷ bs) =
    let low = (least_of (net_volume_of_block t b.order)).1 in let high = (bound_of (net_volume_of_block t b.order)).1 in
    let rest = nothing_in t bs in let a = rest.0 in let c = rest.1 in (omega (arith, ints, low, a), omega (arith, ints, high, c))

pub net_inside : (t : ℕ) (bs : List Block) (sel : List Bool) → (least_net_in t bs ≤ℤ net_volume bs sel t) × (net_volume bs sel t ≤ℤ most_net_in t bs)
net_inside t [] sel = (omega (arith, ints), omega (arith, ints))
net_inside t (b ∷ bs) [] = nothing_in t (b ∷ bs)
net_inside t (b ∷ bs) (true ∷ sel) =
    let low = (least_of (net_volume_of_block t b.order)).0 in let high = (bound_of (net_volume_of_block t b.order)).0 in
    let rest = net_inside t bs sel in let a = rest.0 in let c = rest.1 in (omega (arith, ints, low, a), omega (arith, ints, high, c))
net_inside t (b ∷ bs) (false ∷ sel) =
    let low = (least_of (net_volume_of_block t b.order)).1 in let high = (bound_of (net_volume_of_block t b.order)).1 in
    let rest = net_inside t bs sel in let a = rest.0 in let c = rest.1 in (omega (arith, ints, low, a), omega (arith, ints, high, c))

-- ---- the gains of a selection
no_gain : (n : ℕ) (f : BlockTerms → ℤ) (sel : List Bool) → over_gains (at_places n f []) sel ≡ pos 0
no_gain zero f sel = refl
no_gain (suc n) f [] = refl
no_gain (suc n) f (true ∷ sel) = let rest = no_gain n f sel in omega (arith, ints, rest)
no_gain (suc n) f (false ∷ sel) = no_gain n f sel

pub gains_are : (n : ℕ) (f : BlockTerms → ℤ) (bs : List Block) (sel : List Bool) → length bs ≤ n
    → over_gains (at_places n f bs) sel ≡ over_accepted f bs sel
gains_are n f [] sel l = no_gain n f sel
gains_are zero f (b ∷ bs) sel l = absurd (omega (arith, l))
gains_are (suc n) f (b ∷ bs) [] l = refl
gains_are (suc n) f (b ∷ bs) (true ∷ sel) l = ap (λ (z : ℤ). f b.order +ℤ z) (gains_are n f bs sel (omega (arith, l)))
gains_are (suc n) f (b ∷ bs) (false ∷ sel) l = gains_are n f bs sel (omega (arith, l))

over_accepted-times : (p : ℤ) (f : BlockTerms → ℤ) (bs : List Block) (sel : List Bool)
    → p *ℤ over_accepted f bs sel ≡ over_accepted (λ o. p *ℤ f o) bs sel
over_accepted-times p f [] sel = omega (arith, ints)
over_accepted-times p f (b ∷ bs) [] = omega (arith, ints)
over_accepted-times p f (b ∷ bs) (true ∷ sel) =
    times_plus p (f b.order) (over_accepted f bs sel) ∙ ap (λ (z : ℤ). p *ℤ f b.order +ℤ z) (over_accepted-times p f bs sel)
over_accepted-times p f (b ∷ bs) (false ∷ sel) = over_accepted-times p f bs sel

priced_parts : (p : ℕ → ℤ) (places : List ℕ) (bs : List Block) (sel : List Bool)
    → over_accepted (λ o. over_places (λ c. p c *ℤ net_volume_of_block (c + 1) o) places) bs sel
    ≡ over_places (λ c. p c *ℤ net_volume bs sel (c + 1)) places
priced_parts p [] bs sel = over_accepted-zero bs sel
priced_parts p (c ∷ places) bs sel =
    over_accepted-plus (λ o. p c *ℤ net_volume_of_block (c + 1) o) (λ o. over_places (λ d. p d *ℤ net_volume_of_block (d + 1) o) places) bs sel
    ∙ ap₂ (λ (a b : ℤ). a +ℤ b) (sym (over_accepted-times (p c) (net_volume_of_block (c + 1)) bs sel)) (priced_parts p places bs sel)

-- ---- the bound
-- the line of a class at the selection's net volume
abbrev pub lined : ProblemState → List Line → List Bool → ℕ → ℤ
lined problem lines sel c = line_value (line_in lines c) (net_volume problem.blocks sel (c + 1))

-- the bound of a selection is the lines of all classes and the value of the blocks
pub bound_is : (problem : ProblemState) (pricing : Pricing) (sel : List Bool) → IsByLines problem pricing
    → pricing.base +ℤ over_gains pricing.gains sel
    ≡ over_places (lined problem pricing.lines sel) (class_places problem) +ℤ over_accepted (day_value problem) problem.blocks sel
bound_is problem pricing sel is =
    let places = class_places problem in let bs = problem.blocks in
    let price : ℕ → ℤ = λ c. (line_in pricing.lines c).price in
    let gains = ap (λ (xs : List ℤ). over_gains xs sel) is.gains_are ∙ gains_are most_blocks (priced_gain problem pricing.lines) bs sel is.few in
    let parts = over_accepted-plus (day_value problem) (λ o. over_places (λ c. price c *ℤ net_volume_of_block (c + 1) o) places) bs sel in
    let priced = priced_parts price places bs sel in
    let lines = over_plus (λ c. (line_in pricing.lines c).surplus) (λ c. price c *ℤ net_volume bs sel (c + 1)) places in
    let base = is.base_is in
    omega (arith, ints, gains, parts, priced, lines, base)

-- no class has more welfare than its line
pub under_line : (problem : ProblemState) (lines : List Line) (sel : List Bool) (c : ℕ) (w : ℤ) → IsClassLine problem c (line_in lines c)
    → joint_of problem sel c ≡ Some w → w ≤ℤ lined problem lines sel c
under_line problem lines sel c w is e =
    let number : suc c ≡ c + 1 = omega arith in
    let inside = net_inside (c + 1) problem.blocks sel in
    is.above (net_volume problem.blocks sel (c + 1)) w inside.0 inside.1
    (ap (λ (n : ℕ). joint_welfare (class_orders problem c) (net_volume problem.blocks sel n)) (sym number) ∙ e)

pub bounds_welfare : (problem : ProblemState) (pricing : Pricing) (sel : List Bool) (w : ℤ) → IsByLines problem pricing
    → selection_welfare problem sel ≡ Some w → w ≤ℤ (pricing.base +ℤ over_gains pricing.gains sel)
bounds_welfare problem pricing sel w is e =
    let has = has_whole problem sel w e in
    let same : w ≡ whole_of problem sel = some_is (sym e ∙ has.whole) in
    let most = over_most (λ c. worth (joint_of problem sel c)) (lined problem pricing.lines sel) (class_places problem)
    (λ j c at. (let place = is_place problem.blocks 0 (length problem.hours) j c at in let below = place.below in
    under_line problem pricing.lines sel c _ (is.lines_are c (omega (arith, below)) place.first) (has.each c))) in
    let sum = bound_is problem pricing sel is in
    omega (arith, ints, same, most, sum)
  where
    some_is : {x y : ℤ} → Some x ≡ Some y → x ≡ y
    some_is e = cc
