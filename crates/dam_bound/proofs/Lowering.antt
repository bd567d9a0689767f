-- The welfare of a selection, from a bound that is lowered class by class.
use Rattle.dam_bound.proofs.Common.{◌≡◌, ℕ, zero, suc, ◌+◌, ◌-◌, ◌*◌, ◌<◌, ◌≤◌, cond, Bool, true, false, ℤ, ◌+ℤ◌, ◌-ℤ◌, ◌*ℤ◌, ◌≤ℤ◌, Some, None, List, [], ◌∷◌}
use Rattle.dam_bound.proofs.Common.{length, drop, take, get_or, ap, ap₂, ◌∙◌, sym, subst, refl, inl, inr, arith, slice_get, ints, to_z-of_z, cases_eq, drop_all}
use Rattle.dam_bound.proofs.Common.{take_all, slice_get_within, SFits, most_blocks, last_period, greatest_volume, greatest_value, greatest_price, joint_welfare}
use Rattle.dam_bound.proofs.Common.{line_value, Line, Block, ProblemState, AreBlocks, IsWithin, accepts, over_accepted, net_volume_of_block, net_volume}
use Rattle.dam_bound.proofs.Common.{selection_welfare, class_orders, day_value, least_net_in, most_net_in, over_gains, line_in, IsByLines, class_places}
use Rattle.dam_bound.proofs.Common.{over_places, at_places, Pricing, weighted_sum}
use Rattle.std.proofs.Common.{pos}
use mir.Syntax.{w32, w64}
use mir.Val.{to_z, of_z}
use Rattle.dam_hour.specs.Limits.{greatest_net}
use Rattle.dam_curve.specs.Curve.{greatest_joint_welfare}
use Rattle.dam_curve.specs.Line.{IsSmallLine}
use Rattle.dam_bound.specs.inside.BlockNumbers.{AreCounts, greatest_line_value}
use Rattle.dam_bound.proofs.AtPlaces.{value_small, net_small}
use Rattle.dam_bound.proofs.ByClass.{joint_of, whole_of, has_whole, from_classes}
use Rattle.dam_bound.proofs.ClassPlaces.{over_most, over_within, over_from, over_next, take_get, is_place, few_places, few_taken}
use Rattle.dam_bound.proofs.Lining.{gains_are, lined, bound_is, under_line, net_inside}
use Rattle.dam_bound.proofs.PlaceSums.{times_within, over_nothing}
use Rattle.dam_bound.proofs.Sizes.{over_within as accepted_within}
use Rattle.dam_bound.proofs.Worth.{worth}

-- ---- the net volume of the selection
pub counted : (n : ℕ) (counts nets : List ℤ) (sel : List Bool) → length counts ≡ n → length nets ≡ n
    → ((i : ℕ) (d : ℤ) → i < n → get_or counts i d ≡ cond (accepts sel i) (pos 1) (pos 0)) → weighted_sum counts nets ≡ over_gains nets sel
counted zero [] [] sel l m each = refl
counted zero (w ∷ counts) nets sel l m each = absurd (omega (arith, l))
counted zero [] (x ∷ nets) sel l m each = absurd (omega (arith, m))
counted (suc n) [] nets sel l m each = absurd (omega (arith, l))
counted (suc n) (w ∷ counts) [] sel l m each = absurd (omega (arith, m))
counted (suc n) (w ∷ counts) (x ∷ nets) [] l m each =
    let here = each 0 (pos 0) (omega arith) in
    let rest = counted n counts nets [] (omega (arith, l)) (omega (arith, m)) (λ i d k. each (suc i) d (omega (arith, k))) in
    let none = over_nothing nets in let first = ap (λ (z : ℤ). z *ℤ x) here in
    omega (arith, ints, rest, none, first)
counted (suc n) (w ∷ counts) (x ∷ nets) (true ∷ sel) l m each =
    let here = each 0 (pos 0) (omega arith) in
    let rest = counted n counts nets sel (omega (arith, l)) (omega (arith, m)) (λ i d k. each (suc i) d (omega (arith, k))) in
    let first = ap (λ (z : ℤ). z *ℤ x) here in
    omega (arith, ints, rest, first)
counted (suc n) (w ∷ counts) (x ∷ nets) (false ∷ sel) l m each =
    let here = each 0 (pos 0) (omega arith) in
    let rest = counted n counts nets sel (omega (arith, l)) (omega (arith, m)) (λ i d k. each (suc i) d (omega (arith, k))) in
    let first = ap (λ (z : ℤ). z *ℤ x) here in
    omega (arith, ints, rest, first)

pub net_is : (problem : ProblemState) (sel : List Bool) (c : ℕ) (counts nets : List ℤ) → length problem.blocks ≤ most_blocks
    → nets ≡ at_places most_blocks (net_volume_of_block (c + 1)) problem.blocks → length nets ≡ most_blocks → AreCounts sel counts
    → weighted_sum counts nets ≡ net_volume problem.blocks sel (c + 1)
net_is problem sel c counts nets few are long is =
    counted most_blocks counts nets sel is.long long is.each
    ∙ ap (λ (xs : List ℤ). over_gains xs sel) are
    ∙ gains_are most_blocks (net_volume_of_block (c + 1)) problem.blocks sel few

pub net_narrow : (x : ℤ) → IsWithin (2 * greatest_net) x → to_z w32 (of_z w32 x) ≡ x
net_narrow x is = let low = is.at_least in let high = is.at_most in to_z-of_z w32 x (omega (arith, ints, low, high))

pub joint_here : (problem : ProblemState) (sel : List Bool) (c : ℕ)
    → joint_welfare (class_orders problem c) (net_volume problem.blocks sel (c + 1)) ≡ joint_of problem sel c
joint_here problem sel c =
    let number : c + 1 ≡ suc c = omega arith in
    ap (λ (n : ℕ). joint_welfare (class_orders problem c) (net_volume problem.blocks sel n)) number

-- ---- the classes so far
pub record IsReached (problem : ProblemState) (sel : List Bool) (c : ℕ) : Type 0 where
  pub some : joint_of problem sel c ≡ Some (worth (joint_of problem sel c))
  pub small : IsWithin greatest_joint_welfare (worth (joint_of problem sel c))

-- the worths of the classes so far, the lines of the others, and the value of the blocks
abbrev pub lowered : ProblemState → List Line → List Bool → ℕ → ℤ
lowered problem lines sel j =
    (over_places (λ c. worth (joint_of problem sel c)) (take j (class_places problem))
    +ℤ over_places (lined problem lines sel) (drop j (class_places problem)))
    +ℤ over_accepted (day_value problem) problem.blocks sel

pub record IsLowered (problem : ProblemState) (lines : List Line) (sel : List Bool) (j : ℕ) (total : ℤ) : Type 0 where
  pub each : (i c : ℕ) → i < j → slice_get (class_places problem) i ≡ Some c → IsReached problem sel c
  pub total_is : total ≡ lowered problem lines sel j

pub lowered_first : (problem : ProblemState) (pricing : Pricing) (sel : List Bool) (total : ℤ) → IsByLines problem pricing
    → total ≡ pricing.base +ℤ over_gains pricing.gains sel → IsLowered problem pricing.lines sel 0 total
lowered_first problem pricing sel total is e = record {
  each = λ i c l at. absurd (omega (arith, l));
  total_is = (let same = bound_is problem pricing sel is in omega (arith, ints, same, e));
}

pub lowered_more : (problem : ProblemState) (lines : List Line) (sel : List Bool) (j c : ℕ) (total after u : ℤ)
    → slice_get (class_places problem) j ≡ Some c → joint_of problem sel c ≡ Some u → IsWithin greatest_joint_welfare u
    → after ≡ total -ℤ (lined problem lines sel c -ℤ u) → IsLowered problem lines sel j total → IsLowered problem lines sel (j + 1) after
lowered_more problem lines sel j c total after u at joint small e so_far =
    let number : suc j ≡ j + 1 = omega arith in
    let places = class_places problem in
    let own : worth (joint_of problem sel c) ≡ u = ap worth joint in
    let taken = over_next (λ d. worth (joint_of problem sel d)) places j c at in
    let count = ap (λ (n : ℕ). over_places (λ d. worth (joint_of problem sel d)) (take n places)) number in
    let left = over_from (lined problem lines sel) places j c at in
    let is = so_far.total_is in
    record {
      each = λ i d l there. elim (cases_eq i j) [
        | inl same ↦
            (let here : c ≡ d = one_place (sym at ∙ ap (λ (n : ℕ). slice_get places n) (sym same) ∙ there) in
            subst (IsReached problem sel) here (record {
              some = joint ∙ ap Some (sym own);
              small = subst (IsWithin greatest_joint_welfare) (sym own) small;
            }))
        | inr apart ↦ so_far.each i d (omega (arith, l, apart)) there
      ];
      total_is = omega (arith, ints, own, taken, count, left, is, e);
    }
  where
    one_place : {x y : ℕ} → Some x ≡ Some y → x ≡ y
    one_place e = cc

-- ---- the selection's welfare
split : (f : ℕ → ℤ) (places : List ℕ) (j : ℕ) → over_places f (take j places) +ℤ over_places f (drop j places) ≡ over_places f places
split f places zero = omega (arith, ints)
split f [] (suc j) = refl
split f (c ∷ places) (suc j) = let rest = split f places j in omega (arith, ints, rest)

drop_get : {X : Type 0} (xs : List X) (n j : ℕ) (x : X) → slice_get (drop n xs) j ≡ Some x → slice_get xs (n + j) ≡ Some x
drop_get xs zero j x at = let none : 0 + j ≡ j = omega arith in ap (slice_get xs) none ∙ at
drop_get [] (suc n) j x at = absurd (cc)
drop_get (y ∷ xs) (suc n) j x at =
    let next : suc n + j ≡ suc (n + j) = omega arith in ap (slice_get (y ∷ xs)) next ∙ drop_get xs n j x at

some_is : {x y : ℤ} → Some x ≡ Some y → x ≡ y
some_is e = cc

-- it is no greater than the lowered bound
pub most_lowered : (problem : ProblemState) (pricing : Pricing) (sel : List Bool) (j : ℕ) (total w : ℤ) → IsByLines problem pricing
    → IsLowered problem pricing.lines sel j total → selection_welfare problem sel ≡ Some w → w ≤ℤ total
most_lowered problem pricing sel j total w is so_far e =
    let has = has_whole problem sel w e in let places = class_places problem in
    let same : w ≡ whole_of problem sel = some_is (sym e ∙ has.whole) in
    let parts = split (λ c. worth (joint_of problem sel c)) places j in
    let most = over_most (λ c. worth (joint_of problem sel c)) (lined problem pricing.lines sel) (drop j places) (λ i c at.
    (let place = is_place problem.blocks 0 (length problem.hours) (j + i) c (drop_get places j i c at) in let below = place.below in
    under_line problem pricing.lines sel c _ (is.lines_are c (omega (arith, below)) place.first) (has.each c))) in
    let total_is = so_far.total_is in
    omega (arith, ints, same, parts, most, total_is)

-- with all classes it is the selection's welfare
pub all_lowered : (problem : ProblemState) (lines : List Line) (sel : List Bool) (j : ℕ) (total : ℤ) → length (class_places problem) ≤ j
    → IsLowered problem lines sel j total → selection_welfare problem sel ≡ Some total
all_lowered problem lines sel j total past so_far =
    let places = class_places problem in
    let taken = ap (over_places (λ c. worth (joint_of problem sel c))) (take_all j places past) in
    let left = ap (over_places (lined problem lines sel)) (drop_all j places past) in
    let is = so_far.total_is in
    let same : whole_of problem sel ≡ total = omega (arith, ints, taken, left, is) in
    from_classes problem sel (λ i c at.
    (let index = slice_get_within places i c at in (worth (joint_of problem sel c), (so_far.each i c (omega (arith, index, past)) at).some)))
    ∙ ap Some same

-- a class that doesn't balance
pub none_balances : (problem : ProblemState) (sel : List Bool) (c : ℕ) (w : ℤ) → joint_of problem sel c ≡ None
    → selection_welfare problem sel ≡ Some w → ⊥
none_balances problem sel c w none e = let has = (has_whole problem sel w e).each c in absurd (cc)

-- ---- how large the lowered bound is
net_bounded : (periods t : ℕ) (bs : List Block) (sel : List Bool) → AreBlocks periods bs → length bs ≤ most_blocks
    → IsWithin greatest_net (net_volume bs sel t)
net_bounded periods t bs sel are few =
    let w = accepted_within (net_volume_of_block t) greatest_volume periods (net_small t) bs sel are in let l = w.at_least in let h = w.at_most in
    record { at_least = omega (arith, ints, l, few); at_most = omega (arith, ints, h, few) }

line_within : (line : Line) (net : ℤ) → IsSmallLine last_period line → IsWithin (2 * greatest_net) net
    → IsWithin greatest_line_value (line_value line net)
line_within line net small within =
    let l = small.price_at_least in let h = small.price_at_most in
    let product = times_within (last_period * greatest_price) (2 * greatest_net) line.price net (record { at_least = l; at_most = h }) within in
    let a = product.at_least in let b = product.at_most in let c = small.surplus_at_least in let d = small.surplus_at_most in
    record { at_least = omega (arith, ints, a, c); at_most = omega (arith, ints, b, d) }

pub lined_within : (problem : ProblemState) (pricing : Pricing) (sel : List Bool) (j c : ℕ) → AreBlocks (length problem.hours) problem.blocks
    → length problem.blocks ≤ most_blocks → slice_get (class_places problem) j ≡ Some c → IsByLines problem pricing
    → IsWithin greatest_line_value (lined problem pricing.lines sel c)
lined_within problem pricing sel j c blocks few_blocks at is =
    let place = is_place problem.blocks 0 (length problem.hours) j c at in let below = place.below in
    let net = net_bounded (length problem.hours) (c + 1) problem.blocks sel blocks few_blocks in
    let l = net.at_least in let h = net.at_most in
    line_within (line_in pricing.lines c) (net_volume problem.blocks sel (c + 1)) (is.lines_are c (omega (arith, below)) place.first).small
    (record { at_least = omega (arith, ints, l); at_most = omega (arith, ints, h) })

few_left : (places : List ℕ) (j : ℕ) → length (drop j places) + j ≤ length places + (j - length places)
few_left places zero = omega arith
few_left [] (suc j) = omega arith
few_left (p ∷ places) (suc j) = let rest = few_left places j in omega (arith, rest)

-- the size of the lowered bound
abbrev pub greatest_lowered : ℕ
greatest_lowered = last_period * greatest_line_value + most_blocks * (last_period * greatest_value)

pub lowered_within : (problem : ProblemState) (pricing : Pricing) (sel : List Bool) (j : ℕ) (total : ℤ)
    → length problem.hours ≤ last_period → AreBlocks (length problem.hours) problem.blocks → length problem.blocks ≤ most_blocks
    → j ≤ length (class_places problem) → IsByLines problem pricing → IsLowered problem pricing.lines sel j total → IsWithin greatest_lowered total
lowered_within problem pricing sel j total few blocks few_blocks end is so_far =
    let places = class_places problem in
    let worths = over_within (λ c. worth (joint_of problem sel c)) (take j places) greatest_joint_welfare (λ i c at.
    (let found = take_get places j i c at in (so_far.each i c found.1 found.0).small)) in
    let lines = over_within (lined problem pricing.lines sel) (drop j places) greatest_line_value (λ i c at.
    lined_within problem pricing sel (j + i) c blocks few_blocks (drop_get places j i c at) is) in
    let values = accepted_within (day_value problem) (last_period * greatest_value) (length problem.hours)
    (λ o order. value_small (length problem.hours) o few order) problem.blocks sel blocks in
    let taken = few_taken places j in let left = few_left places j in let all = few_places problem.blocks 0 (length problem.hours) in
    let total_is = so_far.total_is in
    let a = worths.at_least in let b = worths.at_most in let c = lines.at_least in let d = lines.at_most in
    let e = values.at_least in let h = values.at_most in
    record {
      at_least = omega (arith, ints, total_is, a, c, e, taken, left, all, few, few_blocks, end);
      at_most = omega (arith, ints, total_is, b, d, h, taken, left, all, few, few_blocks, end);
    }

-- a total that is lowered, as the code has it
pub one_lowered : (problem : ProblemState) (pricing : Pricing) (sel : List Bool) (j c : ℕ) (total line u : ℤ)
    → length problem.hours ≤ last_period → AreBlocks (length problem.hours) problem.blocks → length problem.blocks ≤ most_blocks
    → slice_get (class_places problem) j ≡ Some c → IsByLines problem pricing → joint_of problem sel c ≡ Some u
    → IsWithin greatest_joint_welfare u → line ≡ lined problem pricing.lines sel c
    → IsLowered problem pricing.lines sel j total
    → SFits w64 (total -ℤ to_z w64 (of_z w64 (to_z w64 (of_z w64 line) -ℤ to_z w64 (of_z w64 u))))
    × IsLowered problem pricing.lines sel (j + 1)
    (to_z w64 (of_z w64 (total -ℤ to_z w64 (of_z w64 (to_z w64 (of_z w64 line) -ℤ to_z w64 (of_z w64 u))))))
one_lowered problem pricing sel j c total line u few blocks few_blocks at is joint small line_is so_far =
    let line_small = subst (IsWithin greatest_line_value) (sym line_is) (lined_within problem pricing sel j c blocks few_blocks at is) in
    let a = small.at_least in let b = small.at_most in let d = line_small.at_least in let e = line_small.at_most in
    let one = to_z-of_z w64 line (omega (arith, ints, d, e)) in
    let two = to_z-of_z w64 u (omega (arith, ints, a, b)) in
    let inner = ap₂ (λ (x y : ℤ). x -ℤ y) one two in
    let fall = ap (λ (z : ℤ). to_z w64 (of_z w64 z)) inner ∙ to_z-of_z w64 (line -ℤ u) (omega (arith, ints, a, b, d, e)) in
    let all = ap (λ (z : ℤ). total -ℤ z) fall in
    let index = slice_get_within (class_places problem) j c at in
    let after : total -ℤ (line -ℤ u) ≡ total -ℤ (lined problem pricing.lines sel c -ℤ u) = ap (λ (z : ℤ). total -ℤ (z -ℤ u)) line_is in
    let more = lowered_more problem pricing.lines sel j c total (total -ℤ (line -ℤ u)) u at joint small after so_far in
    let within = lowered_within problem pricing sel (j + 1) (total -ℤ (line -ℤ u)) few blocks few_blocks (omega (arith, index)) is more in
    let l = within.at_least in let h = within.at_most in
    let fits : SFits w64 (total -ℤ (line -ℤ u)) = omega (arith, ints, l, h) in (
      subst (SFits w64) (sym all) fits,
      subst (IsLowered problem pricing.lines sel (j + 1))
          (sym (ap (λ (z : ℤ). to_z w64 (of_z w64 z)) all ∙ to_z-of_z w64 (total -ℤ (line -ℤ u)) fits)) more,
    )

-- the net volume of a class, as the code has it
pub net_read : (problem : ProblemState) (sel : List Bool) (c : ℕ) (counts nets : List ℤ) (w net : ℤ) → length problem.blocks ≤ most_blocks
    → nets ≡ at_places most_blocks (net_volume_of_block (c + 1)) problem.blocks → length nets ≡ most_blocks → AreCounts sel counts
    → w ≡ weighted_sum counts nets → IsWithin (2 * greatest_net) w → net ≡ to_z w32 (of_z w32 w)
    → (to_z w64 (of_z w64 net) ≡ net_volume problem.blocks sel (c + 1)) × (net ≡ net_volume problem.blocks sel (c + 1))
net_read problem sel c counts nets w net few are long is value small shown =
    let same = shown ∙ net_narrow w small ∙ value ∙ net_is problem sel c counts nets few are long is in
    let l = small.at_least in let h = small.at_most in let narrow = net_narrow w small in
    (to_z-of_z w64 net (omega (arith, ints, shown, narrow, l, h)) ∙ same, same)

pub range_read : (problem : ProblemState) (sel : List Bool) (c : ℕ) (net : ℤ) → net ≡ net_volume problem.blocks sel (c + 1)
    → (least_net_in (c + 1) problem.blocks ≤ℤ net) × (net ≤ℤ most_net_in (c + 1) problem.blocks)
range_read problem sel c net e =
    let inside = net_inside (c + 1) problem.blocks sel in let l = inside.0 in let h = inside.1 in
    (omega (arith, ints, l, e), omega (arith, ints, h, e))
