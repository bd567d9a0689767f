-- What decisions take of the slack under a limit, place by place.
use Rattle.dam_bound.proofs.Common.{◌≡◌, ◌≢◌, ◌⊎◌, ℕ, zero, suc, ◌+◌, ◌*◌, ◌<◌, ◌≤◌, ℤ, neg_ℤ, ◌+ℤ◌, ◌-ℤ◌, ◌≤ℤ◌, Bool, true, false, Option, Some, None, List}
use Rattle.dam_bound.proofs.Common.{[], ◌∷◌, length, drop, get_or, slice_set, ◌==◌, ◌&&◌, ap, ap₂, ◌∙◌, sym, subst, refl, inl, inr, arith, int_max, int_min}
use Rattle.dam_bound.proofs.Common.{ints, int_max_is, int_min_is, cases_eq, nat_tests, drop_all, length-set, get_or-set_same, get_or-set_other, most_blocks}
use Rattle.dam_bound.proofs.Common.{greatest_volume, CurvesState, joint_welfare, ProblemState, IsWithin, accepts, net_volume_of_block, net_volume, class_orders}
use Rattle.dam_bound.proofs.Common.{least_net_in, most_net_in, IsClassIn, most_limits, slack_taken, limit_in, over_gains, at_places, Class, AreNumbersWithin}
use Rattle.dam_bound.proofs.Common.{negative_sum}
use Rattle.std.proofs.Common.{pos, ◌<ℤ◌, replicate, not}
use Rattle.std.proofs.lemmas.Int.{by_lt_z}
use Rattle.std.proofs.lemmas.List.{length-replicate}
use Rattle.dam_curve.specs.declared.net_range.NetRange.{NetRange}
use Rattle.dam_blocks.specs.Eligible.{IsEligible}
use Rattle.dam_bound.specs.NetLimits.{if_open, taken_under, every_place, greatest_slack, IsLimit, AreLimits, AreSlacks, HasSlack}
use Rattle.dam_bound.specs.declared.net_limits.NetLimit.{NetLimit}
use Rattle.dam_bound.proofs.Accepted.{if_accepted}
use Rattle.dam_bound.proofs.ByClass.{has_whole}
use Rattle.dam_bound.proofs.Lining.{gains_are, net_inside}
use Rattle.dam_bound.proofs.Lowering.{joint_here}
use Rattle.dam_bound.proofs.PlaceSums.{get_or-any, gains_from, no_gains}

-- ---- a decision
pub taken_within : (accept : Bool) (z : ℤ) → IsWithin greatest_volume z → (pos 0 ≤ℤ slack_taken accept z) × (slack_taken accept z ≤ℤ pos greatest_volume)
taken_within true z w =
    let l = w.at_least in let h = w.at_most in let is = int_max_is z (pos 0) in (omega (arith, ints, is), omega (arith, ints, is, h))
taken_within false z w =
    let l = w.at_least in let h = w.at_most in let is = int_max_is (neg_ℤ z) (pos 0) in (omega (arith, ints, is), omega (arith, ints, is, l))

-- it takes the number of an accepted block, less its part below 0
taken_is : (accept : Bool) (z : ℤ) → slack_taken accept z +ℤ int_min z (pos 0) ≡ if_accepted accept z
taken_is true z = let a = int_max_is z (pos 0) in let b = int_min_is z (pos 0) in omega (arith, ints, a, b)
taken_is false z = let a = int_max_is (neg_ℤ z) (pos 0) in let b = int_min_is z (pos 0) in omega (arith, ints, a, b)

-- ---- the decisions on the first places
pub taken_small : (nets : List ℤ) (sel : List Bool) (free : ℕ → Bool) (n : ℕ)
    → ((place : ℕ) → place < n → IsWithin greatest_volume (get_or nets place (pos 0)))
    → (pos 0 ≤ℤ taken_under nets sel free n) × (taken_under nets sel free n ≤ℤ pos (n * greatest_volume))
taken_small nets sel free zero small = (omega (arith, ints), omega (arith, ints))
taken_small nets sel free (suc n) small =
    let rest = taken_small nets sel free n (λ place l. small place (omega (arith, l))) in
    let own = taken_within (accepts sel n) (get_or nets n (pos 0)) (small n (omega arith)) in
    let a = rest.0 in let b = rest.1 in let c = own.0 in let d = own.1 in
    elim (free n) as (λ o. (pos 0 ≤ℤ (taken_under nets sel free n +ℤ if_open o (slack_taken (accepts sel n) (get_or nets n (pos 0)))))
    × ((taken_under nets sel free n +ℤ if_open o (slack_taken (accepts sel n) (get_or nets n (pos 0)))) ≤ℤ pos (suc n * greatest_volume))) [
      | true ↦ (omega (arith, ints, a, c), omega (arith, ints, b, d))
      | false ↦ (omega (arith, ints, a), omega (arith, ints, b))
    ]

pub same_taken : (nets : List ℤ) (sel : List Bool) (f g : ℕ → Bool) (n : ℕ) → ((place : ℕ) → place < n → f place ≡ g place)
    → taken_under nets sel f n ≡ taken_under nets sel g n
same_taken nets sel f g zero same = refl
same_taken nets sel f g (suc n) same =
    ap₂ (λ (z : ℤ) (o : Bool). z +ℤ if_open o (slack_taken (accepts sel n) (get_or nets n (pos 0))))
    (same_taken nets sel f g n (λ place l. same place (omega (arith, l)))) (same n (omega arith))

-- a place less is open
pub taken_less : (nets : List ℤ) (sel : List Bool) (before after : ℕ → Bool) (place n : ℕ) → place < n → before place ≡ true → after place ≡ false
    → ((p : ℕ) → p ≢ place → after p ≡ before p)
    → taken_under nets sel before n ≡ taken_under nets sel after n +ℤ slack_taken (accepts sel place) (get_or nets place (pos 0))
taken_less nets sel before after place zero inside on off same = absurd (omega (arith, inside))
taken_less nets sel before after place (suc n) inside on off same =
    let r = slack_taken (accepts sel n) (get_or nets n (pos 0)) in
    elim (cases_eq n place) [
      | inl here ↦
          (let rest = same_taken nets sel before after n (λ p l. sym (same p (λ e. absurd (omega (arith, e, l, here))))) in
          let was = ap (λ (o : Bool). if_open o r) (ap before here ∙ on) in
          let is = ap (λ (o : Bool). if_open o r) (ap after here ∙ off) in
          let own = ap (λ (k : ℕ). slack_taken (accepts sel k) (get_or nets k (pos 0))) here in
          omega (arith, ints, rest, was, is, own))
      | inr apart ↦
          (let rest = taken_less nets sel before after place n (omega (arith, inside, apart)) on off same in
          let own = ap (λ (o : Bool). if_open o r) (same n apart) in
          omega (arith, ints, rest, own))
    ]

-- ---- a limit by a sum
negative_from : (xs : List ℤ) (i : ℕ) → i < length xs
    → negative_sum (drop i xs) ≡ int_min (get_or xs i (pos 0)) (pos 0) +ℤ negative_sum (drop (suc i) xs)
negative_from [] i l = absurd (omega (arith, l))
negative_from (x ∷ xs) zero l = refl
negative_from (x ∷ xs) (suc i) l = negative_from xs i (omega (arith, l))

pub negative_next : (xs : List ℤ) (i : ℕ) → i < length xs
    → negative_sum (drop i xs) ≡ int_min (get_or xs i (pos 0)) (pos 0) +ℤ negative_sum (drop (i + 1) xs)
negative_next xs i l =
    let number : suc i ≡ i + 1 = omega arith in
    negative_from xs i l ∙ ap (λ (n : ℕ). int_min (get_or xs i (pos 0)) (pos 0) +ℤ negative_sum (drop n xs)) number

taken_so_far : (nets : List ℤ) (sel : List Bool) (n : ℕ) → n ≤ length nets
    → taken_under nets sel every_place n +ℤ (over_gains (drop n nets) (drop n sel) +ℤ negative_sum nets)
    ≡ over_gains nets sel +ℤ negative_sum (drop n nets)
taken_so_far nets sel zero l = omega (arith, ints)
taken_so_far nets sel (suc n) l =
    let rest = taken_so_far nets sel n (omega (arith, l)) in
    let gains = gains_from nets sel n (pos 0) (omega (arith, l)) in
    let low = negative_from nets n (omega (arith, l)) in
    let own = taken_is (accepts sel n) (get_or nets n (pos 0)) in
    omega (arith, ints, rest, gains, low, own)

taken_all : (nets : List ℤ) (sel : List Bool) → length nets ≡ most_blocks
    → taken_under nets sel every_place most_blocks +ℤ negative_sum nets ≡ over_gains nets sel
taken_all nets sel long =
    let all = taken_so_far nets sel most_blocks (omega (arith, long)) in
    let gains = no_gains nets sel most_blocks (omega (arith, long)) in
    let low = ap negative_sum (drop_all most_blocks nets (omega (arith, long))) in
    omega (arith, ints, all, gains, low)

pub limit_is : (problem : ProblemState) (limit : NetLimit) (most total low : ℤ) → AreNumbersWithin greatest_volume limit.nets → total ≡ negative_sum limit.nets
    → low ≡ int_max (most -ℤ total) (neg_ℤ (pos 1)) → limit.slack ≡ int_min low (pos greatest_slack)
    → ((sel : List Bool) (w : ℤ) → IsEligible problem sel w → over_gains limit.nets sel ≤ℤ most) → IsLimit problem limit
limit_is problem limit most total low small total_is low_is slack_is keeps =
    let over = int_max_is (most -ℤ total) (neg_ℤ (pos 1)) in let under = int_min_is low (pos greatest_slack) in record {
      long = small.long;
      small = small.each;
      slack_is = record {
        at_least = omega (arith, ints, over, under, low_is, slack_is);
        at_most = omega (arith, ints, over, under, low_is, slack_is);
      };
      keeps = λ sel w eligible.
          (let all = taken_all limit.nets sel small.long in
          let size = taken_small limit.nets sel every_place most_blocks (λ place l. small.each place (pos 0) l) in
          let own = keeps sel w eligible in let greatest = size.1 in
          omega (arith, ints, all, greatest, own, total_is, low_is, slack_is, over, under));
    }

-- ---- the limit that allows everything
zero_in : (n place : ℕ) (d : ℤ) → place < n → get_or (replicate n (pos 0)) place d ≡ pos 0
zero_in zero place d l = absurd (omega (arith, l))
zero_in (suc n) zero d l = refl
zero_in (suc n) (suc place) d l = zero_in n place d (omega (arith, l))

zero_taken : (accept : Bool) → slack_taken accept (pos 0) ≡ pos 0
zero_taken true = refl
zero_taken false = refl

nothing_taken : (nets : List ℤ) (sel : List Bool) (n : ℕ) → ((place : ℕ) → place < n → get_or nets place (pos 0) ≡ pos 0)
    → taken_under nets sel every_place n ≡ pos 0
nothing_taken nets sel zero none = refl
nothing_taken nets sel (suc n) none =
    let rest = nothing_taken nets sel n (λ place l. none place (omega (arith, l))) in
    let own = ap (slack_taken (accepts sel n)) (none n (omega arith)) ∙ zero_taken (accepts sel n) in
    omega (arith, ints, rest, own)

-- the limit that allows everything
abbrev pub no_limit : NetLimit
no_limit = record { nets = replicate most_blocks (pos 0); slack = pos 0 }

pub nothing_limits : (problem : ProblemState) → IsLimit problem no_limit
nothing_limits problem = record {
  long = length-replicate most_blocks (pos 0);
  small = λ place d l. (let zero = zero_in most_blocks place d l in
      record { at_least = omega (arith, ints, zero); at_most = omega (arith, ints, zero) });
  slack_is = record { at_least = omega (arith, ints); at_most = omega (arith, ints) };
  keeps = λ sel w eligible.
      (let none = nothing_taken (replicate most_blocks (pos 0)) sel most_blocks (λ place l. zero_in most_blocks place (pos 0) l) in
      omega (arith, ints, none));
}

limit_at : (n k : ℕ) (limit : NetLimit) → k < n → limit_in (replicate n limit) k ≡ limit
limit_at zero k limit l = absurd (omega (arith, l))
limit_at (suc n) zero limit l = refl
limit_at (suc n) (suc k) limit l = limit_at n k limit (omega (arith, l))

pub no_limits : (problem : ProblemState) → AreLimits problem (replicate most_limits no_limit)
no_limits problem = record {
  many = length-replicate most_limits no_limit;
  each = λ k l. subst (IsLimit problem) (sym (limit_at most_limits k no_limit l)) (nothing_limits problem);
}

pub limit_more : (problem : ProblemState) (limits : List NetLimit) (at : ℕ) (limit : NetLimit) → at < most_limits → IsLimit problem limit
    → AreLimits problem limits → AreLimits problem (slice_set limits at limit)
limit_more problem limits at limit inside is are = record {
  many = length-set limits at limit ∙ are.many;
  each = λ k l. elim (cases_eq k at) [
    | inl same ↦
        (let many = are.many in
        subst (IsLimit problem)
        (sym (ap (limit_in (slice_set limits at limit)) same ∙ get_or-set_same limits at limit any_limit (omega (arith, inside, many)))) is)
    | inr apart ↦ subst (IsLimit problem) (sym (get_or-set_other limits at k limit any_limit apart)) (are.each k l)
  ];
}
  where
    any_limit : NetLimit
    any_limit = record { nets = []; slack = pos 0 }

-- ---- slacks
-- the least of the first slacks
pub record IsLeast (slacks : List ℤ) (k : ℕ) (least : ℤ) : Type 0 where
  pub from : 1 ≤ k
  pub under : (i : ℕ) → i < k → least ≤ℤ get_or slacks i (pos 0)
  pub reached : (i : ℕ) × (i < k) × (least ≡ get_or slacks i (pos 0))

pub least_more : (slacks : List ℤ) (k : ℕ) (least x after : ℤ) → x ≡ get_or slacks k (pos 0) → after ≡ int_min least x → IsLeast slacks k least
    → IsLeast slacks (k + 1) after
least_more slacks k least x after e f is =
    let low = int_min_is least x in let from = is.from in record {
      from = omega (arith, from);
      under = λ i l. elim (cases_eq i k) [
        | inl same ↦ (let here = ap (λ (j : ℕ). get_or slacks j (pos 0)) same in omega (arith, ints, low, e, f, here))
        | inr apart ↦ (let before = is.under i (omega (arith, l, apart)) in omega (arith, ints, low, f, before))
      ];
      reached = by_lt_z x least
          (λ less. (k, omega arith, omega (arith, ints, low, e, f, less)))
          (λ more. (
            is.reached.0,
            (let inside = is.reached.1 in omega (arith, inside)),
            (let before = is.reached.2 in omega (arith, ints, low, f, more, before)),
          ));
    }

pub lowered_here : (held slacks : List ℤ) (k i : ℕ) (d z taken : ℤ) → i ≡ k → k < length held → k < length slacks
    → z ≡ get_or held k (pos 0) -ℤ taken → get_or held k (pos 0) ≡ get_or slacks k (pos 0)
    → get_or (slice_set held k z) i d ≡ get_or slacks i d -ℤ taken
lowered_here held slacks k i d z taken same inside within is was =
    ap (λ (j : ℕ). get_or (slice_set held k z) j d) same
    ∙ get_or-set_same held k z d inside ∙ is
    ∙ ap (λ (x : ℤ). x -ℤ taken) (was ∙ get_or-any slacks k (pos 0) d within)
    ∙ ap (λ (j : ℕ). get_or slacks j d -ℤ taken) (sym same)

-- the slacks after a decision
pub record AreLowered (limits : List NetLimit) (accept : Bool) (place : ℕ) (slacks after : List ℤ) : Type 0 where
  pub many : length after ≡ most_limits
  pub each : (k : ℕ) (d : ℤ) → k < most_limits
      → get_or after k d ≡ get_or slacks k d -ℤ slack_taken accept (get_or (limit_in limits k).nets place (pos 0))

pub still_slacks : (problem : ProblemState) (limits : List NetLimit) (accept : Bool) (place : ℕ) (slacks after : List ℤ) (least : ℤ) → AreLimits problem limits
    → place < most_blocks → AreSlacks slacks → AreLowered limits accept place slacks after
    → ((k : ℕ) → k < most_limits → least ≤ℤ get_or after k (pos 0)) → pos 0 ≤ℤ least → AreSlacks after
still_slacks problem limits accept place slacks after least are inside had lowered under some = record {
  many = lowered.many;
  small = λ k d l.
      (let is = lowered.each k d l in let was = had.small k d l in
      let taken = taken_within accept (get_or (limit_in limits k).nets place (pos 0)) ((are.each k l).small place (pos 0) inside) in
      let many = lowered.many in
      let own = under k l in let same = get_or-any after k d (pos 0) (omega (arith, many, l)) in
      let high = was.at_most in let none = taken.0 in
      record { at_least = omega (arith, ints, own, same, some); at_most = omega (arith, ints, is, high, none) });
}

pub still_has : (problem : ProblemState) (limits : List NetLimit) (accept : Bool) (place : ℕ) (slacks next : List ℤ) (sel : List Bool) (before after : ℕ → Bool)
    → place < most_blocks → AreLowered limits accept place slacks next → HasSlack limits sel before slacks
    → before place ≡ true → after place ≡ false → ((p : ℕ) → p ≢ place → after p ≡ before p) → accepts sel place ≡ accept
    → HasSlack limits sel after next
still_has problem limits accept place slacks next sel before after inside lowered has on off same decided k l =
    let nets = (limit_in limits k).nets in
    let less = taken_less nets sel before after place most_blocks inside on off same in
    let own = ap (λ (a : Bool). slack_taken a (get_or nets place (pos 0))) decided in
    let is = lowered.each k (pos 0) l in let had = has k l in
    omega (arith, ints, less, own, is, had)

pub none_fits : (problem : ProblemState) (limits : List NetLimit) (accept : Bool) (place : ℕ) (slacks after : List ℤ) (least : ℤ)
    (sel : List Bool) (free : ℕ → Bool) → AreLimits problem limits → place < most_blocks → AreLowered limits accept place slacks after
    → ((k : ℕ) × (k < most_limits) × (least ≡ get_or after k (pos 0))) → least <ℤ pos 0
    → HasSlack limits sel free slacks → free place ≡ true → accepts sel place ≡ accept → ⊥
none_fits problem limits accept place slacks after least sel free are inside lowered reached under has on decided =
    let k = reached.0 in let l = reached.1 in let nets = (limit_in limits k).nets in
    let others : ℕ → Bool = (λ p. free p && not (p == place)) in
    let less = taken_less nets sel free others place most_blocks inside on (closed on) (λ p apart. still p apart) in
    let small = taken_small nets sel others most_blocks (λ q m. (are.each k l).small q (pos 0) m) in
    let own = ap (λ (a : Bool). slack_taken a (get_or nets place (pos 0))) decided in
    let is = lowered.each k (pos 0) l in let had = has k l in let some = small.0 in let low = reached.2 in
    absurd (omega (arith, ints, less, own, is, had, some, low, under))
  where
    and_false : (a b : Bool) → b ≡ false → (a && b) ≡ false
    and_false true b e = e
    and_false false b e = refl

    and_true : (a b : Bool) → b ≡ true → (a && b) ≡ a
    and_true true b e = e
    and_true false b e = refl

    closed : free place ≡ true → (free place && not (place == place)) ≡ false
    closed on = and_false (free place) (not (place == place)) (grind (arith, nat_tests))

    still : (p : ℕ) → p ≢ place → (free p && not (p == place)) ≡ free p
    still p apart = and_true (free p) (not (p == place)) (grind (arith, nat_tests, apart))

-- ---- opposite numbers
pub opposite_gains : (xs ys : List ℤ) (sel : List Bool) → length ys ≡ length xs
    → ((i : ℕ) → i < length xs → get_or ys i (pos 0) ≡ neg_ℤ (get_or xs i (pos 0))) → over_gains ys sel ≡ neg_ℤ (over_gains xs sel)
opposite_gains [] [] sel long each = refl
opposite_gains [] (y ∷ ys) sel long each = absurd (omega (arith, long))
opposite_gains (x ∷ xs) [] sel long each = absurd (omega (arith, long))
opposite_gains (x ∷ xs) (y ∷ ys) [] long each = refl
opposite_gains (x ∷ xs) (y ∷ ys) (true ∷ sel) long each =
    let here = each 0 (omega arith) in
    let rest = opposite_gains xs ys sel (omega (arith, long)) (λ i l. each (suc i) (omega (arith, l))) in
    omega (arith, ints, here, rest)
opposite_gains (x ∷ xs) (y ∷ ys) (false ∷ sel) long each =
    opposite_gains xs ys sel (omega (arith, long)) (λ i l. each (suc i) (omega (arith, l)))

-- the net volume of a selection, by the net volumes of the blocks
net_of : (problem : ProblemState) (sel : List Bool) (c : ℕ) (nets : List ℤ) → length problem.blocks ≤ most_blocks
    → nets ≡ at_places most_blocks (net_volume_of_block (c + 1)) problem.blocks → over_gains nets sel ≡ net_volume problem.blocks sel (c + 1)
net_of problem sel c nets few are =
    ap (λ (xs : List ℤ). over_gains xs sel) are ∙ gains_are most_blocks (net_volume_of_block (c + 1)) problem.blocks sel few

-- ---- the net volumes of a class
-- with an eligible selection the net volume of a class lies in the range at which it balances
pub within_range : (problem : ProblemState) (curves : CurvesState) (class : Class) (range : NetRange) → length problem.blocks ≤ most_blocks
    → IsClassIn problem curves class
    → ((net : ℤ) → least_net_in (class.first_place + 1) problem.blocks ≤ℤ net → net ≤ℤ most_net_in (class.first_place + 1) problem.blocks
    → (net <ℤ range.least) ⊎ (range.most <ℤ net) → joint_welfare (class_orders problem class.first_place) net ≡ None)
    → (sel : List Bool) (w : ℤ) → IsEligible problem sel w
    → (range.least ≤ℤ over_gains class.nets sel) × (over_gains class.nets sel ≤ℤ range.most)
within_range problem curves class range few is outside sel w eligible =
    let c = class.first_place in
    let net = net_of problem sel c class.nets few is.nets_are in
    let inside = net_inside (c + 1) problem.blocks sel in
    let has = has_whole problem sel w eligible.welfare_is in
    let joint = joint_here problem sel c ∙ has.each c in (
      by_lt_z (over_gains class.nets sel) range.least
          (λ less. absurd (not_both (outside _ inside.0 inside.1 (inl (omega (arith, ints, less, net)))) joint)) (λ more. more),
      by_lt_z range.most (over_gains class.nets sel)
          (λ more. absurd (not_both (outside _ inside.0 inside.1 (inr (omega (arith, ints, more, net)))) joint)) (λ less. less),
    )
  where
    not_both : {o : Option ℤ} {x : ℤ} → o ≡ None → o ≡ Some x → ⊥
    not_both e f = absurd (cc)
