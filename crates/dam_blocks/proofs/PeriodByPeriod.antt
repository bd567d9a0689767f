-- Clearing the periods one by one.
use Rattle.dam_blocks.proofs.Common.{◌≡◌, ℕ, zero, suc, ◌+◌, ◌-◌, ◌*◌, ◌<◌, ◌≤◌, ℤ, pos, neg_ℤ, ◌+ℤ◌, ◌≤ℤ◌, Bool, Option, Some, None, List, [], ◌∷◌, length}
use Rattle.dam_blocks.proofs.Common.{get_or, take, drop, ap, ap₂, ◌∙◌, sym, subst, refl, inl, inr, arith, option_map, ints, cases_lt, slice_get_within}
use Rattle.dam_blocks.proofs.Common.{drop_all, most_hourly, greatest_value, Step, AreInRange, AreEnds, greatest_welfare, Block, ProblemState, AreHoursInRange}
use Rattle.dam_blocks.proofs.Common.{hourly_orders, net_volume, accepted_value, IsClearingPrice, ArePrices, added, period_welfare, welfare_from}
use Rattle.std.specs.List.{slice_get}
use Rattle.std.proofs.lemmas.List.{length-set}
use Rattle.std.proofs.Math.ListN.{set}
use Rattle.dam_book.specs.Limits.{last_period}
use Rattle.dam_hour.specs.Execution.{IsBalanced, IsUnbalanced}
use Rattle.dam_hour.specs.Best.{AreBestTotals}
use Rattle.dam_blocks.specs.Magnitude.{greatest_block_value_in_period}
use Rattle.dam_blocks.specs.Score.{IsFirstUnbalanced}
use Rattle.dam_blocks.proofs.Magnitudes.{welfare_within}

-- ---- one period
pub hour_at : (hours : List (List Step)) (i most : ℕ) (ss : List Step) → AreHoursInRange hours → hourly_orders hours ≤ most
    → slice_get hours i ≡ Some ss
    → AreInRange ss × (length ss ≤ most)
hour_at [] i most ss are few e = absurd (cc)
hour_at (hour ∷ hours) zero most ss are few e =
    let same : hour ≡ ss = cc in
    (subst (λ (h : List Step). AreInRange h) same are.0, omega (arith, few, ap length same))
hour_at (hour ∷ hours) (suc i) most ss are few e = hour_at hours i most ss are.1 (omega (arith, few)) e

period_within : (hours : List (List Step)) (i : ℕ) (ss : List Step) (net : ℤ) (bought sold : ℕ) (w : ℤ) → AreHoursInRange hours
    → hourly_orders hours ≤ most_hourly
    → slice_get hours i ≡ Some ss → AreBestTotals ss net bought sold w
    → (neg_ℤ (pos (most_hourly * greatest_value)) ≤ℤ w) × (w ≤ℤ pos (most_hourly * greatest_value))
period_within hours i ss net bought sold w are few at t =
    let hour = hour_at hours i most_hourly ss are few at in
    let within = welfare_within ss t.volumes hour.0 t.best.execution in
    let is = t.welfare_is in let long = hour.1 in
    (omega (arith, ints, within.0, is, long), omega (arith, ints, within.1, is, long))

-- the same for a period of the list that the code reads
pub period_read : (hours hours' : List (List Step)) (i : ℕ) (ss : List Step) (net : ℤ) (bought sold : ℕ) (w : ℤ) → hours' ≡ hours
    → AreHoursInRange hours → hourly_orders hours ≤ most_hourly → slice_get hours' i ≡ Some ss → AreBestTotals ss net bought sold w
    → (neg_ℤ (pos (most_hourly * greatest_value)) ≤ℤ w) × (w ≤ℤ pos (most_hourly * greatest_value))
period_read hours hours' i ss net bought sold w same are few at totals =
    period_within hours i ss net bought sold w are few (ap (λ (hs : List (List Step)). slice_get hs i) (sym same) ∙ at) totals

pub periods_read : (hours hours' : List (List Step)) → hours' ≡ hours → length hours ≤ last_period → length hours' ≤ last_period
periods_read hours hours' same few = let long = ap length same in omega (arith, long, few)

-- ---- the periods so far
pub record IsClearedSoFar (blocks : List Block) (sel : List Bool) (hours : List (List Step)) (place : ℕ) (welfare : ℤ)
    (prices : List ℤ) : Type 0 where
  pub sum : added (Some welfare) (welfare_from blocks sel (place + 1) (drop place hours)) ≡ welfare_from blocks sel 1 hours
  pub low : neg_ℤ (pos (place * (most_hourly * greatest_value + greatest_block_value_in_period))) ≤ℤ welfare
  pub high : welfare ≤ℤ pos (place * (most_hourly * greatest_value + greatest_block_value_in_period))
  pub long : length prices ≡ last_period
  pub each : (k : ℕ) (ss : List Step) → k < place → slice_get hours k ≡ Some ss
      → IsClearingPrice ss (net_volume blocks sel (k + 1)) (get_or prices k (pos 0))

added_assoc : (w v : ℤ) (x : Option ℤ) → added (Some w) (added (Some v) x) ≡ added (Some (w +ℤ v)) x
added_assoc w v None = refl
added_assoc w v (Some r) = let e : w +ℤ (v +ℤ r) ≡ (w +ℤ v) +ℤ r = omega (arith, ints) in ap (λ (z : ℤ). Some z) e

same_hour : (a b : List Step) → Some a ≡ Some b → a ≡ b
same_hour a b e = cc

drop_at : (hours : List (List Step)) (i : ℕ) (ss : List Step) → slice_get hours i ≡ Some ss → drop i hours ≡ ss ∷ drop (suc i) hours
drop_at [] i ss e = absurd (cc)
drop_at (hour ∷ hours) zero ss e = let same : hour ≡ ss = cc in ap (λ (h : List Step). h ∷ hours) same
drop_at (hour ∷ hours) (suc i) ss e = drop_at hours i ss e

get_or-set_at : (prices : List ℤ) (i : ℕ) (p : ℤ) → i < length prices → get_or (set prices i p) i (pos 0) ≡ p
get_or-set_at [] i p h = absurd (omega (arith, h))
get_or-set_at (q ∷ prices) zero p h = refl
get_or-set_at (q ∷ prices) (suc i) p h = get_or-set_at prices i p (omega (arith, h))

get_or-set_below : (prices : List ℤ) (i k : ℕ) (p : ℤ) → k < i → get_or (set prices i p) k (pos 0) ≡ get_or prices k (pos 0)
get_or-set_below [] i k p h = refl
get_or-set_below (q ∷ prices) zero k p h = absurd (omega (arith, h))
get_or-set_below (q ∷ prices) (suc i) zero p h = refl
get_or-set_below (q ∷ prices) (suc i) (suc k) p h = get_or-set_below prices i k p (omega (arith, h))

pub raised_is : (x : Option ℤ) (k g : ℤ) → x ≡ Some g → option_map (λ w. w +ℤ k) x ≡ Some (g +ℤ k)
raised_is x k g e = rw e

pub cleared_more : (blocks : List Block) (sel : List Bool) (hours : List (List Step)) (place t : ℕ) (welfare : ℤ) (prices : List ℤ)
    (ss : List Step)
    (net low high p g value after : ℤ)
    → slice_get hours place ≡ Some ss → place < last_period → t ≡ place + 1 → net ≡ net_volume blocks sel t → AreEnds ss net low high
    → IsClearingPrice ss net p
    → greatest_welfare ss net ≡ Some g → value ≡ accepted_value blocks sel t → neg_ℤ (pos (most_hourly * greatest_value)) ≤ℤ g
    → g ≤ℤ pos (most_hourly * greatest_value)
    → neg_ℤ (pos greatest_block_value_in_period) ≤ℤ value → value ≤ℤ pos greatest_block_value_in_period → after ≡ welfare +ℤ (g +ℤ value)
    → IsClearedSoFar blocks sel hours place welfare prices → IsClearedSoFar blocks sel hours (place + 1) after (set prices place p)
cleared_more blocks sel hours place t welfare prices ss net low high p g value after at room period net_is ends price great value_is gl gh
    vl vh e so_far =
    let one : suc place ≡ place + 1 = omega arith in
    let net_here : net ≡ net_volume blocks sel (place + 1) = net_is ∙ ap (λ (n : ℕ). net_volume blocks sel n) period in
    let value_here : value ≡ accepted_value blocks sel (place + 1) = value_is ∙ ap (λ (n : ℕ). accepted_value blocks sel n) period in
    let great_here : greatest_welfare ss (net_volume blocks sel (place + 1)) ≡ Some g =
    ap (λ (z : ℤ). greatest_welfare ss z) (sym net_here) ∙ great in
    let here : period_welfare blocks sel (place + 1) ss ≡ Some (g +ℤ value) =
    raised_is (greatest_welfare ss (net_volume blocks sel (place + 1))) (accepted_value blocks sel (place + 1)) g great_here
    ∙ ap (λ (z : ℤ). Some (g +ℤ z)) (sym value_here) in
    let rest = welfare_from blocks sel ((place + 1) + 1) (drop (place + 1) hours) in
    let unfolded : welfare_from blocks sel (place + 1) (drop place hours) ≡ added (Some (g +ℤ value)) rest =
    ap (λ (hs : List (List Step)). welfare_from blocks sel (place + 1) hs) (drop_at hours place ss at)
    ∙ ap₂ (λ (x y : Option ℤ). added x y) here
    (ap₂ (λ (m n : ℕ). welfare_from blocks sel m (drop n hours)) (let s : suc (place + 1) ≡ (place + 1) + 1 = omega arith in s) one) in
    let sum = so_far.sum in let l = so_far.low in let h = so_far.high in
    record {
      sum = ap (λ (z : ℤ). added (Some z) rest) e ∙ sym (added_assoc welfare (g +ℤ value) rest)
          ∙ ap (λ (x : Option ℤ). added (Some welfare) x) (sym unfolded) ∙ sum;
      low = omega (arith, ints, l, gl, vl, e);
      high = omega (arith, ints, h, gh, vh, e);
      long = length-set prices place p ∙ so_far.long;
      each = λ k other below stands.
          elim (cases_lt k place) [
            | inl less ↦ subst (λ (z : ℤ). IsClearingPrice other (net_volume blocks sel (k + 1)) z)
                (sym (get_or-set_below prices place k p less)) (so_far.each k other less stands)
            | inr more ↦
                (let same : k ≡ place = omega (arith, below, more) in
                let is : ss ≡ other = same_hour ss other (sym at ∙ ap (λ (n : ℕ). slice_get hours n) (sym same) ∙ stands) in
                let set_is : get_or (set prices place p) k (pos 0) ≡ p =
                ap (λ (n : ℕ). get_or (set prices place p) n (pos 0)) same
                ∙ get_or-set_at prices place p (let long = so_far.long in omega (arith, room, long)) in
                let first = subst (λ (z : ℤ). IsClearingPrice ss z p) (net_here
                ∙ ap (λ (n : ℕ). net_volume blocks sel (n + 1)) (sym same)) price in
                subst (λ (z : ℤ). IsClearingPrice other (net_volume blocks sel (k + 1)) z) (sym set_is)
                (subst (λ (h : List Step). IsClearingPrice h (net_volume blocks sel (k + 1)) p) is first))
          ];
    }

-- the prices of all periods
prices_from_each : (blocks : List Block) (sel : List Bool) (t : ℕ) (hours : List (List Step)) (prices : List ℤ)
    → length hours ≤ length prices
    → ((k : ℕ) (ss : List Step) → slice_get hours k ≡ Some ss
    → IsClearingPrice ss (net_volume blocks sel (k + t)) (get_or prices k (pos 0)))
    → ArePrices blocks sel t hours (take (length hours) prices)
prices_from_each blocks sel t [] prices l each = tt
prices_from_each blocks sel t (ss ∷ hours) [] l each = absurd (omega (arith, l))
prices_from_each blocks sel t (ss ∷ hours) (p ∷ prices) l each =
    let first : 0 + t ≡ t = omega arith in (
      subst (λ (n : ℕ). IsClearingPrice ss (net_volume blocks sel n) p) first (each 0 ss refl),
      prices_from_each blocks sel (suc t) hours prices (omega (arith, l)) (λ k other at.
          (let next : suc k + t ≡ k + suc t = omega arith in
          subst (λ (n : ℕ). IsClearingPrice other (net_volume blocks sel n) (get_or prices k (pos 0))) next (each (suc k) other at))),
    )

pub all_prices : (blocks : List Block) (sel : List Bool) (hours : List (List Step)) (place : ℕ) (welfare : ℤ) (prices : List ℤ)
    → length hours ≤ place → length hours ≤ last_period
    → IsClearedSoFar blocks sel hours place welfare prices → ArePrices blocks sel 1 hours (take (length hours) prices)
all_prices blocks sel hours place welfare prices all room so_far =
    prices_from_each blocks sel 1 hours prices (let long = so_far.long in
    omega (arith, room, long)) (λ k ss at. (let inside = slice_get_within hours k ss at in
    so_far.each k ss (omega (arith, inside, all)) at))

pub all_welfare : (blocks : List Block) (sel : List Bool) (hours : List (List Step)) (place : ℕ) (welfare : ℤ) (prices : List ℤ)
    → length hours ≤ place
    → IsClearedSoFar blocks sel hours place welfare prices → welfare_from blocks sel 1 hours ≡ Some welfare
all_welfare blocks sel hours place welfare prices all so_far =
    let zero_left : welfare +ℤ pos 0 ≡ welfare = omega (arith, ints) in
    sym so_far.sum ∙ ap (λ (hs : List (List Step)). added (Some welfare) (welfare_from blocks sel (place + 1) hs))
    (drop_all place hours all) ∙ ap (λ (z : ℤ). Some z) zero_left

-- the first period that doesn't balance
pub first_unbalanced : (problem : ProblemState) (sel : List Bool) (hours : List (List Step)) (place t : ℕ) (welfare : ℤ) (prices : List ℤ)
    (ss : List Step) (net : ℤ)
    → hours ≡ problem.hours → slice_get hours place ≡ Some ss → t ≡ place + 1 → net ≡ net_volume problem.blocks sel t → IsUnbalanced ss net
    → IsClearedSoFar problem.blocks sel hours place welfare prices → IsFirstUnbalanced problem sel t
first_unbalanced problem sel hours place t welfare prices ss net same at period net_is none so_far =
    let back : t - 1 ≡ place = omega (arith, period) in
    record {
      from_one = omega (arith, period);
      hour = ss;
      stands = ap₂ (λ (hs : List (List Step)) (n : ℕ). slice_get hs n) (sym same) back ∙ at;
      unbalanced = subst (λ (z : ℤ). IsUnbalanced ss z) net_is none;
      before = λ s other least less stands.
          (let there : slice_get hours (s - 1) ≡ Some other = ap (λ (hs : List (List Step)). slice_get hs (s - 1)) same ∙ stands in
          let price = so_far.each (s - 1) other (omega (arith, least, less, period)) there in
          let again : (s - 1) + 1 ≡ s = omega (arith, least) in
          let supports = price.ends.low_supports in
          subst (λ (n : ℕ). IsBalanced other (net_volume problem.blocks sel n)) again
          (supports.volumes, supports.execution, supports.balance));
    }
