-- The prices of the classes at the net volumes of a selection, and what blocks gain at them.
use Rattle.dam_bound.proofs.Common.{◌≡◌, ℕ, suc, ◌+◌, ◌*◌, ◌<◌, ◌≤◌, ◌&&◌, Bool, true, false, ℤ, ◌+ℤ◌, ◌-ℤ◌, ◌*ℤ◌, Option, Some, List, [], length, drop, take}
use Rattle.dam_bound.proofs.Common.{get_or, slice_set, ap, ap₂, ◌∙◌, sym, subst, refl, inl, inr, arith, slice_get, ints, cases_eq, take_all, get_or-set_same}
use Rattle.dam_bound.proofs.Common.{get_or-set_other, length-set, slice_get_within, most_blocks, last_period, greatest_volume, greatest_price, greatest_value}
use Rattle.dam_bound.proofs.Common.{Block, ProblemState, IsWithin, accepts, over_accepted, net_volume_of_block, descends, accepted_descendants, ArePrices}
use Rattle.dam_bound.proofs.Common.{surplus_of, surplus_at, family_surplus, day_value, greatest_priced_gain, class_places, over_places, at_places, Class}
use Rattle.dam_bound.proofs.Common.{AreNumbersWithin}
use Rattle.std.proofs.Common.{pos, option_map, unwrap_or}
use Rattle.std.proofs.lemmas.Bool.{and_right}
use Rattle.dam_bound.specs.ClassPrices.{IsClassPrice, AreClassPrices}
use Rattle.dam_bound.specs.inside.Counted.{counted_if}
use Rattle.dam_bound.proofs.Accepted.{if_accepted}
use Rattle.dam_bound.proofs.AtPlaces.{at_block}
use Rattle.dam_bound.proofs.ClassPlaces.{over_next, over_same}
use Rattle.dam_bound.proofs.PeriodPrices.{AreEndsUnique}
use Rattle.dam_bound.proofs.LineByLine.{IsAtPlace}
use Rattle.dam_bound.proofs.LossPrices.{AreDescendants, joint_price_is}
use Rattle.dam_bound.proofs.Members.{member_more, no_members, stands}
use Rattle.dam_bound.proofs.PlaceSums.{times_within}
use Rattle.dam_bound.proofs.PricesByClass.{class_price, surplus_is}

-- ---- the prices of the classes so far
pub record ArePricedSoFar (problem : ProblemState) (sel : List Bool) (j : ℕ) (prices : List ℤ) : Type 0 where
  pub long : length prices ≡ last_period
  pub each : (i c : ℕ) → i < j → slice_get (class_places problem) i ≡ Some c → IsClassPrice problem sel c (get_or prices c (pos 0))

pub no_price : (problem : ProblemState) (sel : List Bool) (prices : List ℤ) → length prices ≡ last_period → ArePricedSoFar problem sel 0 prices
no_price problem sel prices long = record {
  long = long;
  each = λ i c l at. absurd (omega (arith, l));
}

pub price_more : (problem : ProblemState) (sel : List Bool) (j c : ℕ) (price : ℤ) (prices : List ℤ) → IsAtPlace problem j c
    → IsClassPrice problem sel c price → ArePricedSoFar problem sel j prices → ArePricedSoFar problem sel (j + 1) (slice_set prices c price)
price_more problem sel j c price prices place is so_far =
    let long = so_far.long in let below = place.below in let within : c < length prices = omega (arith, long, below) in
    record {
      long = length-set prices c price ∙ long;
      each = λ i d l at. elim (cases_eq d c) [
        | inl same ↦ subst (λ (n : ℕ). IsClassPrice problem sel n (get_or (slice_set prices c price) n (pos 0))) (sym same)
            (subst (IsClassPrice problem sel c) (sym (get_or-set_same prices c price (pos 0) within)) is)
        | inr apart ↦ subst (IsClassPrice problem sel d) (sym (get_or-set_other prices c d price (pos 0) apart))
            (so_far.each i d (sooner i d l at apart) at)
      ];
    }
  where
    sooner : (i d : ℕ) → i < j + 1 → slice_get (class_places problem) i ≡ Some d → (d ≡ c → ⊥) → i < j
    sooner i d l at apart = elim (cases_eq i j) [
      | inl same ↦ absurd (apart (one_place (sym at ∙ ap (slice_get (class_places problem)) same ∙ place.place)))
      | inr ne ↦ omega (arith, l, ne)
    ]
      where
        one_place : {x y : ℕ} → Some x ≡ Some y → x ≡ y
        one_place e = cc

pub all_priced : (problem : ProblemState) (sel : List Bool) (j : ℕ) (prices : List ℤ) → length (class_places problem) ≤ j
    → ArePricedSoFar problem sel j prices → AreClassPrices problem sel prices
all_priced problem sel j prices past so_far = record {
  long = so_far.long;
  each = λ i c at. (let index = slice_get_within (class_places problem) i c at in so_far.each i c (omega (arith, index, past)) at);
}

-- ---- what a block gains at them, class by class
pub record IsGainSoFar (problem : ProblemState) (prices : List ℤ) (j i : ℕ) (gain : ℤ) : Type 0 where
  pub small : IsWithin ((j + 1) * (last_period * greatest_value)) gain
  pub is : (b : Block) → slice_get problem.blocks i ≡ Some b
      → gain ≡ day_value problem b.order
      +ℤ over_places (λ c. get_or prices c (pos 0) *ℤ net_volume_of_block (c + 1) b.order) (take j (class_places problem))

pub first_gain : (problem : ProblemState) (prices values : List ℤ) (i : ℕ) (gain : ℤ) → length problem.blocks ≤ most_blocks
    → values ≡ at_places most_blocks (day_value problem) problem.blocks → gain ≡ get_or values i (pos 0)
    → IsWithin (last_period * greatest_value) gain → IsGainSoFar problem prices 0 i gain
first_gain problem prices values i gain few are e within =
    let l = within.at_least in let h = within.at_most in record {
      small = record { at_least = omega (arith, ints, l); at_most = omega (arith, ints, h) };
      is = λ b at.
          (let one = ap (λ (xs : List ℤ). get_or xs i (pos 0)) are
          ∙ at_block most_blocks (day_value problem) problem.blocks i (pos 0) b at few in
          omega (arith, ints, e, one));
    }

pub gain_next : (problem : ProblemState) (prices : List ℤ) (j : ℕ) (class : Class) (i : ℕ) (gain after price : ℤ)
    → length problem.blocks ≤ most_blocks → IsAtPlace problem j class.first_place
    → class.nets ≡ at_places most_blocks (net_volume_of_block (class.first_place + 1)) problem.blocks → AreNumbersWithin greatest_volume class.nets → i < most_blocks
    → IsWithin (last_period * greatest_price) price → price ≡ get_or prices class.first_place (pos 0)
    → after ≡ gain +ℤ price *ℤ get_or class.nets i (pos 0)
    → IsGainSoFar problem prices j i gain → IsGainSoFar problem prices (j + 1) i after
gain_next problem prices j class i gain after price few place nets_are nets_small inside small price_is sum so_far =
    let product = times_within (last_period * greatest_price) greatest_volume price (get_or class.nets i (pos 0)) small
    (nets_small.each i (pos 0) inside) in
    let a = so_far.small.at_least in let b = so_far.small.at_most in let d = product.at_least in let e = product.at_most in
    record {
      small = record { at_least = omega (arith, ints, sum, a, d); at_most = omega (arith, ints, sum, b, e) };
      is = λ block at.
          (let c = class.first_place in
          let one = ap (λ (xs : List ℤ). get_or xs i (pos 0)) nets_are
          ∙ at_block most_blocks (net_volume_of_block (c + 1)) problem.blocks i (pos 0) block at few in
          let same = ap₂ (λ (p v : ℤ). p *ℤ v) price_is one in
          let next = over_next (λ c. get_or prices c (pos 0) *ℤ net_volume_of_block (c + 1) block.order) (class_places problem) j c place.place in
          let before = so_far.is block at in
          let number : suc j ≡ j + 1 = omega arith in
          subst (λ (n : ℕ). after ≡ day_value problem block.order
          +ℤ over_places (λ c. get_or prices c (pos 0) *ℤ net_volume_of_block (c + 1) block.order) (take n (class_places problem))) number
          (omega (arith, ints, sum, same, next, before)));
    }

pub gain_small : (problem : ProblemState) (prices : List ℤ) (j i : ℕ) (gain : ℤ) → j ≤ last_period → IsGainSoFar problem prices j i gain
    → IsWithin greatest_priced_gain gain
gain_small problem prices j i gain few so_far =
    let l = so_far.small.at_least in let h = so_far.small.at_most in
    record { at_least = omega (arith, ints, l, few); at_most = omega (arith, ints, h, few) }

pub surplus_there : (blocks : List Block) (prices : List ℤ) (i : ℕ) (b : Block) → slice_get blocks i ≡ Some b
    → surplus_at blocks prices i ≡ surplus_of prices b.order
surplus_there blocks prices i b at = ap (λ (o : Option Block). unwrap_or (option_map (λ (x : Block). surplus_of prices x.order) o) (pos 0)) at

-- with all classes it is the surplus at the prices of the selection
pub whole_gain : AreEndsUnique → (problem : ProblemState) (sel : List Bool) (prices day : List ℤ) (j i : ℕ) (gain : ℤ)
    → i < length problem.blocks → length (class_places problem) ≤ j → AreClassPrices problem sel prices
    → ArePrices problem.blocks sel 1 problem.hours day → IsGainSoFar problem prices j i gain → gain ≡ surplus_at problem.blocks day i
whole_gain law problem sel prices day j i gain inside past priced are so_far =
    let found = stands problem.blocks i inside in let o = found.0.order in let places = class_places problem in
    let f = (λ (c : ℕ). get_or prices c (pos 0) *ℤ net_volume_of_block (c + 1) o) in
    let own = so_far.is found.0 found.1 in
    let whole = ap (over_places f) (take_all j places past) in
    let each = over_same f (λ c. class_price problem day c *ℤ net_volume_of_block (c + 1) o) places (λ k c there.
    ap (λ (z : ℤ). z *ℤ net_volume_of_block (c + 1) o) (joint_price_is law problem sel c day (get_or prices c (pos 0)) are (priced.each k c there).joint)) in
    let all = surplus_is problem sel day i found.0 are found.1 in
    let here = surplus_there problem.blocks day i found.0 found.1 in
    omega (arith, ints, own, whole, each, all, here)

-- ---- a block with the accepted ones that descend from it
pub record IsFamilySum (problem : ProblemState) (sel : List Bool) (place at : ℕ) (total : ℤ) : Type 0 where
  pub small : IsWithin ((at + 1) * greatest_priced_gain) total
  pub is : (day : List ℤ) → ArePrices problem.blocks sel 1 problem.hours day → family_surplus problem.blocks sel day place
      ≡ total +ℤ over_accepted (surplus_of day) (drop at problem.blocks) (drop at (accepted_descendants problem.blocks sel place))

pub own_sum : (problem : ProblemState) (sel : List Bool) (place : ℕ) (own : ℤ) → IsWithin greatest_priced_gain own
    → ((day : List ℤ) → ArePrices problem.blocks sel 1 problem.hours day → own ≡ surplus_at problem.blocks day place)
    → IsFamilySum problem sel place 0 own
own_sum problem sel place own small own_is =
    let l = small.at_least in let h = small.at_most in record {
      small = record { at_least = omega (arith, ints, l); at_most = omega (arith, ints, h) };
      is = λ day are. (let e = own_is day are in omega (arith, ints, e));
    }

same_part : (a : Bool) (x y : ℤ) → x ≡ y → if_accepted a x ≡ counted_if a y
same_part true x y e = e
same_part false x y e = refl

-- what the places from one on add is what this one adds and the rest
one_member : (problem : ProblemState) (sel : List Bool) (prices : List ℤ) (place at : ℕ) (t : Bool) → at < length problem.blocks
    → accepts (accepted_descendants problem.blocks sel place) at ≡ t
    → over_accepted (surplus_of prices) (drop at problem.blocks) (drop at (accepted_descendants problem.blocks sel place))
    ≡ if_accepted t (surplus_at problem.blocks prices at)
    +ℤ over_accepted (surplus_of prices) (drop (at + 1) problem.blocks) (drop (at + 1) (accepted_descendants problem.blocks sel place))
one_member problem sel prices place at t inside is =
    let blocks = problem.blocks in let members = accepted_descendants blocks sel place in
    let rest = over_accepted (surplus_of prices) (drop at blocks) (drop at members) in
    let whole = over_accepted (surplus_of prices) blocks members in
    let own = if_accepted t (surplus_at blocks prices at) in
    let begun : (whole -ℤ rest) +ℤ rest ≡ whole = omega (arith, ints) in
    let more = member_more prices blocks members at t (whole -ℤ rest) own ((whole -ℤ rest) +ℤ own) inside is refl refl begun in
    omega (arith, ints, begun, more)

pub member_sum : AreDescendants → (problem : ProblemState) (sel family : List Bool) (place at : ℕ) (accepted member : Bool) (total part after : ℤ)
    → at < length problem.blocks → ((j : ℕ) → j < length problem.blocks → accepts family j ≡ descends problem.blocks place j)
    → accepted ≡ accepts sel at → member ≡ accepts family at → IsWithin greatest_priced_gain part
    → ((day : List ℤ) → ArePrices problem.blocks sel 1 problem.hours day
    → part ≡ counted_if (accepted && member) (surplus_at problem.blocks day at))
    → after ≡ total +ℤ part → IsFamilySum problem sel place at total → IsFamilySum problem sel place (at + 1) after
member_sum law problem sel family place at accepted member total part after inside is accepted_is member_is small part_is sum so_far =
    let a = so_far.small.at_least in let b = so_far.small.at_most in let c = small.at_least in let d = small.at_most in record {
      small = record { at_least = omega (arith, ints, sum, a, c); at_most = omega (arith, ints, sum, b, d) };
      is = λ day are.
          (let blocks = problem.blocks in
          let there : accepts (accepted_descendants blocks sel place) at ≡ (accepted && member) = law blocks sel place at
          ∙ ap₂ (λ (x y : Bool). x && y) (sym accepted_is) (sym (is at inside) ∙ sym member_is) in
          let step = one_member problem sel day place at (accepted && member) inside there in
          let own = same_part (accepted && member) (surplus_at blocks day at) (surplus_at blocks day at) refl in
          let part_here = part_is day are in
          let before = so_far.is day are in
          omega (arith, ints, before, step, own, part_here, sum));
    }

pub whole_sum : (problem : ProblemState) (sel : List Bool) (place at : ℕ) (total : ℤ) (day : List ℤ) → drop at problem.blocks ≡ []
    → ArePrices problem.blocks sel 1 problem.hours day → IsFamilySum problem sel place at total
    → total ≡ family_surplus problem.blocks sel day place
whole_sum problem sel place at total day none are so_far =
    let before = so_far.is day are in
    let rest = ap (λ (bs : List Block). over_accepted (surplus_of day) bs (drop at (accepted_descendants problem.blocks sel place))) none in
    omega (arith, ints, before, rest)

pub lone_sum : AreDescendants → (problem : ProblemState) (sel : List Bool) (place : ℕ) (total : ℤ) (day : List ℤ)
    → ((j : ℕ) → j < length problem.blocks → descends problem.blocks place j ≡ false)
    → ArePrices problem.blocks sel 1 problem.hours day → IsFamilySum problem sel place 0 total
    → total ≡ family_surplus problem.blocks sel day place
lone_sum law problem sel place total day none are so_far =
    let before = so_far.is day are in
    let rest = no_members (surplus_of day) problem.blocks (accepted_descendants problem.blocks sel place)
    (λ j l. law problem.blocks sel place j ∙ and_right (accepts sel j) (descends problem.blocks place j) (none j l)) in
    omega (arith, ints, before, rest)
