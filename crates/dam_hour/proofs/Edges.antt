-- The ends of the supporting prices, from where the best execution ends among the buys.
use Rattle.dam_hour.proofs.Common.{◌≡◌, ℕ, zero, suc, ◌+◌, ◌<◌, ◌≤◌, ℤ, pos, negsuc, ◌+ℤ◌, ◌-ℤ◌, ◌≤ℤ◌, ◌<ℤ◌, List, [], ◌∷◌, inl, inr, subst, arith, ints}
use Rattle.dam_hour.proofs.Common.{by_lt_z, IsPrice, lowest_price, highest_price, Side, Buy, Sell, Step, AreInRange, IsWithinOffers, offered_volume, volume_on}
use Rattle.dam_hour.proofs.Common.{margin_of, if_better, if_at, IsHighEnough, IsLowEnough, IsLeastHighEnough, IsGreatestLowEnough, IsLimitOfSell}
use Rattle.std.specs.Int.{int_min, int_max}
use Rattle.std.proofs.lemmas.Int.{clamps}
use Rattle.dam_hour.specs.inside.Edge.{not_worse_volume, IsEdge}
use Rattle.dam_hour.proofs.Supporting.{better_volume_above, not_worse_above, highest_enough, lowest_enough}
use Rattle.dam_hour.proofs.Positions.{not_worse_is_better}

-- ---- no more than all of a side is at the price or better
part_offered : (side own : Side) (m : ℤ) (q : ℕ)
    → volume_on side own (if_better m q) + volume_on side own (if_at m q) ≤ volume_on side own q
part_offered Buy Buy (pos zero) q = omega arith
part_offered Buy Buy (pos (suc n)) q = omega arith
part_offered Buy Buy (negsuc n) q = omega arith
part_offered Sell Sell (pos zero) q = omega arith
part_offered Sell Sell (pos (suc n)) q = omega arith
part_offered Sell Sell (negsuc n) q = omega arith
part_offered Buy Sell m q = omega arith
part_offered Sell Buy m q = omega arith

pub not_worse_offered : (side : Side) (p : ℤ) (ss : List Step) → not_worse_volume side p ss ≤ offered_volume side ss
not_worse_offered side p [] = omega arith
not_worse_offered side p (s ∷ ss) =
    let here = part_offered side s.side (margin_of side s.price p) s.qty in
    let own = part_offered side s.side (margin_of s.side s.price p) s.qty in
    let rest = not_worse_offered side p ss in
    omega (arith, own, rest)

-- ---- the least price that is high enough
high_enough_there : (ss : List Step) (net last next low sell : ℤ) (volume : ℕ) → AreInRange ss → IsWithinOffers ss net
    → IsEdge ss net last next volume
    → IsLimitOfSell ss (pos volume -ℤ net) sell → low ≡ int_min last (int_max next sell) → IsHighEnough ss net low
high_enough_there ss net last next low sell volume r w e l is =
    by_lt_z (int_max next sell) last
    (λ less.
    (let at_next : next ≤ℤ low = omega (arith, ints, clamps, is, less) in
    let at_sell : sell ≤ℤ low = omega (arith, ints, clamps, is, less) in
    let buys = better_volume_above Buy low next ss at_next in
    let sells = not_worse_above Sell sell low ss at_sell in
    let rest = e.rest in
    elim l.up_to [
      | inl top ↦ (let a = e.last_in_range.at_most in
          absurd (let no : 0 < 0 = omega (arith, ints, clamps, less, top, a) in omega (arith, no)))
      | inr reached ↦ record { enough = omega (arith, ints, buys, sells, rest, reached) }
    ]))
    (λ more.
    (let there : low ≡ last = omega (arith, ints, clamps, is, more) in
    elim e.served [
      | inl none ↦ subst (λ (p : ℤ). IsHighEnough ss net p) (let end : highest_price ≡ low = omega (arith, ints, there, none) in end)
          (highest_enough ss net r w)
      | inr served ↦
          (let left = served.left in
          subst (λ (p : ℤ). IsHighEnough ss net p) (let end : last ≡ low = omega (arith, ints, there) in end)
          (record { enough = omega (arith, ints, left) }))
    ]))

not_high_under : (ss : List Step) (net last next low sell q : ℤ) (volume : ℕ) → IsPrice q → IsEdge ss net last next volume
    → IsLimitOfSell ss (pos volume -ℤ net) sell → low ≡ int_min last (int_max next sell) → q <ℤ low → ¬ (IsHighEnough ss net q)
not_high_under ss net last next low sell q volume in_range e l is under h =
    let enough = h.enough in
    let least = in_range.at_least in
    let whole = e.whole in
    let better = not_worse_is_better Buy last q ss (let m : pos 0 <ℤ margin_of Buy last q = omega (arith, ints, clamps, is, under) in m) in
    by_lt_z q sell
    (λ less.
    (let sells = not_worse_is_better Sell q sell ss (omega (arith, ints, less)) in
    elim l.under [
      | inl bottom ↦ (let no : 0 < 0 = omega (arith, ints, less, bottom, least) in omega (arith, no))
      | inr short ↦ (let no : 0 < 0 = omega (arith, ints, enough, whole, better, sells, short) in omega (arith, no))
    ]))
    (λ from_sell.
    (let less : q <ℤ next = omega (arith, ints, clamps, is, under, from_sell) in
    let buys = not_worse_is_better Buy next q ss (omega (arith, ints, less)) in
    let sells = not_worse_above Sell q next ss (omega (arith, ints, less)) in
    elim e.unserved [
      | inl all ↦ (let bottom = all.0 in let no : 0 < 0 = omega (arith, ints, less, bottom, least) in omega (arith, no))
      | inr left ↦ (let short = left.0 in let own = left.1 in let no : 0 < 0 = omega (
        arith,
        ints,
        enough,
        buys,
        sells,
        short,
        own,
      ) in omega (arith, no))
    ]))

pub low_is_least : (ss : List Step) (net last next low sell : ℤ) (volume : ℕ) → AreInRange ss → IsWithinOffers ss net
    → IsEdge ss net last next volume
    → IsLimitOfSell ss (pos volume -ℤ net) sell → low ≡ int_min last (int_max next sell) → IsLeastHighEnough ss net low
low_is_least ss net last next low sell volume r w e l is =
    let a = e.last_in_range.at_least in let b = e.last_in_range.at_most in
    let c = e.next_in_range.at_least in let d = e.next_in_range.at_most in
    let f = l.in_range.at_least in let g = l.in_range.at_most in
    record {
      in_range = record {
        at_least = omega (arith, ints, clamps, is, a, b, c, d, f, g);
        at_most =
            omega (arith, ints, clamps, is, a, b, c, d, f, g);
      };
      enough = high_enough_there ss net last next low sell volume r w e l is;
      least = λ q in_range h.
          by_lt_z q low (λ under. absurd (not_high_under ss net last next low sell q volume in_range e l is under h)) (λ more. more);
    }

-- ---- the greatest price that is low enough
low_enough_there : (ss : List Step) (net last next high sell : ℤ) (volume : ℕ) → AreInRange ss → IsWithinOffers ss net
    → IsEdge ss net last next volume
    → IsLimitOfSell ss ((pos volume -ℤ net) +ℤ pos 1) sell → high ≡ int_min last sell → IsLowEnough ss net high
low_enough_there ss net last next high sell volume r w e l is =
    let at_last : high ≤ℤ last = omega (arith, ints, clamps, is) in
    let at_sell : high ≤ℤ sell = omega (arith, ints, clamps, is) in
    let buys = not_worse_above Buy last high ss at_last in
    let sells = better_volume_above Sell high sell ss at_sell in
    let whole = e.whole in
    let a = e.last_in_range.at_least in
    elim l.under [
      | inl bottom ↦ subst (λ (p : ℤ). IsLowEnough ss net p)
          (let end : lowest_price ≡ high = omega (arith, ints, clamps, is, bottom, a) in end) (lowest_enough ss net r w)
      | inr short ↦ record { enough = omega (arith, ints, buys, sells, whole, short) }
    ]

not_low_over : (ss : List Step) (net last next high sell q : ℤ) (volume : ℕ) → IsPrice q → IsEdge ss net last next volume
    → IsLimitOfSell ss ((pos volume -ℤ net) +ℤ pos 1) sell → high ≡ int_min last sell → high <ℤ q → ¬ (IsLowEnough ss net q)
not_low_over ss net last next high sell q volume in_range e l is over h =
    let enough = h.enough in
    let most = in_range.at_most in
    by_lt_z last q
    (λ more.
    (let buys = not_worse_is_better Buy q last ss (omega (arith, ints, more)) in
    let sells = not_worse_is_better Sell last q ss (omega (arith, ints, more)) in
    elim e.served [
      | inl none ↦ (let no : 0 < 0 = omega (arith, ints, more, none, most) in omega (arith, no))
      | inr served ↦ (let left = served.left in let no : 0 < 0 = omega (arith, ints, enough, buys, sells, left) in omega (arith, no))
    ]))
    (λ to_last.
    (let more : sell <ℤ q = omega (arith, ints, clamps, is, over, to_last) in
    let sells = not_worse_is_better Sell sell q ss (omega (arith, ints, more)) in
    elim l.up_to [
      | inl top ↦ (let no : 0 < 0 = omega (arith, ints, more, top, most) in omega (arith, no))
      | inr reached ↦
          elim e.unserved [
            | inl all ↦
                (let whole = all.1 in
                let offered = not_worse_offered Buy q ss in
                let no : 0 < 0 = omega (arith, ints, enough, sells, reached, whole, offered) in omega (arith, no))
            | inr left ↦
                (let short = left.0 in
                by_lt_z next q
                (λ past.
                (let buys = not_worse_is_better Buy q next ss (omega (arith, ints, past)) in
                let rest = e.rest in
                let no : 0 < 0 = omega (arith, ints, enough, sells, reached, buys, rest) in omega (arith, no)))
                (λ upto.
                (let back = not_worse_above Sell sell next ss (omega (arith, ints, more, upto)) in
                let no : 0 < 0 = omega (arith, ints, reached, short, back) in omega (arith, no))))
          ]
    ]))

pub high_is_greatest : (ss : List Step) (net last next high sell : ℤ) (volume : ℕ) → AreInRange ss → IsWithinOffers ss net
    → IsEdge ss net last next volume
    → IsLimitOfSell ss ((pos volume -ℤ net) +ℤ pos 1) sell → high ≡ int_min last sell → IsGreatestLowEnough ss net high
high_is_greatest ss net last next high sell volume r w e l is =
    let a = e.last_in_range.at_least in let b = e.last_in_range.at_most in
    let f = l.in_range.at_least in let g = l.in_range.at_most in
    record {
      in_range = record { at_least = omega (arith, ints, clamps, is, a, b, f, g); at_most = omega (arith, ints, clamps, is, a, b, f, g) };
      enough = low_enough_there ss net last next high sell volume r w e l is;
      greatest = λ q in_range h.
          by_lt_z high q (λ over. absurd (not_low_over ss net last next high sell q volume in_range e l is over h)) (λ less. less);
    }
