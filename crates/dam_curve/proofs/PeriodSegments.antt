-- The segments of a period's supply are its greatest welfare.
use Rattle.std.proofs.Common.{◌≡◌, ◌↔◌, ℕ, suc, ◌+◌, ◌-◌, ◌*◌, ◌<◌, ◌≤◌, ℤ, pos, negsuc, neg_ℤ, ◌+ℤ◌, ◌-ℤ◌, ◌*ℤ◌, ◌≤ℤ◌, ◌<ℤ◌, nat_abs, ◌⊎◌}
use Rattle.std.proofs.Common.{Some, None, List, [], ◌∷◌, length, get_or, ap, ◌∙◌, sym, subst, inl, inr, refl, arith}
use Rattle.std.specs.List.Sorted.{IsNonDecreasingBy}
use Rattle.std.proofs.lemmas.Int.{ints}
use Rattle.std.proofs.lemmas.Nat.{mul-le}
use borrow.Author.Differences.{up, down}
use Rattle.dam_book.specs.Limits.{lowest_price, highest_price, greatest_volume}
use Rattle.dam_book.specs.Price.{IsPrice}
use Rattle.dam_book.specs.declared.order.Side.{Side}
use Rattle.dam_book.specs.declared.order.Side.TheVariants.{Buy, Sell}
use Rattle.dam_hour.specs.declared.step.Step.{Step}
use Rattle.dam_hour.specs.Limits.{most_steps, price_span}
use Rattle.dam_hour.specs.Execution.{AreInRange, IsExecution, Balances, IsUnbalanced, IsWithinOffers, offered_volume, volume_on}
use Rattle.dam_hour.specs.Best.{greatest_welfare}
use Rattle.dam_hour.specs.Price.{AreEnds}
use Rattle.dam_curve.specs.JointPrice.{IsJointPrice}
use Rattle.std.proofs.lemmas.Bool.{cases_lt}
use Rattle.dam_curve.specs.declared.segment.Segment.{Segment}
use Rattle.dam_curve.specs.Supply.{height_of, total_of, AreAlike, IsSupplyOf}
use Rattle.dam_curve.specs.Curve.{segment_at, IsSegment, end_of, AreSegments, bottom_of, IsUnder, IsUnderEach, IsPriced, ArePriced, IsOutside, IsSmallSegment, AreSmallSegments}
use Rattle.dam_curve.specs.inside.Supply.{worth_of}
use Rattle.dam_curve.specs.inside.Segments.{segment_at_price, segments_from}
use Rattle.dam_curve.proofs.Units.{all_units, units_under, units_up_to, gain_under, AreUnitsAt, Reaches, if_any}
use Rattle.dam_curve.proofs.Parts.{under_none, up_to_full, under_rises, part_most}
use Rattle.dam_curve.proofs.Supplying.{height_is, all_offered}
use Rattle.dam_curve.proofs.Clearing.{Laws, under_all, height_most, all_up_to, lowest_in_range, highest_in_range, reaches_supporting, IsGap, ends_are, line_above, welfare_is}

-- ---- steps by rising limit
-- no step stands lower
abbrev AtLeast : ℕ → List Step → Type 0
AtLeast m [] = Unit {0}
AtLeast m (s ∷ ss) = (m ≤ height_of s.price) × AtLeast m ss

-- each step stands no lower than those before it
abbrev Rises : List Step → Type 0
Rises [] = Unit {0}
Rises (s ∷ ss) = AtLeast (height_of s.price) ss × Rises ss

at_least_from : (m : ℕ) (ss : List Step) → ((j : ℕ) (d : Step) → j < length ss → m ≤ height_of (get_or ss j d).price) → AtLeast m ss
at_least_from m [] f = tt
at_least_from m (s ∷ ss) f = (f 0 s (omega arith), at_least_from m ss (λ j d l. f (suc j) d (omega (arith, l))))

at_least_zero : (ss : List Step) → AtLeast 0 ss
at_least_zero [] = tt
at_least_zero (s ∷ ss) = (omega arith, at_least_zero ss)

rises_from : (ss : List Step) → IsNonDecreasingBy (λ s. height_of s.price) ss → Rises ss
rises_from [] f = tt
rises_from (s ∷ ss) f = (
  at_least_from (height_of s.price) ss (λ j d l. f 0 (suc j) d (omega arith) (omega (arith, l))),
  rises_from ss (λ i j d le l. f (suc i) (suc j) d (omega (arith, le)) (omega (arith, l))),
)

under_higher : (h k : ℕ) (ss : List Step) → h ≤ k → units_under h ss ≤ units_under k ss
under_higher h k [] l = omega arith
under_higher h k (s ∷ ss) l =
    let here = under_rises (height_of s.price) h k s.qty l in let rest = under_higher h k ss l in omega (arith, here, rest)

none_under : (m h : ℕ) (ss : List Step) → AtLeast m ss → h ≤ m → units_under h ss ≡ 0
none_under m h [] a l = refl
none_under m h (s ∷ ss) a l =
    let low = a.0 in
    let here = under_none (height_of s.price) h s.qty (omega (arith, low, l)) in
    let rest = none_under m h ss a.1 l in
    omega (arith, here, rest)

no_gain : (m h : ℕ) (ss : List Step) → AtLeast m ss → h ≤ m → gain_under h ss ≡ 0
no_gain m h [] a l = refl
no_gain m h (s ∷ ss) a l =
    let low = a.0 in
    let zero_gap : h - height_of s.price ≡ 0 = omega (arith, low, l) in
    let here = ap (λ n. n * s.qty) zero_gap in
    let rest = no_gain m h ss a.1 l in
    omega (arith, here, rest)

-- ---- the supply under some of the steps
-- from the one number of units to the other they stand at the height, and the first of them have the cost
record ArePiece (all : List Step) (h b e c : ℕ) : Type 0 where
  under : units_under h all ≤ b
  up_to : e ≤ units_up_to h all
  cost_is : c + gain_under h all ≡ h * b

-- the steps are the last of all, and those before them have the units and the cost and stand no higher than m; those that
-- stand lower than m have fewer units
record AreLast (all ss : List Step) (m b c : ℕ) : Type 0 where
  low : m ≤ price_span
  under : (h : ℕ) → m ≤ h → units_under h all ≤ b + units_under h ss
  up_to : (h : ℕ) → m ≤ h → b + units_up_to h ss ≤ units_up_to h all
  cost_is : (h : ℕ) → m ≤ h → c + gain_under h all ≡ h * b + gain_under h ss
  before : (h : ℕ) → h < m → units_up_to h all < b
  units : b + all_units ss ≡ all_units all
  small : c ≤ price_span * b

all_last : (all : List Step) → AreLast all all 0 0 0
all_last all = record {
  low = omega arith;
  under = λ h l. omega arith;
  up_to = λ h l. omega arith;
  cost_is = λ h l. omega arith;
  before = λ h l. absurd (omega (arith, l));
  units = omega arith;
  small = omega arith;
}

cost_sum : (a h q b c g k : ℕ) → a ≤ h → c + g ≡ h * b + ((h - a) * q + k) → (c + a * q) + g ≡ h * (b + q) + k
cost_sum a h q b c g k l e =
    let s : a + (h - a) ≡ h = omega (arith, l) in
    let m = ap (λ n. n * q) s in
    omega (arith, m, e)

next_last : (all : List Step) (s : Step) (ss : List Step) (m b c : ℕ) → IsPrice s.price → 1 ≤ s.qty → m ≤ height_of s.price
    → AtLeast (height_of s.price) ss → AreLast all (s ∷ ss) m b c
    → AreLast all ss (height_of s.price) (b + s.qty) (c + height_of s.price * s.qty)
next_last all s ss m b c r some l a is =
    let span = height_most s.price r in let units = is.units in let small = is.small in
    record {
      low = span;
      under = λ h k.
          (let under = is.under h (omega (arith, l, k)) in let most = part_most (h - height_of s.price) s.qty in omega (arith, under, most));
      up_to = λ h k.
          (let up_to = is.up_to h (omega (arith, l, k)) in let full = up_to_full (height_of s.price) h s.qty k in omega (arith, up_to, full));
      cost_is = λ h k.
          cost_sum (height_of s.price) h s.qty b c (gain_under h all) (gain_under h ss) k (is.cost_is h (omega (arith, l, k)));
      before = λ h k.
          (let rises = under_higher (suc h) (height_of s.price) all (omega (arith, k)) in
          let under = is.under (height_of s.price) l in
          let none = none_under (height_of s.price) (height_of s.price) ss a (omega arith) in
          let here = under_none (height_of s.price) (height_of s.price) s.qty (omega arith) in
          omega (arith, rises, under, none, here, some));
      units = omega (arith, units);
      small = (let own = mul-le (height_of s.price) s.qty price_span s.qty span (omega arith) in omega (arith, small, own));
    }

piece_of : (all : List Step) (s : Step) (ss : List Step) (m b c : ℕ) → m ≤ height_of s.price → AtLeast (height_of s.price) ss
    → AreLast all (s ∷ ss) m b c
    → ArePiece all (height_of s.price) b (b + s.qty) c
piece_of all s ss m b c l a is =
    let h = height_of s.price in
    let under = is.under h l in let up_to = is.up_to h l in let cost = is.cost_is h l in
    let none = none_under h h ss a (omega arith) in
    let here = under_none h h s.qty (omega arith) in
    let full = up_to_full h h s.qty (omega arith) in
    let no = no_gain h h ss a (omega arith) in
    let gap : h - h ≡ 0 = omega arith in
    let gain = ap (λ n. n * s.qty) gap in
    record { under = omega (arith, under, none, here); up_to = omega (arith, up_to, full); cost_is = omega (arith, cost, no, gain) }

last_piece : (all : List Step) (m b c : ℕ) → AreInRange all → AreLast all [] m b c → ArePiece all price_span b (all_units all) c
last_piece all m b c a is =
    let units = is.units in let below = under_all price_span all in let cost = is.cost_is price_span is.low in
    record { under = omega (arith, units, below); up_to = all_up_to all a; cost_is = omega (arith, cost) }

-- ---- the heights up to which a number of units reaches
-- at the first of a step's units they are those from the step before up to its own
step_gap : (all : List Step) (s : Step) (ss : List Step) (m b c : ℕ) → 1 ≤ s.qty → AtLeast m (s ∷ ss) → AtLeast (height_of s.price) ss
    → AreLast all (s ∷ ss) m b c → IsGap all b m (height_of s.price)
step_gap all s ss m b c some low a is =
    let piece = piece_of all s ss m b c low.0 a is in
    let none = none_under m m (s ∷ ss) low (omega arith) in
    let under = is.under m (omega arith) in let up_to = is.up_to m (omega arith) in
    let below = piece.under in let above = piece.up_to in
    record {
      low_reaches = record { under = omega (arith, under, none); up_to = omega (arith, up_to) };
      high_reaches = record { under = below; up_to = omega (arith, above) };
      least = λ h r. elim (cases_lt h m) [
        | inl less ↦ (let few = is.before h less in let enough = r.up_to in absurd (omega (arith, few, enough)))
        | inr more ↦ more
      ];
      greatest = λ h k r. elim (cases_lt (height_of s.price) h) [
        | inl over ↦
            (let rises : units_up_to (height_of s.price) all ≤ units_under h all = under_higher (suc (height_of s.price)) h all over in
            let few = r.under in absurd (omega (arith, rises, above, few, some)))
        | inr most ↦ most
      ];
    }

-- with all units they are those from the last step up
last_gap : (all : List Step) (m b c : ℕ) → AreInRange all → AreLast all [] m b c → IsGap all b m price_span
last_gap all m b c a is =
    let piece = last_piece all m b c a is in
    let under = is.under m (omega arith) in let up_to = is.up_to m (omega arith) in
    let below = piece.under in let above = piece.up_to in let units = is.units in
    record {
      low_reaches = record { under = omega (arith, under); up_to = omega (arith, up_to) };
      high_reaches = record { under = below; up_to = omega (arith, above, units) };
      least = λ h r. elim (cases_lt h m) [
        | inl less ↦ (let few = is.before h less in let enough = r.up_to in absurd (omega (arith, few, enough)))
        | inr more ↦ more
      ];
      greatest = λ h k r. k;
    }

-- among a step's units it is its own height alone
inside_gap : (all : List Step) (h b e c x : ℕ) → ArePiece all h b e c → b < x → x < e → IsGap all x h h
inside_gap all h b e c x piece low high =
    let below = piece.under in let above = piece.up_to in
    let here : Reaches all x h = record { under = omega (arith, below, low); up_to = omega (arith, above, high) } in
    record {
      low_reaches = here;
      high_reaches = here;
      least = λ k r. elim (cases_lt k h) [
        | inl less ↦
            (let rises : units_up_to k all ≤ units_under h all = under_higher (suc k) h all less in
            let enough = r.up_to in absurd (omega (arith, rises, below, low, enough)))
        | inr more ↦ more
      ];
      greatest = λ k l r. elim (cases_lt h k) [
        | inl over ↦
            (let rises : units_up_to h all ≤ units_under k all = under_higher (suc h) k all over in
            let few = r.under in absurd (omega (arith, rises, above, high, few)))
        | inr most ↦ most
      ];
    }

-- ---- the segments, one by one
ends_at : (v w : ℕ) (q : ℤ) (b c : ℕ) (ss : List Step) (least : ℤ) → end_of (segments_from v w q b c ss) least ≡ pos v -ℤ pos b
ends_at v w q b c [] least = refl
ends_at v w q b c (s ∷ ss) least = refl

bottom_next : (segment : Segment) (v w : ℕ) (q : ℤ) (b c : ℕ) (ss : List Step)
    → bottom_of (segment ∷ segments_from v w q b c ss) ≡ bottom_of (segments_from v w q b c ss)
bottom_next segment v w q b c [] = refl
bottom_next segment v w q b c (s ∷ ss) = refl

bottom_is : (v w : ℕ) (q : ℤ) (b c : ℕ) (ss : List Step) → bottom_of (segments_from v w q b c ss) ≡ pos v -ℤ pos (b + all_units ss)
bottom_is v w q b c [] = omega (arith, ints)
bottom_is v w q b c (s ∷ ss) =
    bottom_next (segment_at_price v w q s.price b c) v w s.price (b + s.qty) (c + height_of s.price * s.qty) ss
    ∙ bottom_is v w s.price (b + s.qty) (c + height_of s.price * s.qty) ss
    ∙ (let same : pos v -ℤ pos ((b + s.qty) + all_units ss) ≡ pos v -ℤ pos (b + (s.qty + all_units ss)) = omega (arith, ints) in same)

-- down to the net volume the segment is the greatest welfare of the steps, its line lies over it, and its prices are theirs
record IsPiece (ss : List Step) (segment : Segment) (least : ℤ) : Type 0 where
  is_segment : IsSegment (greatest_welfare ss) segment least
  under : IsUnder (greatest_welfare ss) segment
  priced : IsPriced (ss ∷ []) segment least

record ArePieces (ss : List Step) (segments : List Segment) (least : ℤ) : Type 0 where
  are_segments : AreSegments (greatest_welfare ss) segments least
  under : IsUnderEach (greatest_welfare ss) segments
  priced : ArePriced (ss ∷ []) segments least

pieces_next : (ss : List Step) (segment : Segment) (ls : List Segment) (least : ℤ) → IsPiece ss segment (end_of ls least)
    → ArePieces ss ls least → ArePieces ss (segment ∷ ls) least
pieces_next ss segment ls least is are = record {
  are_segments = (is.is_segment, are.are_segments);
  under = (is.under, are.under);
  priced = (is.priced, are.priced);
}

abbrev EachPiece : List Step → ℕ → ℕ → List Step → Type 0
EachPiece own v w all = (q p : ℤ) (b e c : ℕ) → IsPrice q → IsPrice p → ArePiece all (height_of p) b e c
    → IsGap all b (height_of q) (height_of p) → b ≤ e → e ≤ all_units all → IsPiece own (segment_at_price v w q p b c) (pos v -ℤ pos e)

segments_hold : (own : List Step) (v w : ℕ) (all : List Step) → AreInRange all → EachPiece own v w all → (ss : List Step) (q : ℤ) (b c : ℕ)
    → IsPrice q → AreInRange ss → Rises ss → AtLeast (height_of q) ss → AreLast all ss (height_of q) b c
    → ArePieces own (segments_from v w q b c ss) (pos v -ℤ pos (all_units all))
segments_hold own v w all a each [] q b c rq r rises low is =
    let units = is.units in
    pieces_next own (segment_at_price v w q highest_price b c) [] (pos v -ℤ pos (all_units all))
    (each q highest_price b (all_units all) c rq highest_in_range (last_piece all (height_of q) b c a is)
    (last_gap all (height_of q) b c a is) (omega (arith, units)) (omega arith))
    (record { are_segments = tt; under = tt; priced = tt })
segments_hold own v w all a each (s ∷ ss) q b c rq r rises low is =
    let units = is.units in
    let least = pos v -ℤ pos (all_units all) in
    let some = r.1.at_least in
    pieces_next own (segment_at_price v w q s.price b c) (segments_from v w s.price (b + s.qty) (c + height_of s.price * s.qty) ss) least
    (subst (IsPiece own (segment_at_price v w q s.price b c))
    (sym (ends_at v w s.price (b + s.qty) (c + height_of s.price * s.qty) ss least))
    (each q s.price b (b + s.qty) c rq r.0 (piece_of all s ss (height_of q) b c low.0 rises.0 is)
    (step_gap all s ss (height_of q) b c some low rises.0 is) (omega arith) (omega (arith, units))))
    (segments_hold own v w all a each ss s.price (b + s.qty) (c + height_of s.price * s.qty) r.0 r.2 rises.1 rises.0
    (next_last all s ss (height_of q) b c r.0 some low.0 rises.0 is))

-- ---- the welfare on a segment
row_cost : (c g h b x : ℕ) → b ≤ x → c + g ≡ h * b → (c + h * (x - b)) + g ≡ h * x
row_cost c g h b x l e =
    let s : b + (x - b) ≡ x = omega (arith, l) in
    let m = ap (λ n. h * n) s in
    omega (arith, m, e)

times_sum : (h k : ℕ) (z y : ℤ) → z ≡ pos k +ℤ y → pos h *ℤ z ≡ pos (h * k) +ℤ pos h *ℤ y
times_sum h k z y e =
    let s : up z + down y ≡ (k + up y) + down z = omega (arith, ints, e) in
    let m = ap (λ (n : ℕ). h * n) s in
    omega (arith, ints, m)

price_times : (p c y : ℤ) (h : ℕ) → p ≡ c +ℤ pos h → p *ℤ y ≡ c *ℤ y +ℤ pos h *ℤ y
price_times p c y h e =
    let s : up p + down c ≡ (up c + h) + down p = omega (arith, ints, e) in
    let m = ap (λ (n : ℕ). n * up y) s in
    let k = ap (λ (n : ℕ). n * down y) s in
    omega (arith, ints, m, k)

welfare_at : (q p net : ℤ) (h v w b c x u k : ℕ) → p ≡ lowest_price +ℤ pos h → pos x +ℤ net ≡ pos u → b ≤ x → v ≡ u → w ≡ k
    → (pos k -ℤ pos (c + h * (x - b))) +ℤ lowest_price *ℤ net ≡ segment_at (segment_at_price v w q p b c) net
welfare_at q p net h v w b c x u k ep ex l ev ew =
    let s : pos v -ℤ pos b ≡ pos (x - b) +ℤ net = omega (arith, ints, ex, l, ev) in
    let t = times_sum h (x - b) (pos v -ℤ pos b) net s in
    let q = price_times p lowest_price net h ep in
    let same : nat_abs (p -ℤ lowest_price) ≡ h = omega (arith, ints, ep) in
    let at = ap (λ (n : ℕ). pos n *ℤ (pos v -ℤ pos b)) same in
    omega (arith, ints, t, q, ew, at)

segment_holds : Laws → (ss : List Step) (v w : ℕ) → AreInRange ss → v ≡ offered_volume Buy ss → w ≡ worth_of ss
    → (q p : ℤ) (b e c : ℕ) → IsPrice p → ArePiece ss (height_of p) b e c → b ≤ e → e ≤ all_units ss
    → IsSegment (greatest_welfare ss) (segment_at_price v w q p b c) (pos v -ℤ pos e)
segment_holds laws ss v w a ev ew q p b e c r piece l within = record {
  ordered = omega (arith, ints, l);
  each = λ net low high.
      (let x = nat_abs (pos v -ℤ net) in
      let balance : pos x +ℤ net ≡ pos (offered_volume Buy ss) = omega (arith, ints, high, ev) in
      let from : b ≤ x = omega (arith, ints, high) in
      let to : x ≤ e = omega (arith, ints, low, high) in
      let under = piece.under in let up_to = piece.up_to in
      welfare_is laws ss net x (c + height_of p * (x - b)) a (record { balance = balance; within = omega (arith, to, within) })
      (record {
        price = p;
        in_range = r;
        reaches = record { under = omega (arith, under, from); up_to = omega (arith, up_to, to) };
        cost_is = row_cost c (gain_under (height_of p) ss) (height_of p) b x from piece.cost_is;
      })
      ∙ ap (λ (z : ℤ). Some z)
      (welfare_at q p net (height_of p) v w b c x (offered_volume Buy ss) (worth_of ss) (height_is p r) balance from ev ew));
}

-- ---- the line of a segment, and its prices
segment_under : Laws → (ss : List Step) (v w : ℕ) → AreInRange ss → v ≡ offered_volume Buy ss → (q p : ℤ) (b e c : ℕ) → IsPrice p
    → Reaches ss b (height_of p) → b ≤ e → e ≤ all_units ss
    → IsSegment (greatest_welfare ss) (segment_at_price v w q p b c) (pos v -ℤ pos e) → IsUnder (greatest_welfare ss) (segment_at_price v w q p b c)
segment_under laws ss v w a ev q p b e c r reaches l within is =
    let top : AreUnitsAt ss (pos v -ℤ pos b) b = record { balance = omega (arith, ints, ev); within = omega (arith, l, within) } in
    line_above laws ss (pos v -ℤ pos b) p (segment_at_price v w q p b c).surplus (reaches_supporting ss (pos v -ℤ pos b) p b a top r reaches)
    (is.each (pos v -ℤ pos b) (omega (arith, ints, l)) (omega (arith, ints)))

own_price : Laws → (ss : List Step) (net p : ℤ) → AreEnds ss net p p → IsJointPrice (ss ∷ []) net p
own_price laws ss net p ends =
    let between = laws.between p p (omega (arith, ints)) in
    (p, p, pos 0, ends, refl, omega (arith, ints, between.0, between.1))

segment_priced : Laws → (ss : List Step) (v w : ℕ) → AreInRange ss → v ≡ offered_volume Buy ss → (q p : ℤ) (b e c : ℕ) → IsPrice q
    → IsPrice p → ArePiece ss (height_of p) b e c → IsGap ss b (height_of q) (height_of p) → b ≤ e → e ≤ all_units ss
    → IsPriced (ss ∷ []) (segment_at_price v w q p b c) (pos v -ℤ pos e)
segment_priced laws ss v w a ev q p b e c rq rp piece gap l within = record {
  end_price = (
    q,
    p,
    pos 0,
    ends_are ss (pos v -ℤ pos b) q p b a (record { balance = omega (arith, ints, ev); within = omega (arith, l, within) }) rq rp gap,
    refl,
    omega (arith, ints),
  );
  inside = λ net low high.
      (let x = nat_abs (pos v -ℤ net) in
      let balance : pos x +ℤ net ≡ pos (offered_volume Buy ss) = omega (arith, ints, high, ev) in
      let from : b < x = omega (arith, ints, high) in
      let to : x < e = omega (arith, ints, low, high) in
      own_price laws ss net p
      (ends_are ss net p p x a (record { balance = balance; within = omega (arith, to, within) }) rp rp
      (inside_gap ss (height_of p) b e c x piece from to)));
}

piece_holds : Laws → (ss : List Step) (v w : ℕ) → AreInRange ss → v ≡ offered_volume Buy ss → w ≡ worth_of ss → EachPiece ss v w ss
piece_holds laws ss v w a ev ew q p b e c rq rp piece gap l within =
    let is = segment_holds laws ss v w a ev ew q p b e c rp piece l within in
    record {
      is_segment = is;
      under = segment_under laws ss v w a ev q p b e c rp gap.high_reaches l within is;
      priced = segment_priced laws ss v w a ev q p b e c rq rp piece gap l within;
    }

-- ---- the same in another order
offered_is : (ss : List Step) → offered_volume Buy ss ≡ total_of (λ s. volume_on Buy s.side s.qty) ss
offered_is [] = refl
offered_is (s ∷ ss) = ap (λ n. volume_on Buy s.side s.qty + n) (offered_is ss)

same_offered : (ss rising : List Step) → AreAlike ss rising → offered_volume Buy rising ≡ offered_volume Buy ss
same_offered ss rising same = offered_is rising ∙ same (λ s. volume_on Buy s.side s.qty) ∙ sym (offered_is ss)

-- 0 if the limit and the volume are in range, and else more
abbrev beyond : Step → ℕ
beyond s = ((nat_abs (s.price -ℤ lowest_price) + nat_abs (highest_price -ℤ s.price)) - price_span) + ((1 - s.qty) + (s.qty - greatest_volume))

none_beyond : (ss : List Step) → AreInRange ss → total_of beyond ss ≡ 0
none_beyond [] a = refl
none_beyond (s ∷ ss) a =
    let rest = none_beyond ss a.2 in
    let low = a.0.at_least in let high = a.0.at_most in let some = a.1.at_least in let few = a.1.at_most in
    omega (arith, ints, rest, low, high, some, few)

in_range_from : (ss : List Step) → total_of beyond ss ≡ 0 → AreInRange ss
in_range_from [] e = tt
in_range_from (s ∷ ss) e = (
  record { at_least = omega (arith, ints, e); at_most = omega (arith, ints, e) },
  record { at_least = omega (arith, e); at_most = omega (arith, e) },
  in_range_from ss (omega (arith, e)),
)

rising_in_range : (ss rising : List Step) → IsSupplyOf ss rising → AreInRange rising
rising_in_range ss rising is = in_range_from rising (is.same beyond ∙ none_beyond ss is.is_hour.in_range)

piece_alike : (ss rising : List Step) (h b e c : ℕ) → AreAlike ss rising → ArePiece rising h b e c → ArePiece ss h b e c
piece_alike ss rising h b e c same piece =
    let u = same (λ s. if_any (h - height_of s.price) s.qty) in
    let v = same (λ s. if_any (suc h - height_of s.price) s.qty) in
    let g = same (λ s. (h - height_of s.price) * s.qty) in
    let under = piece.under in let up_to = piece.up_to in let cost = piece.cost_is in
    record { under = omega (arith, u, under); up_to = omega (arith, v, up_to); cost_is = omega (arith, g, cost) }

reaches_alike : (ss rising : List Step) (x h : ℕ) → AreAlike ss rising → Reaches rising x h → Reaches ss x h
reaches_alike ss rising x h same is =
    let u = same (λ s. if_any (h - height_of s.price) s.qty) in
    let v = same (λ s. if_any (suc h - height_of s.price) s.qty) in
    let under = is.under in let up_to = is.up_to in
    record { under = omega (arith, u, under); up_to = omega (arith, v, up_to) }

gap_alike : (ss rising : List Step) (x low high : ℕ) → AreAlike ss rising → IsGap rising x low high → IsGap ss x low high
gap_alike ss rising x low high same gap = record {
  low_reaches = reaches_alike ss rising x low same gap.low_reaches;
  high_reaches = reaches_alike ss rising x high same gap.high_reaches;
  least = λ h r. gap.least h (reaches_alike rising ss x h (λ f. sym (same f)) r);
  greatest = λ h k r. gap.greatest h k (reaches_alike rising ss x h (λ f. sym (same f)) r);
}

-- ---- how large they are
side_most : (side : Side) (q : ℕ) → volume_on Buy side q ≤ q
side_most Buy q = omega arith
side_most Sell q = omega arith

worth_most : (ss : List Step) → AreInRange ss → worth_of ss ≤ price_span * all_units ss
worth_most [] a = omega arith
worth_most (s ∷ ss) a =
    let rest = worth_most ss a.2 in
    let own = side_most s.side (height_of s.price * s.qty) in
    let high = mul-le (height_of s.price) s.qty price_span s.qty (height_most s.price a.0) (omega arith) in
    omega (arith, rest, own, high)

offered_most : (ss : List Step) → offered_volume Buy ss ≤ all_units ss
offered_most ss = let all = all_offered ss in omega (arith, all)

units_most : (ss : List Step) → AreInRange ss → all_units ss ≤ length ss * greatest_volume
units_most [] a = omega arith
units_most (s ∷ ss) a = let rest = units_most ss a.2 in let most = a.1.at_most in omega (arith, rest, most)

pub times_small : (h s n : ℕ) (z : ℤ) → h ≤ s → neg_ℤ (pos n) ≤ℤ z → z ≤ℤ pos n
    → (neg_ℤ (pos (s * n)) ≤ℤ (pos h *ℤ z)) × ((pos h *ℤ z) ≤ℤ pos (s * n))
times_small h s n (pos m) l a b =
    let t = mul-le h m s n l (omega (arith, ints, b)) in (omega (arith, ints, t), omega (arith, ints, t))
times_small h s n (negsuc m) l a b =
    let t = mul-le h (suc m) s n l (omega (arith, ints, a)) in (omega (arith, ints, t), omega (arith, ints, t))

segment_small : Laws → (v w b c : ℕ) (q p : ℤ) → IsPrice q → IsPrice p → q ≤ℤ p → v ≤ most_steps * greatest_volume
    → b ≤ most_steps * greatest_volume → w ≤ most_steps * (price_span * greatest_volume)
    → c ≤ most_steps * (price_span * greatest_volume) → IsSmallSegment 1 (segment_at_price v w q p b c)
segment_small laws v w b c q p rq r order lv lb lw lc =
    let least = rq.at_least in let low = r.at_least in let high = r.at_most in
    let between = laws.between q p order in
    let t = times_small (height_of p) price_span (most_steps * greatest_volume) (pos v -ℤ pos b) (height_most p r) (omega (arith, ints, lv, lb))
    (omega (arith, ints, lv, lb)) in
    record {
      price_at_least = omega (arith, ints, low);
      price_at_most = omega (arith, ints, high);
      end_price_at_least = omega (arith, ints, between.0, least);
      end_price_at_most = omega (arith, ints, between.1, high);
      surplus_at_least = omega (arith, ints, t.0, t.1, lw, lc);
      surplus_at_most = omega (arith, ints, t.0, t.1, lw, lc);
    }

prices_rise : (q p : ℤ) → IsPrice q → IsPrice p → height_of q ≤ height_of p → q ≤ℤ p
prices_rise q p rq rp l = let e = height_is q rq in let k = height_is p rp in omega (arith, ints, l, e, k)

segments_small : Laws → (v w : ℕ) (ss : List Step) (q : ℤ) (b c : ℕ) → IsPrice q → AreInRange ss → Rises ss → AtLeast (height_of q) ss
    → b + all_units ss ≤ most_steps * greatest_volume → c ≤ price_span * b
    → v ≤ most_steps * greatest_volume → w ≤ most_steps * (price_span * greatest_volume) → AreSmallSegments 1 (segments_from v w q b c ss)
segments_small laws v w [] q b c rq a rises low lb lc lv lw =
    (segment_small laws v w b c q highest_price rq highest_in_range rq.at_most lv (omega (arith, lb)) lw (omega (arith, lb, lc)), tt)
segments_small laws v w (s ∷ ss) q b c rq a rises low lb lc lv lw = (
  segment_small laws v w b c q s.price rq a.0 (prices_rise q s.price rq a.0 low.0) lv (omega (arith, lb)) lw (omega (arith, lb, lc)),
  segments_small laws v w ss s.price (b + s.qty) (c + height_of s.price * s.qty) a.0 a.2 rises.1 rises.0 (omega (arith, lb))
      (let own = mul-le (height_of s.price) s.qty price_span s.qty (height_most s.price a.0) (omega arith) in omega (arith, lc, own))
      lv lw,
)

-- ---- outside of them nothing balances
-- the laws on a net volume at which nothing balances
pub record NoLaws : Type 0 where
  pub none : (ss : List Step) (net : ℤ) → (greatest_welfare ss net ≡ None) ↔ IsUnbalanced ss net
  pub within : (ss : List Step) (net : ℤ) (xs : List ℕ) → IsExecution ss xs → Balances ss net xs → IsWithinOffers ss net

outside_is : (v w : ℕ) (q : ℤ) (b c : ℕ) (ss : List Step) (net : ℤ) → IsOutside (segments_from v w q b c ss) net
    → (net <ℤ bottom_of (segments_from v w q b c ss)) ⊎ ((pos v -ℤ pos b) <ℤ net)
outside_is v w q b c [] net o = o
outside_is v w q b c (s ∷ ss) net o = o

none_outside : NoLaws → (ss : List Step) (net : ℤ) (v units : ℕ) → v ≡ offered_volume Buy ss → units ≡ all_units ss
    → (net <ℤ (pos v -ℤ pos units)) ⊎ ((pos v -ℤ pos 0) <ℤ net) → greatest_welfare ss net ≡ None
none_outside laws ss net v units ev eu o = (laws.none ss net).1 (λ xs e b. beyond_offers (laws.within ss net xs e b) o)
  where
    beyond_offers : IsWithinOffers ss net → (net <ℤ (pos v -ℤ pos units)) ⊎ ((pos v -ℤ pos 0) <ℤ net) → ⊥
    beyond_offers is (inl less) = let low = is.at_least in let all = all_offered ss in absurd (omega (arith, ints, low, all, less, ev, eu))
    beyond_offers is (inr more) = let high = is.at_most in absurd (omega (arith, ints, high, more, ev))

-- ---- the curve of a period
pub record IsPeriodCurve (ss : List Step) (segments : List Segment) : Type 0 where
  pub are_segments : AreSegments (greatest_welfare ss) segments (bottom_of segments)
  pub under : IsUnderEach (greatest_welfare ss) segments
  pub priced : ArePriced (ss ∷ []) segments (bottom_of segments)
  pub small : AreSmallSegments 1 segments
  pub outside : (net : ℤ) → IsOutside segments net → greatest_welfare ss net ≡ None

pub period_curve : Laws → NoLaws → (ss rising : List Step) → IsSupplyOf ss rising
    → IsPeriodCurve ss (segments_from (offered_volume Buy rising) (worth_of rising) lowest_price 0 0 rising)
period_curve laws nothing ss rising is =
    let v = offered_volume Buy rising in let w = worth_of rising in
    let range = rising_in_range ss rising is in
    let ev = same_offered ss rising is.same in
    let ew = is.same (λ s. volume_on Buy s.side (height_of s.price * s.qty)) in
    let eu = is.same (λ s. s.qty) in
    let few = is.is_hour.few in let units = units_most ss is.is_hour.in_range in
    let volume = offered_most rising in let worth = worth_most rising range in
    let count : length ss * greatest_volume ≤ most_steps * greatest_volume = omega (arith, few) in
    let ls = segments_from v w lowest_price 0 0 rising in
    let bottom = bottom_is v w lowest_price 0 0 rising in
    let end : pos v -ℤ pos (all_units rising) ≡ bottom_of ls = omega (arith, ints, bottom) in
    let rises = rises_from rising is.rises in
    let pieces = segments_hold ss v w rising range
    (λ q p b e c rq rp piece gap l k. piece_holds laws ss v w is.is_hour.in_range ev ew q p b e c rq rp
    (piece_alike ss rising (height_of p) b e c is.same piece) (gap_alike ss rising b (height_of q) (height_of p) is.same gap)
    l (omega (arith, k, eu)))
    rising lowest_price 0 0 lowest_in_range range rises (at_least_zero rising) (all_last rising) in
    record {
      are_segments = subst (AreSegments (greatest_welfare ss) ls) end pieces.are_segments;
      under = pieces.under;
      priced = subst (ArePriced (ss ∷ []) ls) end pieces.priced;
      small = segments_small laws v w rising lowest_price 0 0 lowest_in_range range rises (at_least_zero rising)
          (omega (arith, eu, units, count)) (omega arith) (omega (arith, eu, units, count, volume))
          (omega (arith, eu, units, count, worth));
      outside = λ net o. none_outside nothing ss net v (all_units rising) ev eu
          (shifted net v (all_units rising) (bottom_of ls) (outside_is v w lowest_price 0 0 rising net o) bottom);
    }
  where
    shifted : (net : ℤ) (v units : ℕ) (z : ℤ) → (net <ℤ z) ⊎ ((pos v -ℤ pos 0) <ℤ net) → z ≡ pos v -ℤ pos (0 + units)
        → (net <ℤ (pos v -ℤ pos units)) ⊎ ((pos v -ℤ pos 0) <ℤ net)
    shifted net v units z (inl less) e = inl (omega (arith, ints, less, e))
    shifted net v units z (inr more) e = inr more
