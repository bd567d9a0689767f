-- A block with another limit: no price reads it, and a better one raises the gain of the block and its ancestors, and
-- the welfare of the selections that accept it.
use Rattle.dam_blocks.proofs.Common.{◌≡◌, ◌⊎◌, inl, inr, ℕ, zero, suc, ◌+◌, ◌*◌, ◌<◌, ◌≤◌, ℤ, pos, negsuc, ◌+ℤ◌, ◌-ℤ◌, ◌*ℤ◌, ◌≤ℤ◌, Bool, true, false, ◌&&◌}
use Rattle.dam_blocks.proofs.Common.{◌||◌, ◌==◌, cond, not, nat_lt, Option, Some, None, List, [], ◌∷◌, length, slice_set, ap, ap₂, ◌∙◌, sym, subst, refl, arith}
use Rattle.dam_blocks.proofs.Common.{option_map, unwrap_or, ints, cases_eq, most_of_group, BlockTerms, Side, Buy, Sell, Step, IsBetter, signed}
use Rattle.dam_blocks.proofs.Common.{greatest_welfare, Block, ProblemState, IsParent, accepts, volume_in, over_accepted, net_volume_of_block, value_in}
use Rattle.dam_blocks.proofs.Common.{net_volume, accepted_value, are_of_one_group, accepted_of_group, IsAdmissible, names, parent_among, parent_place, leads_to}
use Rattle.dam_blocks.proofs.Common.{descends, accepted_descendants, ArePrices, surplus_from, surplus_of, surplus_at, family_surplus, HasNoLoss, added}
use Rattle.dam_blocks.proofs.Common.{period_welfare, welfare_from, IsEligible, RanksAtOrBelow, IsResult, IsOutcome, AreBestExecutions, with_limit, IsWithLimit}
use Rattle.std.specs.List.{slice_get, position_or_len}
use borrow.Author.Differences.{up, down}
use Rattle.dam_hour.specs.Price.{IsWorse}
use Rattle.dam_blocks.proofs.Families.{accepts_descendant, where_true}
use Rattle.dam_blocks.proofs.GroupCounts.{same_count}
use Rattle.dam_blocks.proofs.WelfareAtLeastZero.{added_some, raised_some}
use Rattle.dam_blocks.proofs.Participants.{over_accepted-agree}
use Rattle.dam_blocks.proofs.Ranks.{same_rank}
use Rattle.dam_blocks.proofs.Transfer.{prices_transfer, executions_transfer, welfare_transfer}

-- ---- the block and its fellows
-- the blocks with that limit for the one at a place
abbrev repriced : List Block → ℕ → ℤ → List Block
repriced [] i limit = []
repriced (b ∷ bs) zero limit = with_limit b limit ∷ bs
repriced (b ∷ bs) (suc i) limit = b ∷ repriced bs i limit

set_repriced : (bs : List Block) (i : ℕ) (b : Block) (limit : ℤ) → slice_get bs i ≡ Some b
    → slice_set bs i (with_limit b limit) ≡ repriced bs i limit
set_repriced [] i b limit at = refl
set_repriced (c ∷ bs) zero b limit at =
    let same : c ≡ b = cc in ap (λ (d : Block). with_limit d limit ∷ bs) (sym same)
set_repriced (c ∷ bs) (suc i) b limit at = ap (λ (cs : List Block). c ∷ cs) (set_repriced bs i b limit at)

length-repriced : (bs : List Block) (i : ℕ) (limit : ℤ) → length (repriced bs i limit) ≡ length bs
length-repriced [] i limit = refl
length-repriced (b ∷ bs) zero limit = refl
length-repriced (b ∷ bs) (suc i) limit = ap suc (length-repriced bs i limit)

limit_back : (bs : List Block) (i : ℕ) (b : Block) (limit : ℤ) → slice_get bs i ≡ Some b
    → repriced (repriced bs i limit) i b.order.price ≡ bs
limit_back [] i b limit at = refl
limit_back (c ∷ bs) zero b limit at =
    let same : c ≡ b = cc in ap (λ (d : Block). with_limit c d.order.price ∷ bs) (sym same)
limit_back (c ∷ bs) (suc i) b limit at = ap (λ (cs : List Block). c ∷ cs) (limit_back bs i b limit at)

get_repriced : (bs : List Block) (i : ℕ) (b : Block) (limit : ℤ) → slice_get bs i ≡ Some b
    → slice_get (repriced bs i limit) i ≡ Some (with_limit b limit)
get_repriced [] i b limit at = absurd (cc)
get_repriced (c ∷ bs) zero b limit at = let same : c ≡ b = cc in ap (λ (d : Block). Some (with_limit d limit)) same
get_repriced (c ∷ bs) (suc i) b limit at = get_repriced bs i b limit at

get_fellow : (bs : List Block) (i j : ℕ) (limit : ℤ) → (j ≡ i → ⊥) → slice_get (repriced bs i limit) j ≡ slice_get bs j
get_fellow [] i j limit apart = refl
get_fellow (c ∷ bs) zero zero limit apart = absurd (apart refl)
get_fellow (c ∷ bs) zero (suc j) limit apart = refl
get_fellow (c ∷ bs) (suc i) zero limit apart = refl
get_fellow (c ∷ bs) (suc i) (suc j) limit apart = get_fellow bs i j limit (λ e. apart (ap suc e))

now : (problem other : ProblemState) (i : ℕ) (b : Block) (limit : ℤ) → IsWithLimit problem other i b limit
    → other.blocks ≡ repriced problem.blocks i limit
now problem other i b limit w = w.blocks ∙ set_repriced problem.blocks i b limit w.stands

pub turned : (problem other : ProblemState) (i : ℕ) (b : Block) (limit : ℤ) → IsWithLimit problem other i b limit
    → IsWithLimit other problem i (with_limit b limit) b.order.price
turned problem other i b limit w =
    let here : slice_get other.blocks i ≡ Some (with_limit b limit) =
    ap (λ (bs : List Block). slice_get bs i) (now problem other i b limit w) ∙ get_repriced problem.blocks i b limit w.stands in
    record {
      stands = here;
      hours = sym w.hours;
      blocks = sym (limit_back problem.blocks i b limit w.stands)
          ∙ ap (λ (bs : List Block). repriced bs i b.order.price) (sym (now problem other i b limit w))
          ∙ sym (set_repriced other.blocks i (with_limit b limit) b.order.price here);
    }

-- ---- families: links are by names
same_position : (b : Block) (bs : List Block) (i : ℕ) (limit : ℤ)
    → position_or_len (λ q. names q b) (repriced bs i limit) ≡ position_or_len (λ q. names q b) bs
same_position b [] i limit = refl
same_position b (c ∷ bs) zero limit = refl
same_position b (c ∷ bs) (suc i) limit = ap (λ (n : ℕ). cond (not (names c b)) (1 + n) 0) (same_position b bs i limit)

parent_of : (bs : List Block) (i : ℕ) (limit : ℤ) (o : Option Block) → parent_among (repriced bs i limit) o ≡ parent_among bs o
parent_of bs i limit None = refl
parent_of bs i limit (Some b) =
    ap₂ (λ (m n : ℕ). cond (nat_lt m n) (Some m) None) (same_position b bs i limit) (length-repriced bs i limit)

child_of : (cs bs : List Block) (i j : ℕ) (limit : ℤ)
    → parent_among cs (slice_get (repriced bs i limit) j) ≡ parent_among cs (slice_get bs j)
child_of cs [] i j limit = refl
child_of cs (b ∷ bs) zero zero limit = refl
child_of cs (b ∷ bs) zero (suc j) limit = refl
child_of cs (b ∷ bs) (suc i) zero limit = refl
child_of cs (b ∷ bs) (suc i) (suc j) limit = child_of cs bs i j limit

same_parent : (bs : List Block) (i j : ℕ) (limit : ℤ) → parent_place (repriced bs i limit) j ≡ parent_place bs j
same_parent bs i j limit =
    child_of (repriced bs i limit) bs i j limit ∙ parent_of bs i limit (slice_get bs j)

same_chain : (bs : List Block) (i : ℕ) (limit : ℤ) (n a : ℕ) (o : Option ℕ) → leads_to n (repriced bs i limit) a o ≡ leads_to n bs a o
same_chain bs i limit n a None = refl
same_chain bs i limit zero a (Some p) = refl
same_chain bs i limit (suc n) a (Some p) =
    ap (λ (x : Bool). (p == a) || x)
    (same_chain bs i limit n a (parent_place (repriced bs i limit) p) ∙ ap (λ (o : Option ℕ). leads_to n bs a o) (same_parent bs i p limit))

same_family : (bs : List Block) (i : ℕ) (limit : ℤ) (a b : ℕ) → descends (repriced bs i limit) a b ≡ descends bs a b
same_family bs i limit a b =
    same_chain bs i limit (length (repriced bs i limit)) a (parent_place (repriced bs i limit) b)
    ∙ ap₂ (λ (n : ℕ) (o : Option ℕ). leads_to n bs a o) (length-repriced bs i limit) (same_parent bs i b limit)

same_descendants : (bs : List Block) (i : ℕ) (limit : ℤ) (sel : List Bool) (a m : ℕ)
    → accepts (accepted_descendants (repriced bs i limit) sel a) m ≡ accepts (accepted_descendants bs sel a) m
same_descendants bs i limit sel a m =
    accepts_descendant (repriced bs i limit) sel a m
    ∙ ap (λ (x : Bool). accepts sel m && x) (same_family bs i limit a m)
    ∙ sym (accepts_descendant bs sel a m)

-- ---- admissible: links and groups read no limit
-- the same but for the limit
record AreAlike (b c : Block) : Type 0 where
  who : b.who ≡ c.who
  name : b.name ≡ c.name
  parent : b.order.parent ≡ c.order.parent
  group : b.order.group ≡ c.order.group

alike_at : (bs : List Block) (i j : ℕ) (limit : ℤ) (c : Block) → slice_get (repriced bs i limit) j ≡ Some c
    → (b : Block) × (slice_get bs j ≡ Some b) × AreAlike b c
alike_at [] i j limit c at = absurd (cc)
alike_at (b ∷ bs) zero zero limit c at =
    let same : with_limit b limit ≡ c = cc in (
      b,
      refl,
      record {
        who = ap (λ (d : Block). d.who) same;
        name = ap (λ (d : Block). d.name) same;
        parent = ap (λ (d : Block). d.order.parent) same;
        group = ap (λ (d : Block). d.order.group) same;
      },
    )
alike_at (b ∷ bs) zero (suc j) limit c at = (c, at, record { who = refl; name = refl; parent = refl; group = refl })
alike_at (b ∷ bs) (suc i) zero limit c at = (c, at, record { who = refl; name = refl; parent = refl; group = refl })
alike_at (b ∷ bs) (suc i) (suc j) limit c at = alike_at bs i j limit c at

stands_limited : (bs : List Block) (i j : ℕ) (limit : ℤ) (b : Block) → slice_get bs j ≡ Some b
    → (c : Block) × (slice_get (repriced bs i limit) j ≡ Some c) × AreAlike b c
stands_limited [] i j limit b at = absurd (cc)
stands_limited (c ∷ bs) zero zero limit b at =
    let same : c ≡ b = cc in (
      with_limit c limit,
      refl,
      record {
        who = ap (λ (d : Block). d.who) (sym same);
        name = ap (λ (d : Block). d.name) (sym same);
        parent = ap (λ (d : Block). d.order.parent) (sym same);
        group = ap (λ (d : Block). d.order.group) (sym same);
      },
    )
stands_limited (c ∷ bs) zero (suc j) limit b at = (b, at, record { who = refl; name = refl; parent = refl; group = refl })
stands_limited (c ∷ bs) (suc i) zero limit b at = (b, at, record { who = refl; name = refl; parent = refl; group = refl })
stands_limited (c ∷ bs) (suc i) (suc j) limit b at = stands_limited bs i j limit b at

parent_alike : (x y b c : Block) → AreAlike x y → AreAlike b c → IsParent y c → IsParent x b
parent_alike x y b c first second is = record {
  who = first.who ∙ is.who ∙ sym second.who;
  name = second.parent ∙ is.name ∙ ap (λ (n : List ℕ). Some n) (sym first.name);
}

same_number : (g : Block) (bs : List Block) (sel : List Bool) (i : ℕ) (limit : ℤ)
    → accepted_of_group g (repriced bs i limit) sel ≡ accepted_of_group g bs sel
same_number g [] sel i limit = refl
same_number g (c ∷ bs) [] zero limit = refl
same_number g (c ∷ bs) [] (suc i) limit = refl
same_number g (c ∷ bs) (true ∷ sel) zero limit = refl
same_number g (c ∷ bs) (false ∷ sel) zero limit = refl
same_number g (c ∷ bs) (true ∷ sel) (suc i) limit = ap (λ (n : ℕ). cond (are_of_one_group g c) 1 0 + n) (same_number g bs sel i limit)
same_number g (c ∷ bs) (false ∷ sel) (suc i) limit = same_number g bs sel i limit

limited_admissible : (bs : List Block) (sel : List Bool) (i : ℕ) (limit : ℤ) → IsAdmissible bs sel → IsAdmissible (repriced bs i limit) sel
limited_admissible bs sel i limit is = record {
  each = λ j acc.
      (let allowed = is.each j acc in
      let own = stands_limited bs i j limit allowed.block allowed.stands in
      record {
        block = own.0;
        stands = own.1;
        parent = λ k other at is_parent.
            (let was = alike_at bs i k limit other at in
            allowed.parent k was.0 was.1 (parent_alike was.0 other allowed.block own.0 was.2 own.2 is_parent));
        group = subst (λ (n : ℕ). n ≤ most_of_group)
            (same_count allowed.block own.0 own.2.who own.2.group bs sel ∙ sym (same_number own.0 bs sel i limit)) allowed.group;
      });
}

-- ---- sums
-- the sum changes by the change of the block, if it is accepted
sum_changed : (f : BlockTerms → ℤ) (bs : List Block) (sel : List Bool) (i : ℕ) (b : Block) (limit : ℤ) → slice_get bs i ≡ Some b
    → over_accepted f (repriced bs i limit) sel
    ≡ over_accepted f bs sel +ℤ where_true (accepts sel i) (f (with_limit b limit).order -ℤ f b.order)
sum_changed f [] sel i b limit at = absurd (cc)
sum_changed f (c ∷ bs) [] zero b limit at = omega (arith, ints)
sum_changed f (c ∷ bs) [] (suc i) b limit at = omega (arith, ints)
sum_changed f (c ∷ bs) (true ∷ sel) zero b limit at =
    let same : c ≡ b = cc in
    let old = ap (λ (d : Block). f d.order) same in
    let new = ap (λ (d : Block). f (with_limit d limit).order) same in
    omega (arith, ints, old, new)
sum_changed f (c ∷ bs) (false ∷ sel) zero b limit at = omega (arith, ints)
sum_changed f (c ∷ bs) (true ∷ sel) (suc i) b limit at = let rest = sum_changed f bs sel i b limit at in omega (arith, ints, rest)
sum_changed f (c ∷ bs) (false ∷ sel) (suc i) b limit at = sum_changed f bs sel i b limit at

-- .. and not at all if the function reads no limit
same_sum : (f : BlockTerms → ℤ) (bs : List Block) (sel : List Bool) (i : ℕ) (limit : ℤ)
    → ((b : Block) → f (with_limit b limit).order ≡ f b.order) → over_accepted f (repriced bs i limit) sel ≡ over_accepted f bs sel
same_sum f [] sel i limit h = refl
same_sum f (c ∷ bs) [] zero limit h = refl
same_sum f (c ∷ bs) [] (suc i) limit h = refl
same_sum f (c ∷ bs) (true ∷ sel) zero limit h = ap (λ (z : ℤ). z +ℤ over_accepted f bs sel) (h c)
same_sum f (c ∷ bs) (false ∷ sel) zero limit h = refl
same_sum f (c ∷ bs) (true ∷ sel) (suc i) limit h = ap (λ (z : ℤ). f c.order +ℤ z) (same_sum f bs sel i limit h)
same_sum f (c ∷ bs) (false ∷ sel) (suc i) limit h = same_sum f bs sel i limit h

pub same_net : (bs : List Block) (sel : List Bool) (i : ℕ) (limit : ℤ) (t : ℕ)
    → net_volume (repriced bs i limit) sel t ≡ net_volume bs sel t
same_net bs sel i limit t = same_sum (net_volume_of_block t) bs sel i limit (λ b. refl)

same_sum_without : (f : BlockTerms → ℤ) (bs : List Block) (sel : List Bool) (i : ℕ) (b : Block) (limit : ℤ) → slice_get bs i ≡ Some b
    → accepts sel i ≡ false → over_accepted f (repriced bs i limit) sel ≡ over_accepted f bs sel
same_sum_without f bs sel i b limit at off =
    let change = sum_changed f bs sel i b limit at in
    let none = ap (λ (x : Bool). where_true x (f (with_limit b limit).order -ℤ f b.order)) off in
    omega (arith, ints, change, none)

where_at_least : (x : Bool) (z : ℤ) → pos 0 ≤ℤ z → pos 0 ≤ℤ where_true x z
where_at_least true z h = h
where_at_least false z h = omega (arith, ints)

sum_raised : (f : BlockTerms → ℤ) (bs : List Block) (sel : List Bool) (i : ℕ) (b : Block) (limit : ℤ) → slice_get bs i ≡ Some b
    → f b.order ≤ℤ f (with_limit b limit).order → over_accepted f bs sel ≤ℤ over_accepted f (repriced bs i limit) sel
sum_raised f bs sel i b limit at less =
    let change = sum_changed f bs sel i b limit at in
    let more = where_at_least (accepts sel i) (f (with_limit b limit).order -ℤ f b.order) (omega (arith, ints, less)) in
    omega (arith, ints, change, more)

-- ---- the values that a better limit raises
times_at_least : (z : ℤ) (x : ℕ) → pos 0 ≤ℤ z → pos 0 ≤ℤ (z *ℤ pos x)
times_at_least (pos n) x h = omega (arith, ints)
times_at_least (negsuc n) x h = absurd (let no : 0 < 0 = omega (arith, ints, h) in omega (arith, no))

pub minus_times : (a b : ℤ) (x : ℕ) → (a -ℤ b) *ℤ pos x +ℤ b *ℤ pos x ≡ a *ℤ pos x
minus_times a b x =
    let e : up (a -ℤ b) + down a + up b ≡ down (a -ℤ b) + up a + down b = omega (arith, ints) in
    let m = ap (λ (n : ℕ). n * x) e in
    omega (arith, ints, m)

times_grows : (a b : ℤ) (x : ℕ) → a ≤ℤ b → (a *ℤ pos x) ≤ℤ (b *ℤ pos x)
times_grows a b x h =
    let parts = minus_times b a x in
    let more = times_at_least (b -ℤ a) x (omega (arith, ints, h)) in
    omega (arith, ints, parts, more)

pub value_raised : (side : Side) (old new : ℤ) (x : ℕ) → IsBetter side new old
    → signed side (old *ℤ pos x) ≤ℤ signed side (new *ℤ pos x)
value_raised Buy old new x h = times_grows old new x (omega (arith, ints))
value_raised Sell old new x h = let m = times_grows new old x (omega (arith, ints)) in omega (arith, ints, m)

gain_raised : (side : Side) (old new p : ℤ) (x : ℕ) → IsBetter side new old
    → signed side ((old -ℤ p) *ℤ pos x) ≤ℤ signed side ((new -ℤ p) *ℤ pos x)
gain_raised Buy old new p x h = times_grows (old -ℤ p) (new -ℤ p) x (omega (arith, ints))
gain_raised Sell old new p x h = let m = times_grows (new -ℤ p) (old -ℤ p) x (omega (arith, ints)) in omega (arith, ints, m)

pub surplus_raised : (t : ℕ) (prices : List ℤ) (b : Block) (limit : ℤ) → IsBetter b.order.side limit b.order.price
    → surplus_from t prices b.order ≤ℤ surplus_from t prices (with_limit b limit).order
surplus_raised t [] b limit h = omega (arith, ints)
surplus_raised t (p ∷ prices) b limit h =
    let here = gain_raised b.order.side b.order.price limit p (volume_in b.order.volumes t) h in
    let rest = surplus_raised (suc t) prices b limit h in
    omega (arith, ints, here, rest)

-- ---- the welfare
raised_option : (x : Option ℤ) (k l u : ℤ) → k ≤ℤ l → option_map (λ w. w +ℤ k) x ≡ Some u
    → (v : ℤ) × (option_map (λ w. w +ℤ l) x ≡ Some v) × (u ≤ℤ v)
raised_option x k l u h e =
    let found = raised_some x k u e in
    let sum = found.2 in
    (found.0 +ℤ l, ap (λ (o : Option ℤ). option_map (λ w. w +ℤ l) o) found.1, omega (arith, ints, h, sum))

added_there : (x y : Option ℤ) (u v : ℤ) → x ≡ Some u → y ≡ Some v → added x y ≡ Some (u +ℤ v)
added_there x y u v e f = ap₂ (λ (a b : Option ℤ). added a b) e f

welfare_raised : (bs cs : List Block) (sel : List Bool) (t : ℕ) (hours : List (List Step)) (v : ℤ)
    → ((s : ℕ) → net_volume bs sel s ≡ net_volume cs sel s) → ((s : ℕ) → accepted_value bs sel s ≤ℤ accepted_value cs sel s)
    → welfare_from bs sel t hours ≡ Some v → (w : ℤ) × (welfare_from cs sel t hours ≡ Some w) × (v ≤ℤ w)
welfare_raised bs cs sel t [] v net value e = (v, e, omega (arith, ints))
welfare_raised bs cs sel t (ss ∷ hours) v net value e =
    let parts = added_some (period_welfare bs sel t ss) (welfare_from bs sel (suc t) hours) v e in
    let here = raised_option (greatest_welfare ss (net_volume bs sel t)) (accepted_value bs sel t) (accepted_value cs sel t) parts.0 (value t)
    parts.2 in
    let rest = welfare_raised bs cs sel (suc t) hours parts.1 net value parts.3 in
    let own : period_welfare cs sel t ss ≡ Some here.0 =
    ap (λ (n : ℤ). option_map (λ w. w +ℤ accepted_value cs sel t) (greatest_welfare ss n)) (sym (net t)) ∙ here.1 in
    let first = here.2 in let second = rest.2 in let sum = parts.4 in (
      here.0 +ℤ rest.0,
      added_there (period_welfare cs sel t ss) (welfare_from cs sel (suc t) hours) here.0 rest.0 own rest.1,
      omega (arith, ints, first, second, sum),
    )

-- ---- no loss
surplus_same : (bs : List Block) (i j : ℕ) (limit : ℤ) (prices : List ℤ) → (j ≡ i → ⊥)
    → surplus_at (repriced bs i limit) prices j ≡ surplus_at bs prices j
surplus_same bs i j limit prices apart =
    ap (λ (o : Option Block). unwrap_or (option_map (λ b. surplus_of prices b.order) o) (pos 0)) (get_fellow bs i j limit apart)

descendants_sum : (bs : List Block) (sel : List Bool) (i j : ℕ) (limit : ℤ) (prices : List ℤ)
    → over_accepted (surplus_of prices) (repriced bs i limit) (accepted_descendants (repriced bs i limit) sel j)
    ≡ over_accepted (surplus_of prices) (repriced bs i limit) (accepted_descendants bs sel j)
descendants_sum bs sel i j limit prices =
    over_accepted-agree (surplus_of prices) (repriced bs i limit) (accepted_descendants (repriced bs i limit) sel j)
    (accepted_descendants bs sel j) (λ m b at. same_descendants bs i limit sel j m)

-- a selection that rejects the block
gain_without : (bs : List Block) (sel : List Bool) (i j : ℕ) (b : Block) (limit : ℤ) (prices : List ℤ) → slice_get bs i ≡ Some b
    → accepts sel i ≡ false → accepts sel j ≡ true → family_surplus (repriced bs i limit) sel prices j ≡ family_surplus bs sel prices j
gain_without bs sel i j b limit prices at off acc =
    let apart : j ≡ i → ⊥ = λ e. absurd (let there = ap (λ (m : ℕ). accepts sel m) e in cc) in
    let none : accepts (accepted_descendants bs sel j) i ≡ false =
    accepts_descendant bs sel j i ∙ ap (λ (x : Bool). x && descends bs j i) off in
    ap₂ (λ (x y : ℤ). x +ℤ y) (surplus_same bs i j limit prices apart)
    (descendants_sum bs sel i j limit prices
    ∙ same_sum_without (surplus_of prices) bs (accepted_descendants bs sel j) i b limit at none)

no_loss_without : (bs : List Block) (sel : List Bool) (i : ℕ) (b : Block) (limit : ℤ) (prices : List ℤ) → slice_get bs i ≡ Some b
    → accepts sel i ≡ false → HasNoLoss bs sel prices → HasNoLoss (repriced bs i limit) sel prices
no_loss_without bs sel i b limit prices at off none = record {
  gains = λ j acc.
      (let same = gain_without bs sel i j b limit prices at off acc in let gain = none.gains j acc in omega (arith, ints, same, gain));
}

-- a better limit
own_raised : (bs : List Block) (i j : ℕ) (b : Block) (limit : ℤ) (prices : List ℤ) → slice_get bs i ≡ Some b
    → IsBetter b.order.side limit b.order.price → surplus_at bs prices j ≤ℤ surplus_at (repriced bs i limit) prices j
own_raised bs i j b limit prices at better =
    elim (cases_eq j i) as (λ _. surplus_at bs prices j ≤ℤ surplus_at (repriced bs i limit) prices j) [
      | inl same ↦
          (let old : surplus_at bs prices j ≡ surplus_of prices b.order =
          ap (λ (o : Option Block). unwrap_or (option_map (λ c. surplus_of prices c.order) o) (pos 0))
          (ap (λ (m : ℕ). slice_get bs m) same ∙ at) in
          let new : surplus_at (repriced bs i limit) prices j ≡ surplus_of prices (with_limit b limit).order =
          ap (λ (o : Option Block). unwrap_or (option_map (λ c. surplus_of prices c.order) o) (pos 0))
          (ap (λ (m : ℕ). slice_get (repriced bs i limit) m) same ∙ get_repriced bs i b limit at) in
          let more = surplus_raised 1 prices b limit better in
          omega (arith, ints, old, new, more))
      | inr apart ↦ (let same = surplus_same bs i j limit prices apart in omega (arith, ints, same))
    ]

no_loss_raised : (bs : List Block) (sel : List Bool) (i : ℕ) (b : Block) (limit : ℤ) (prices : List ℤ) → slice_get bs i ≡ Some b
    → IsBetter b.order.side limit b.order.price → HasNoLoss bs sel prices → HasNoLoss (repriced bs i limit) sel prices
no_loss_raised bs sel i b limit prices at better none = record {
  gains = λ j acc.
      (let own = own_raised bs i j b limit prices at better in
      let same = descendants_sum bs sel i j limit prices in
      let more = sum_raised (surplus_of prices) bs (accepted_descendants bs sel j) i b limit at (surplus_raised 1 prices b limit better) in
      let gain = none.gains j acc in
      omega (arith, ints, own, same, more, gain));
}

-- ---- eligible
there : (problem other : ProblemState) (i : ℕ) (b : Block) (limit : ℤ) (P : List Block → Type 0) → IsWithLimit problem other i b limit
    → P (repriced problem.blocks i limit) → P other.blocks
there problem other i b limit P w h = subst P (sym (now problem other i b limit w)) h

limited_prices : (problem other : ProblemState) (i : ℕ) (b : Block) (limit : ℤ) (sel : List Bool) (prices : List ℤ)
    → IsWithLimit problem other i b limit → ArePrices problem.blocks sel 1 problem.hours prices → ArePrices other.blocks sel 1 other.hours prices
limited_prices problem other i b limit sel prices w are =
    there problem other i b limit (λ (bs : List Block). ArePrices bs sel 1 other.hours prices) w
    (subst (λ (hours : List (List Step)). ArePrices (repriced problem.blocks i limit) sel 1 hours prices) (sym w.hours)
    (prices_transfer problem.blocks (repriced problem.blocks i limit) sel sel 1 problem.hours prices
    (λ t. sym (same_net problem.blocks sel i limit t)) are))

pub same_outcome : (problem other : ProblemState) (i : ℕ) (b : Block) (limit : ℤ) (sel : List Bool) (prices : List ℤ)
    (executions : List (List ℕ)) → IsWithLimit problem other i b limit → IsOutcome problem sel prices executions
    → IsOutcome other sel prices executions
same_outcome problem other i b limit sel prices executions w is = record {
  prices_are = limited_prices problem other i b limit sel prices w is.prices_are;
  executions_are = there problem other i b limit (λ (bs : List Block). AreBestExecutions bs sel 1 other.hours executions) w
      (subst (λ (hours : List (List Step)). AreBestExecutions (repriced problem.blocks i limit) sel 1 hours executions) (sym w.hours)
      (executions_transfer problem.blocks (repriced problem.blocks i limit) sel sel 1 problem.hours executions
      (λ t. sym (same_net problem.blocks sel i limit t)) is.executions_are));
}

-- a selection that rejects the block
eligible_without : (problem other : ProblemState) (i : ℕ) (b : Block) (limit : ℤ) (sel : List Bool) (v : ℤ)
    → IsWithLimit problem other i b limit → accepts sel i ≡ false → IsEligible problem sel v → IsEligible other sel v
eligible_without problem other i b limit sel v w off is = record {
  as_long = is.as_long;
  admissible = there problem other i b limit (λ (bs : List Block). IsAdmissible bs sel) w
      (limited_admissible problem.blocks sel i limit is.admissible);
  prices = is.prices;
  are_prices = limited_prices problem other i b limit sel is.prices w is.are_prices;
  no_loss = there problem other i b limit (λ (bs : List Block). HasNoLoss bs sel is.prices) w
      (no_loss_without problem.blocks sel i b limit is.prices w.stands off is.no_loss);
  welfare_is = there problem other i b limit (λ (bs : List Block). welfare_from bs sel 1 other.hours ≡ Some v) w
      (ap (λ (hours : List (List Step)). welfare_from (repriced problem.blocks i limit) sel 1 hours) w.hours
      ∙ sym (welfare_transfer problem.blocks (repriced problem.blocks i limit) sel sel 1 problem.hours
      (λ t. sym (same_net problem.blocks sel i limit t))
      (λ t. sym (same_sum_without (value_in t) problem.blocks sel i b limit w.stands off)))
      ∙ is.welfare_is);
}

-- any selection, if the limit gets better
eligible_raised : (problem other : ProblemState) (i : ℕ) (b : Block) (limit : ℤ) (sel : List Bool) (v : ℤ)
    → IsWithLimit problem other i b limit → IsBetter b.order.side limit b.order.price → IsEligible problem sel v
    → (u : ℤ) × IsEligible other sel u × (v ≤ℤ u)
eligible_raised problem other i b limit sel v w better is =
    let more = welfare_raised problem.blocks (repriced problem.blocks i limit) sel 1 problem.hours v
    (λ t. sym (same_net problem.blocks sel i limit t))
    (λ t. sum_raised (value_in t) problem.blocks sel i b limit w.stands
    (value_raised b.order.side b.order.price limit (volume_in b.order.volumes t) better)) is.welfare_is in (
      more.0,
      record {
        as_long = is.as_long;
        admissible = there problem other i b limit (λ (bs : List Block). IsAdmissible bs sel) w
            (limited_admissible problem.blocks sel i limit is.admissible);
        prices = is.prices;
        are_prices = limited_prices problem other i b limit sel is.prices w is.are_prices;
        no_loss = there problem other i b limit (λ (bs : List Block). HasNoLoss bs sel is.prices) w
            (no_loss_raised problem.blocks sel i b limit is.prices w.stands better is.no_loss);
        welfare_is = there problem other i b limit (λ (bs : List Block). welfare_from bs sel 1 other.hours ≡ Some more.0) w
            (ap (λ (hours : List (List Step)). welfare_from (repriced problem.blocks i limit) sel 1 hours) w.hours ∙ more.1);
      },
      more.2,
    )

-- ---- results
-- a selection that ranks at or below with less welfare does so with the same, and with more
rank_lowered : (u v w : ℤ) (xs ys : List Bool) → u ≤ℤ v → RanksAtOrBelow v xs w ys → RanksAtOrBelow u xs w ys
rank_lowered u v w xs ys less h =
    let below = h.by_welfare in record {
      by_welfare = omega (arith, ints, less, below);
      by_order = λ e. h.by_order (omega (arith, ints, less, below, e));
    }

rank_under : (u v w : ℤ) (xs ys : List Bool) → v ≤ℤ w → RanksAtOrBelow u xs v ys → RanksAtOrBelow u xs w ys
rank_under u v w xs ys less h =
    let below = h.by_welfare in record {
      by_welfare = omega (arith, ints, less, below);
      by_order = λ e. h.by_order (omega (arith, ints, less, below, e));
    }

two_ways : (x : Bool) → (x ≡ true) ⊎ (x ≡ false)
two_ways true = inl refl
two_ways false = inr refl

pub kept : (problem other : ProblemState) (i : ℕ) (b : Block) (limit : ℤ) (xs ys : List Bool) (v w : ℤ)
    → IsWithLimit problem other i b limit → IsBetter b.order.side limit b.order.price → IsResult problem xs v → accepts xs i ≡ true
    → IsResult other ys w → accepts ys i ≡ true
kept problem other i b limit xs ys v w change better is acc result =
    elim (two_ways (accepts ys i)) as (λ _. accepts ys i ≡ true) [
      | inl on ↦ on
      | inr off ↦
          (let more = eligible_raised problem other i b limit xs v change better is.eligible in
          let was = eligible_without other problem i (with_limit b limit) b.order.price ys w (turned problem other i b limit change) off
          result.eligible in
          let below = rank_under w v more.0 ys xs more.2 (is.others ys w was) in
          let above = result.others xs more.0 more.1 in
          let same = same_rank w ys more.0 xs (result.eligible.as_long ∙ sym is.eligible.as_long) below above in
          ap (λ (us : List Bool). accepts us i) same.0 ∙ acc)
    ]

-- a worse limit, turned round
better_back : (b : Block) (limit : ℤ) → IsWorse b.order.side limit b.order.price
    → IsBetter (with_limit b limit).order.side b.order.price (with_limit b limit).order.price
better_back b limit h = by_side b.order.side limit b.order.price h
  where
    by_side : (side : Side) (limit price : ℤ) → IsWorse side limit price → IsBetter side price limit
    by_side Buy limit price h = h
    by_side Sell limit price h = h

pub unchanged : (problem other : ProblemState) (i : ℕ) (b : Block) (limit : ℤ) (xs : List Bool) (v : ℤ)
    → IsWithLimit problem other i b limit → IsWorse b.order.side limit b.order.price → IsResult problem xs v → accepts xs i ≡ false
    → IsResult other xs v
unchanged problem other i b limit xs v change worse is off = record {
  eligible = eligible_without problem other i b limit xs v change off is.eligible;
  others = λ ys u eligible.
      (let back = turned problem other i b limit change in
      let more = eligible_raised other problem i (with_limit b limit) b.order.price ys u back (better_back b limit worse) eligible in
      rank_lowered u more.0 v ys xs more.2 (is.others ys more.0 more.1));
}
