-- The steps of a ladder one by one: the volumes at a step's own limit, and the volume before a place.
use Rattle.dam_hour.proofs.Common.{◌≡◌, ℕ, zero, suc, ◌+◌, ◌-◌, ◌*◌, ◌<◌, ◌≤◌, ℤ, pos, negsuc, ◌+ℤ◌, ◌-ℤ◌, ◌*ℤ◌, ◌≤ℤ◌, ◌<ℤ◌, true, false, Some, ◌⊎◌, inl, inr}
use Rattle.dam_hour.proofs.Common.{List, [], ◌∷◌, length, take, get_or, ap, ◌∙◌, sym, subst, refl, arith, slice_get, IsNonDecreasingBy, ltb, cases_lt, ints}
use Rattle.dam_hour.proofs.Common.{by_lt_z, lowest_price, highest_price, greatest_volume, IsPrice, Side, Buy, Sell, Step, PlacedStep, most_steps, AreInRange}
use Rattle.dam_hour.proofs.Common.{volume_on, offered_volume, if_better, better_volume, at_volume, rank_of, sort_key_of, total, rungs_from, placed_of}
use Rattle.dam_hour.proofs.Common.{side_total, AreOfSide, IsLimitOfSell, Rung}
use Rattle.std.specs.List.Sorted.{IsPartitionPoint}
use Rattle.std.proofs.lemmas.Bool.{ltb-true, ltb-false}
use Rattle.std.proofs.lemmas.List.{take_all}
use Rattle.std.proofs.lemmas.Option.{get_or_from_slice_get, slice_get_within}
use Rattle.dam_hour.specs.Execution.{IsHour}
use Rattle.dam_hour.specs.inside.Ladder.{IsRung}
use Rattle.dam_hour.specs.inside.Edge.{not_worse_volume, IsServed}
use Rattle.dam_hour.proofs.Ladders.{counted, counted_before, counted_after, front_of_place, none_in_front, offered_total}
use Rattle.dam_hour.proofs.Positions.{offered_small}
use Rattle.dam_hour.proofs.Edges.{not_worse_offered}

-- the volume of the first steps, as many as that
abbrev pub volume_to : ℕ → List PlacedStep → ℕ
volume_to k ps = total (λ p. p.step.qty) (take k ps)

-- ---- a fact of each step of the side is a fact of each placed one
nothing_on : (side own : Side) (x : ℕ) → x ≡ 0 → volume_on side own x ≡ 0
nothing_on Buy Buy x e = e
nothing_on Sell Sell x e = e
nothing_on Buy Sell x e = refl
nothing_on Sell Buy x e = refl

-- how far a sort key is from those that the step's limit allows, and how far the volume is from one at least
abbrev astray : Side → ℕ → Step → ℕ
astray side sort_key s = (rank_of side s.price * most_steps - sort_key) + (suc sort_key - (rank_of side s.price * most_steps + most_steps))
    + (1 - s.qty)

none_astray : (side : Side) (n : ℕ) (ss : List Step) → AreInRange ss → n + length ss ≤ most_steps → side_total side (astray side) n ss ≡ 0
none_astray side n [] r few = refl
none_astray side n (s ∷ ss) r few =
    let least = r.1.at_least in
    let here = nothing_on side s.side (astray side (sort_key_of side s.price n) s) (omega (arith, few, least)) in
    let rest = none_astray side (suc n) ss r.2 (omega (arith, few)) in
    omega (arith, here, rest)

each_zero : (f : PlacedStep → ℕ) (ps : List PlacedStep) (k : ℕ) (p : PlacedStep) → total f ps ≡ 0 → slice_get ps k ≡ Some p → f p ≡ 0
each_zero f [] k p z e = cc
each_zero f (q ∷ qs) zero p z e = let same : q ≡ p = cc in let here = ap f same in omega (arith, here, z)
each_zero f (q ∷ qs) (suc k) p z e = each_zero f qs k p (omega (arith, z)) e

pub not_astray : (side : Side) (ps : List PlacedStep) (ss : List Step) (k : ℕ) (p : PlacedStep) → AreOfSide side ps ss → IsHour ss
    → slice_get ps k ≡ Some p
    → (sort_key_of side p.step.price 0 ≤ p.sort_key) × (p.sort_key < sort_key_of side p.step.price most_steps) × (1 ≤ p.step.qty)
not_astray side ps ss k p same hour e =
    let few = hour.few in
    let none = each_zero (λ q. astray side q.sort_key q.step) ps k p (same.sums (astray side)
    ∙ none_astray side 0 ss hour.in_range (omega (arith, few))) e in
    (omega (arith, none), omega (arith, none), omega (arith, none))

-- ---- a cut at a sort key, from both sides
counted_at_most : (limit sort_key q : ℕ) → counted limit sort_key q ≤ q
counted_at_most limit sort_key q = at_most (pos limit -ℤ pos sort_key)
  where
    at_most : (z : ℤ) → if_better z q ≤ q
    at_most (pos zero) = omega arith
    at_most (pos (suc n)) = omega arith
    at_most (negsuc n) = omega arith

-- the steps before the limit are no more than the first k, if no later one is
counted_under : (limit k : ℕ) (ps : List PlacedStep) → ((i : ℕ) (d : PlacedStep) → k ≤ i → i < length ps → limit ≤ (get_or ps i d).sort_key)
    → total (λ q. counted limit q.sort_key q.step.qty) ps ≤ volume_to k ps
counted_under limit zero [] h = omega arith
counted_under limit (suc k) [] h = omega arith
counted_under limit zero (p ∷ ps) h =
    let here = counted_after limit p.sort_key p.step.qty (h 0 p (omega arith) (omega arith)) in
    let rest = counted_under limit zero ps (λ i d l m. h (suc i) d (omega arith) (omega (arith, m))) in
    omega (arith, here, rest)
counted_under limit (suc k) (p ∷ ps) h =
    let here = counted_at_most limit p.sort_key p.step.qty in
    let rest = counted_under limit k ps (λ i d l m. h (suc i) d (omega (arith, l)) (omega (arith, m))) in
    omega (arith, here, rest)

-- and no less, if each of them does
counted_over : (limit k : ℕ) (ps : List PlacedStep) → ((i : ℕ) (d : PlacedStep) → i < k → i < length ps → (get_or ps i d).sort_key < limit)
    → volume_to k ps ≤ total (λ q. counted limit q.sort_key q.step.qty) ps
counted_over limit zero [] h = omega arith
counted_over limit (suc k) [] h = omega arith
counted_over limit zero (p ∷ ps) h = omega arith
counted_over limit (suc k) (p ∷ ps) h =
    let here = counted_before limit p.sort_key p.step.qty (h 0 p (omega arith) (omega arith)) in
    let rest = counted_over limit k ps (λ i d l m. h (suc i) d (omega (arith, l)) (omega (arith, m))) in
    omega (arith, here, rest)

-- ---- at a step's own limit
pub better_before : (side : Side) (ps : List PlacedStep) (ss : List Step) (k : ℕ) (p : PlacedStep) → AreOfSide side ps ss → IsHour ss
    → IsNonDecreasingBy (λ q. q.sort_key) ps
    → slice_get ps k ≡ Some p → IsPrice p.step.price → better_volume side p.step.price ss ≤ volume_to k ps
better_before side ps ss k p same hour sorted e in_range =
    let few = hour.few in
    let own = (not_astray side ps ss k p same hour e).0 in
    let all = same.sums (λ sort_key s. counted (sort_key_of side p.step.price 0) sort_key s.qty)
    ∙ front_of_place side p.step.price 0 0 0 ss in_range hour.in_range refl (omega arith) (omega (arith, few))
    ∙ none_in_front side p.step.price ss in
    let under = counted_under (sort_key_of side p.step.price 0) k ps
    (λ i d l m. (let at = ap (λ (q : PlacedStep). q.sort_key) (get_or_from_slice_get ps k p d e) in let sort_key = sorted k i d l m in
    omega (arith, own, at, sort_key))) in
    omega (arith, all, under)

pub not_worse_with : (side : Side) (ps : List PlacedStep) (ss : List Step) (k : ℕ) (p : PlacedStep) → AreOfSide side ps ss → IsHour ss
    → IsNonDecreasingBy (λ q. q.sort_key) ps
    → slice_get ps k ≡ Some p → IsPrice p.step.price → volume_to (suc k) ps ≤ not_worse_volume side p.step.price ss
not_worse_with side ps ss k p same hour sorted e in_range =
    let few = hour.few in
    let own = (not_astray side ps ss k p same hour e).1 in
    let whole = ap (λ (ts : List Step). better_volume side p.step.price ss + at_volume side p.step.price ts) (take_all most_steps ss few) in
    let all = same.sums (λ sort_key s. counted (sort_key_of side p.step.price most_steps) sort_key s.qty)
    ∙ front_of_place side p.step.price most_steps 0 most_steps ss in_range hour.in_range refl (omega arith) (omega (arith, few)) ∙ whole in
    let within = slice_get_within ps k p e in
    let over = counted_over (sort_key_of side p.step.price most_steps) (suc k) ps
    (λ i d l m. (let at = ap (λ (q : PlacedStep). q.sort_key) (get_or_from_slice_get ps k p d e) in
    let sort_key = sorted i k d (omega (arith, l)) within in omega (arith, own, at, sort_key))) in
    omega (arith, all, over)

-- one step more
pub volume_more : (ps : List PlacedStep) (k : ℕ) (p : PlacedStep) → slice_get ps k ≡ Some p → volume_to (suc k) ps ≡ volume_to k ps + p.step.qty
volume_more [] k p e = cc
volume_more (q ∷ qs) zero p e = let same : q ≡ p = cc in let here = ap (λ (r : PlacedStep). r.step.qty) same in omega (arith, here)
volume_more (q ∷ qs) (suc k) p e = let rest = volume_more qs k p e in omega (arith, rest)

volume_none : (ps : List PlacedStep) → volume_to 0 ps ≡ 0
volume_none [] = refl
volume_none (p ∷ ps) = refl

pub volume_rises : (ps : List PlacedStep) (j k : ℕ) → j ≤ k → volume_to j ps ≤ volume_to k ps
volume_rises [] zero k l = omega arith
volume_rises [] (suc j) k l = omega arith
volume_rises (p ∷ ps) zero k l = omega arith
volume_rises (p ∷ ps) (suc j) zero l = absurd (omega (arith, l))
volume_rises (p ∷ ps) (suc j) (suc k) l = let rest = volume_rises ps j k (omega (arith, l)) in omega (arith, rest)

pub volume_whole : (side : Side) (ps : List PlacedStep) (ss : List Step) → AreOfSide side ps ss
    → volume_to (length ps) ps ≡ offered_volume side ss
volume_whole side ps ss same =
    ap (λ (qs : List PlacedStep). total (λ p. p.step.qty) qs) (take_all (length ps) ps (omega arith)) ∙ same.sums (λ sort_key s. s.qty)
    ∙ offered_total side 0 ss

-- ---- the rungs of a ladder
pub rung_better : (side : Side) (ps : List PlacedStep) (ss : List Step) (k : ℕ) (limit : ℤ) → AreOfSide side ps ss → IsHour ss
    → IsRung ps k limit → better_volume side limit ss ≤ volume_to k ps
rung_better side ps ss k limit same hour r =
    subst (λ (p : ℤ). better_volume side p ss ≤ volume_to k ps) (sym r.limit_is)
    (better_before side ps ss k r.placed same hour r.sorted r.at (subst (λ (p : ℤ). IsPrice p) r.limit_is r.in_range))

pub rung_not_worse : (side : Side) (ps : List PlacedStep) (ss : List Step) (k : ℕ) (limit : ℤ) → AreOfSide side ps ss → IsHour ss
    → IsRung ps k limit → volume_to (suc k) ps ≤ not_worse_volume side limit ss
rung_not_worse side ps ss k limit same hour r =
    subst (λ (p : ℤ). volume_to (suc k) ps ≤ not_worse_volume side p ss) (sym r.limit_is)
    (not_worse_with side ps ss k r.placed same hour r.sorted r.at (subst (λ (p : ℤ). IsPrice p) r.limit_is r.in_range))

pub rung_more : (side : Side) (ps : List PlacedStep) (ss : List Step) (k : ℕ) (limit : ℤ) → AreOfSide side ps ss → IsHour ss → IsRung ps k limit
    → volume_to k ps < volume_to (suc k) ps
rung_more side ps ss k limit same hour r =
    let own = (not_astray side ps ss k r.placed same hour r.at).2 in
    let more = volume_more ps k r.placed r.at in
    omega (arith, own, more)

-- ---- the bisection over the buys: those before the one place are served, and those from the other one on are not
pub record AreAround (ss : List Step) (ps : List PlacedStep) (net last next : ℤ) (from to : ℕ) : Type 0 where
  pub last_in_range : IsPrice last
  pub next_in_range : IsPrice next
  pub whole : volume_to from ps ≤ not_worse_volume Buy last ss
  pub rest : better_volume Buy next ss ≤ volume_to to ps
  pub served : (last ≡ highest_price) ⊎ IsServed ss net last (better_volume Buy last ss)
  pub unserved : ((next ≡ lowest_price) × (volume_to to ps ≡ offered_volume Buy ss))
      ⊎ (((pos (not_worse_volume Sell next ss) +ℤ net) ≤ℤ pos (volume_to to ps)) × (volume_to to ps < not_worse_volume Buy next ss))

pub around_all : (ss : List Step) (ps : List PlacedStep) (net last next : ℤ) (n : ℕ) → AreOfSide Buy ps ss → last ≡ highest_price
    → next ≡ lowest_price → n ≡ length ps → AreAround ss ps net last next 0 n
around_all ss ps net last next n same l m e =
    let all = subst (λ (k : ℕ). volume_to k ps ≡ offered_volume Buy ss) (sym e) (volume_whole Buy ps ss same) in
    let offered = not_worse_offered Buy next ss in
    let none = volume_none ps in
    record {
      last_in_range = record { at_least = omega (arith, ints, l); at_most = omega (arith, ints, l) };
      next_in_range = record { at_least = omega (arith, ints, m); at_most = omega (arith, ints, m) };
      whole = omega (arith, none);
      rest = omega (arith, all, offered);
      served = inl l;
      unserved = inl (m, all);
    }

pub around_served : (ss : List Step) (ps : List PlacedStep) (net last next limit : ℤ) (from to k n before : ℕ) → AreOfSide Buy ps ss → IsHour ss
    → IsRung ps k limit → before ≡ volume_to k ps
    → n ≡ suc k → IsServed ss net limit before → AreAround ss ps net last next from to → AreAround ss ps net limit next n to
around_served ss ps net last next limit from to k n before same hour r b e served a =
    let better = rung_better Buy ps ss k limit same hour r in
    let left = served.left in
    record {
      last_in_range = r.in_range;
      next_in_range = a.next_in_range;
      whole = subst (λ (m : ℕ). volume_to m ps ≤ not_worse_volume Buy limit ss) (sym e) (rung_not_worse Buy ps ss k limit same hour r);
      rest = a.rest;
      served = inr (record { left = omega (arith, ints, better, left, b) });
      unserved = a.unserved;
    }

pub around_unserved : (ss : List Step) (ps : List PlacedStep) (net last next limit : ℤ) (from to k before : ℕ) → AreOfSide Buy ps ss → IsHour ss
    → IsRung ps k limit → before ≡ volume_to k ps
    → ¬ (IsServed ss net limit before) → AreAround ss ps net last next from to → AreAround ss ps net last limit from k
around_unserved ss ps net last next limit from to k before same hour r b unserved a =
    let better = rung_better Buy ps ss k limit same hour r in
    let with_own = rung_not_worse Buy ps ss k limit same hour r in
    let more = rung_more Buy ps ss k limit same hour r in
    let short : (pos (not_worse_volume Sell limit ss) +ℤ net) ≤ℤ pos before =
    by_lt_z (pos before) (pos (not_worse_volume Sell limit ss) +ℤ net) (λ less. absurd (unserved (record { left = less })))
    (λ le. le) in
    record {
      last_in_range = a.last_in_range;
      next_in_range = r.in_range;
      whole = a.whole;
      rest = better;
      served = a.served;
      unserved = inr (omega (arith, ints, short, b), omega (arith, more, with_own));
    }

-- ---- the step that holds a unit
rung_volume : (v : ℕ) (w : ℤ) (ps : List PlacedStep) (i : ℕ) (d : Rung) → i < length ps
    → (get_or (rungs_from v w ps) i d).before.volume ≡ v + volume_to i ps
rung_volume v w [] i d l = absurd (omega (arith, l))
rung_volume v w (p ∷ ps) zero d l = omega arith
rung_volume v w (p ∷ ps) (suc i) d l =
    let rest = rung_volume (v + p.step.qty) (w +ℤ p.step.price *ℤ pos p.step.qty) ps i d (omega (arith, l)) in omega (arith, rest)

rungs_long : (v : ℕ) (w : ℤ) (ps : List PlacedStep) → length (rungs_from v w ps) ≡ length ps
rungs_long v w [] = refl
rungs_long v w (p ∷ ps) = let rest = rungs_long (v + p.step.qty) (w +ℤ p.step.price *ℤ pos p.step.qty) ps in omega (arith, rest)

pub rungs_rise : (rungs : List Rung) (ps : List PlacedStep) → rungs ≡ rungs_from 0 (pos 0) ps
    → IsNonDecreasingBy (λ (r : Rung). r.before.volume) rungs
rungs_rise rungs ps e i j d l m =
    let long = ap length e ∙ rungs_long 0 (pos 0) ps in
    let at_i = ap (λ (rs : List Rung). (get_or rs i d).before.volume) e ∙ rung_volume 0 (pos 0) ps i d (omega (arith, long, l, m)) in
    let at_j = ap (λ (rs : List Rung). (get_or rs j d).before.volume) e ∙ rung_volume 0 (pos 0) ps j d (omega (arith, long, m)) in
    let rises = volume_rises ps i j l in
    omega (arith, at_i, at_j, rises)

pub some_under : (rungs : List Rung) (ps : List PlacedStep) (unit k : ℕ) → rungs ≡ rungs_from 0 (pos 0) ps
    → IsPartitionPoint (λ (r : Rung). ltb r.before.volume unit ≡ true) (λ (r : Rung). ltb r.before.volume unit ≡ false) rungs k
    → 1 ≤ unit → unit ≤ total (λ p. p.step.qty) ps → 1 ≤ k
some_under rungs [] unit k e point first last = absurd (omega (arith, first, last))
some_under rungs (p ∷ ps) unit (suc j) e point first last = omega arith
some_under rungs (p ∷ ps) unit zero e point first last =
    let d : Rung = record { placed = p; before = record { volume = 0; value = pos 0 } } in
    let long = ap length e ∙ rungs_long 0 (pos 0) (p ∷ ps) in
    let later = ltb-false _ _ (point.1 0 d (omega arith) (omega (arith, long))) in
    let none = ap (λ (rs : List Rung). (get_or rs 0 d).before.volume) e in
    absurd (omega (arith, later, none, first))

pub holds_unit : (rungs : List Rung) (ps : List PlacedStep) (unit n k : ℕ) → rungs ≡ rungs_from 0 (pos 0) ps → k ≤ length rungs → k ≡ suc n
    → IsPartitionPoint (λ (r : Rung). ltb r.before.volume unit ≡ true) (λ (r : Rung). ltb r.before.volume unit ≡ false) rungs k
    → unit ≤ total (λ p. p.step.qty) ps → (n < length ps) × (volume_to n ps < unit) × (unit ≤ volume_to (suc n) ps)
holds_unit rungs [] unit n k e h s point last = let long = ap length e in absurd (omega (arith, h, s, long))
holds_unit rungs (p ∷ ps) unit n k e h s point last =
    let d : Rung = record { placed = p; before = record { volume = 0; value = pos 0 } } in
    let long = ap length e ∙ rungs_long 0 (pos 0) (p ∷ ps) in
    let front = ltb-true _ _ (point.0 n d (omega (arith, s)) (omega (arith, h, s))) in
    let at_n = ap (λ (rs : List Rung). (get_or rs n d).before.volume) e ∙ rung_volume 0 (pos 0) (p ∷ ps) n d (omega (arith, long, h, s)) in (
      omega (arith, long, h, s),
      omega (arith, front, at_n),
      elim (cases_lt (suc n) (length rungs)) [
        | inl less ↦
            (let later = ltb-false _ _ (point.1 (suc n) d (omega (arith, s)) less) in
            let at_next = ap (λ (rs : List Rung). (get_or rs (suc n) d).before.volume) e
            ∙ rung_volume 0 (pos 0) (p ∷ ps) (suc n) d (omega (arith, long, less)) in
            omega (arith, later, at_next))
        | inr more ↦
            (let whole = ap (λ (qs : List PlacedStep). total (λ q. q.step.qty) qs) (take_all (suc n) (p ∷ ps) (omega (arith, long, more))) in
            omega (arith, whole, last))
      ],
    )

pub placed_at : (rungs : List Rung) (k : ℕ) (rung : Rung) → slice_get rungs k ≡ Some rung → slice_get (placed_of rungs) k ≡ Some rung.placed
placed_at [] k rung e = cc
placed_at (r ∷ rungs) zero rung e = let same : r ≡ rung = cc in ap (λ (q : Rung). Some q.placed) same
placed_at (r ∷ rungs) (suc k) rung e = placed_at rungs k rung e

pub volume_small : (side : Side) (ps : List PlacedStep) (ss : List Step) (k : ℕ) → AreOfSide side ps ss → IsHour ss → k ≤ length ps
    → volume_to k ps ≤ most_steps * greatest_volume
volume_small side ps ss k same hour l =
    let rises = volume_rises ps k (length ps) l in
    let whole = volume_whole side ps ss same in
    let small = offered_small side ss hour.in_range in
    let few = hour.few in
    omega (arith, rises, whole, small, few)

pub limit_past_all : (ss : List Step) (unit limit : ℤ) (all : ℕ) → limit ≡ highest_price → all ≡ offered_volume Sell ss → pos all <ℤ unit
    → IsLimitOfSell ss unit limit
limit_past_all ss unit limit all e a past =
    let offered = not_worse_offered Sell limit ss in
    record {
      in_range = record { at_least = omega (arith, ints, e); at_most = omega (arith, ints, e) };
      under = inr (omega (arith, ints, offered, a, past));
      up_to = inl e;
    }

pub limit_of_rung : (ps : List PlacedStep) (ss : List Step) (unit limit : ℤ) (k : ℕ) → AreOfSide Sell ps ss → IsHour ss → IsRung ps k limit
    → pos (volume_to k ps) <ℤ unit → unit ≤ℤ pos (volume_to (suc k) ps) → IsLimitOfSell ss unit limit
limit_of_rung ps ss unit limit k same hour r under up_to =
    let better = rung_better Sell ps ss k limit same hour r in
    let with_own = rung_not_worse Sell ps ss k limit same hour r in
    record {
      in_range = r.in_range;
      under = inr (omega (arith, ints, better, under));
      up_to = inr (omega (arith, ints, with_own, up_to));
    }
