-- A step that leaves a period: its ladder without it, and the steps that stay on each side.
use Rattle.dam_hour.proofs.Common.{◌≡◌, ℕ, zero, suc, ◌+◌, ◌-◌, ◌*◌, ◌<◌, ◌≤◌, ℤ, pos, neg_ℤ, ◌+ℤ◌, ◌*ℤ◌, ◌≤ℤ◌, Bool, true, false, inl, inr, List, [], ◌∷◌}
use Rattle.dam_hour.proofs.Common.{◌++◌, length, drop, get_or, ap, ◌∙◌, sym, subst, refl, arith, IsNonDecreasingBy, cases_lt, ints, length-map, Side, Buy, Sell}
use Rattle.dam_hour.proofs.Common.{Step, PlacedStep, Rung, greatest_volume, most_steps, greatest_value, AreInRange, volume_on, rank_of, sort_key_of, total}
use Rattle.dam_hour.proofs.Common.{total_value, rungs_from, placed_of, side_total, AreOfSide}
use Rattle.std.proofs.Common.{◌==◌, cond, not, nat_lt, lt-ltb, le-ltb, map}
use Rattle.std.specs.List.{remove, filter}
use Rattle.std.proofs.lemmas.Bool.{eq-eqb, ne_eqb}
use Rattle.std.proofs.lemmas.List.{get_or-map, drop_all}
use Rattle.std.proofs.lemmas.List.Edits.{length-remove}
use Rattle.std.proofs.lemmas.List.Kept.{IsNonDecreasingBy-filter}
use Rattle.std.proofs.lemmas.Nat.{mod-mul-add}
use Rattle.dam_hour.specs.inside.Ladder.{place_of, moved_up, without_step, IsLadder, AreLaddersOf}
use Rattle.dam_hour.proofs.Ladders.{drop_open, rung_pushed, ladder_done, placed_done}

-- ---- places
abbrev key_up : ℕ → ℕ → ℕ
key_up gone sort_key = cond (nat_lt gone (place_of sort_key)) (sort_key - 1) sort_key

place_is : (r n : ℕ) → n < most_steps → place_of (r * most_steps + n) ≡ n
place_is r n l = mod-mul-add r most_steps n l

key_after : (gone sort_key : ℕ) → gone < place_of sort_key → key_up gone sort_key ≡ sort_key - 1
key_after gone sort_key l = ap (λ (b : Bool). cond b (sort_key - 1) sort_key) (lt-ltb gone (place_of sort_key) l)

key_front : (gone sort_key : ℕ) → place_of sort_key ≤ gone → key_up gone sort_key ≡ sort_key
key_front gone sort_key l = ap (λ (b : Bool). cond b (sort_key - 1) sort_key) (le-ltb gone (place_of sort_key) l)

-- none moves by more than one, so the order stays
up_near : (gone sort_key : ℕ) → (key_up gone sort_key ≤ sort_key) × (sort_key ≤ key_up gone sort_key + 1)
up_near gone sort_key = elim (cases_lt gone (place_of sort_key)) [
  | inl less ↦ (let e = key_after gone sort_key less in (omega (arith, e), omega (arith, e)))
  | inr more ↦ (let e = key_front gone sort_key more in (omega (arith, e), omega (arith, e)))
]

up_rises : (gone a b : ℕ) → a ≤ b → key_up gone a ≤ key_up gone b
up_rises gone a b l = elim (cases_lt a b) [
  | inl less ↦ (let m = up_near gone a in let n = up_near gone b in omega (arith, less, m.0, n.1))
  | inr more ↦ (let same : a ≡ b = omega (arith, l, more) in let e = ap (key_up gone) same in omega (arith, e))
]

-- ---- the ladder stays sorted
abbrev stays : ℕ → PlacedStep → Bool
stays gone p = not (place_of p.sort_key == gone)

without_is : (gone : ℕ) (ps : List PlacedStep) → without_step gone ps ≡ map (moved_up gone) (filter (stays gone) ps)
without_is gone [] = refl
without_is gone (p ∷ ps) =
    elim (place_of p.sort_key == gone) as (λ b. cond b (without_step gone ps) (moved_up gone p ∷ without_step gone ps) ≡ map (moved_up gone)
    (cond (not b) (p ∷ filter (stays gone) ps) (filter (stays gone) ps))) [
      | true ↦ without_is gone ps
      | false ↦ ap (λ (qs : List PlacedStep). moved_up gone p ∷ qs) (without_is gone ps)
    ]

sorted_up : (gone : ℕ) (ps : List PlacedStep) → IsNonDecreasingBy (λ (p : PlacedStep). p.sort_key) ps
    → IsNonDecreasingBy (λ (p : PlacedStep). p.sort_key) (map (moved_up gone) ps)
sorted_up gone ps h i j d l m =
    let long = length-map ps (moved_up gone) in
    let a = ap (λ (p : PlacedStep). p.sort_key) (get_or-map (moved_up gone) ps i d d (omega (arith, l, m, long))) in
    let b = ap (λ (p : PlacedStep). p.sort_key) (get_or-map (moved_up gone) ps j d d (omega (arith, m, long))) in
    let rises = up_rises gone (get_or ps i d).sort_key (get_or ps j d).sort_key (h i j d l (omega (arith, m, long))) in
    omega (arith, a, b, rises)

pub sorted_without : (gone : ℕ) (ps : List PlacedStep) → IsNonDecreasingBy (λ (p : PlacedStep). p.sort_key) ps
    → IsNonDecreasingBy (λ (p : PlacedStep). p.sort_key) (without_step gone ps)
sorted_without gone ps h =
    subst (λ (qs : List PlacedStep). IsNonDecreasingBy (λ (p : PlacedStep). p.sort_key) qs) (sym (without_is gone ps))
    (sorted_up gone (filter (stays gone) ps) (IsNonDecreasingBy-filter (λ (p : PlacedStep). p.sort_key) (stays gone) ps h))

pub few_without : (gone : ℕ) (ps : List PlacedStep) → length (without_step gone ps) ≤ length ps
few_without gone [] = omega arith
few_without gone (p ∷ ps) =
    let rest = few_without gone ps in
    elim (place_of p.sort_key == gone) as (λ b. length (cond b (without_step gone ps) (moved_up gone p ∷ without_step gone ps)) ≤ suc
    (length ps)) [
      | true ↦ omega (arith, rest)
      | false ↦ omega (arith, rest)
    ]

-- ---- the steps that stay, for every number that is added up
abbrev part : ℕ → (ℕ → Step → ℕ) → ℕ → Step → ℕ
part gone f sort_key s = cond (place_of sort_key == gone) 0 (f (key_up gone sort_key) s)

total_without : (gone : ℕ) (f : ℕ → Step → ℕ) (ps : List PlacedStep)
    → total (λ p. f p.sort_key p.step) (without_step gone ps) ≡ total (λ p. part gone f p.sort_key p.step) ps
total_without gone f [] = refl
total_without gone f (p ∷ ps) =
    let rest = total_without gone f ps in
    elim (place_of p.sort_key == gone) as (λ b. total (λ q. f q.sort_key q.step)
    (cond b (without_step gone ps) (moved_up gone p ∷ without_step gone ps)) ≡ cond b 0
    (f (key_up gone p.sort_key) p.step) + total (λ q. part gone f q.sort_key q.step) ps) [
      | true ↦ omega (arith, rest)
      | false ↦ omega (arith, rest)
    ]

part_at : (gone r : ℕ) (f : ℕ → Step → ℕ) (s : Step) → gone < most_steps → part gone f (r * most_steps + gone) s ≡ 0
part_at gone r f s l = ap (λ (b : Bool). cond b 0 (f (key_up gone (r * most_steps + gone)) s))
    (eq-eqb (place_of (r * most_steps + gone)) gone (place_is r gone l))

part_front : (gone r n : ℕ) (f : ℕ → Step → ℕ) (s : Step) → n < gone → n < most_steps
    → part gone f (r * most_steps + n) s ≡ f (r * most_steps + n) s
part_front gone r n f s l few =
    let place = place_is r n few in
    ap (λ (b : Bool). cond b 0 (f (key_up gone (r * most_steps + n)) s))
    (ne_eqb (place_of (r * most_steps + n)) gone (λ e. let same = sym place ∙ e in absurd (omega (arith, same, l))))
    ∙ ap (λ (sort_key : ℕ). f sort_key s) (key_front gone (r * most_steps + n) (subst (λ (k : ℕ). k ≤ gone) (sym place) (omega (arith, l))))

part_after : (gone r n : ℕ) (f : ℕ → Step → ℕ) (s : Step) → gone ≤ n → suc n < most_steps
    → part gone f (r * most_steps + suc n) s ≡ f (r * most_steps + n) s
part_after gone r n f s l few =
    let place = place_is r (suc n) few in
    ap (λ (b : Bool). cond b 0 (f (key_up gone (r * most_steps + suc n)) s))
    (ne_eqb (place_of (r * most_steps + suc n)) gone (λ e. let same = sym place ∙ e in absurd (omega (arith, same, l))))
    ∙ ap (λ (sort_key : ℕ). f sort_key s) (key_after gone (r * most_steps + suc n) (subst (λ (k : ℕ). gone < k) (sym place) (omega (arith, l)))
    ∙ (let one : (r * most_steps + suc n) - 1 ≡ r * most_steps + n = omega arith in one))

side_after : (side : Side) (f : ℕ → Step → ℕ) (gone n : ℕ) (ss : List Step) → gone ≤ n → suc n + length ss ≤ most_steps
    → side_total side (part gone f) (suc n) ss ≡ side_total side f n ss
side_after side f gone n [] l few = refl
side_after side f gone n (s ∷ ss) l few =
    let here = part_after gone (rank_of side s.price) n f s l (omega (arith, few)) in
    let rest = side_after side f gone (suc n) ss (omega (arith, l)) (omega (arith, few)) in
    ap (λ (x : ℕ). volume_on side s.side x + side_total side (part gone f) (suc (suc n)) ss) here
    ∙ ap (λ (x : ℕ). volume_on side s.side (f (sort_key_of side s.price n) s) + x) rest

none_on : (side own : Side) → volume_on side own 0 ≡ 0
none_on Buy Buy = refl
none_on Sell Sell = refl
none_on Buy Sell = refl
none_on Sell Buy = refl

side_without : (side : Side) (f : ℕ → Step → ℕ) (gone n k : ℕ) (ss : List Step) → n + k ≡ gone → k < length ss → n + length ss ≤ most_steps
    → side_total side (part gone f) n ss ≡ side_total side f n (remove ss k)
side_without side f gone n k [] e l few = absurd (omega (arith, l))
side_without side f gone n zero (s ∷ ss) e l few =
    let same : n ≡ gone = omega (arith, e) in
    let here = subst (λ (m : ℕ). part gone f (rank_of side s.price * most_steps + m) s ≡ 0) (sym same)
    (part_at gone (rank_of side s.price) f s (omega (arith, same, few))) in
    let rest = side_after side f gone n ss (omega (arith, same)) (omega (arith, few)) in
    let none = none_on side s.side in
    ap (λ (x : ℕ). volume_on side s.side x + side_total side (part gone f) (suc n) ss) here ∙ (omega (arith, none, rest))
side_without side f gone n (suc k) (s ∷ ss) e l few =
    let here = part_front gone (rank_of side s.price) n f s (omega (arith, e)) (omega (arith, few)) in
    let rest = side_without side f gone (suc n) k ss (omega (arith, e)) (omega (arith, l)) (omega (arith, few)) in
    ap (λ (x : ℕ). volume_on side s.side x + side_total side (part gone f) (suc n) ss) here
    ∙ ap (λ (x : ℕ). volume_on side s.side (f (sort_key_of side s.price n) s) + x) rest

of_side_without : (side : Side) (ps : List PlacedStep) (ss : List Step) (gone : ℕ) → AreOfSide side ps ss → length ss ≤ most_steps
    → gone < length ss → AreOfSide side (without_step gone ps) (remove ss gone)
of_side_without side ps ss gone same few l = record {
  sums = λ f. total_without gone f ps ∙ same.sums (part gone f) ∙ side_without side f gone 0 gone ss (omega arith) l (omega (arith, few));
}

in_range_without : (ss : List Step) (k : ℕ) → AreInRange ss → k < length ss → AreInRange (remove ss k)
in_range_without [] k r l = absurd (omega (arith, l))
in_range_without (s ∷ ss) zero r l = r.2
in_range_without (s ∷ ss) (suc k) r l = (r.0, r.1, in_range_without ss k r.2 (omega (arith, l)))

pub kept_without : (ss kept : List Step) (buys sells buys' sells' : List PlacedStep) (gone : ℕ) → AreLaddersOf ss buys sells → gone < length ss
    → kept ≡ remove ss gone → buys' ≡ without_step gone buys → sells' ≡ without_step gone sells → AreLaddersOf kept buys' sells'
kept_without ss kept buys sells buys' sells' gone a l same same_buys same_sells =
    let hour = a.hour in
    let few = hour.few in
    let fewer = length-remove ss gone l in
    let long = ap (λ (ts : List Step). length ts) same in
    record {
      hour = record {
        few = omega (arith, few, fewer, long);
        in_range = subst (λ (ts : List Step). AreInRange ts) (sym same) (in_range_without ss gone hour.in_range l);
      };
      buys_are = subst (λ (ts : List Step). AreOfSide Buy buys' ts) (sym same)
          (subst (λ (ps : List PlacedStep). AreOfSide Buy ps (remove ss gone)) (sym same_buys)
          (of_side_without Buy buys ss gone a.buys_are few l));
      sells_are = subst (λ (ts : List Step). AreOfSide Sell sells' ts) (sym same)
          (subst (λ (ps : List PlacedStep). AreOfSide Sell ps (remove ss gone)) (sym same_sells)
          (of_side_without Sell sells ss gone a.sells_are few l));
    }

-- ---- the rungs, one after another
abbrev pub still : ℕ → ℕ → List Rung → List PlacedStep
still gone i rungs = without_step gone (placed_of (drop i rungs))

still_more : (gone i : ℕ) (rungs : List Rung) (rung : Rung) → i < length rungs → rung ≡ get_or rungs i rung → ¬ (place_of rung.placed.sort_key ≡ gone)
    → still gone i rungs ≡ moved_up gone rung.placed ∷ still gone (i + 1) rungs
still_more gone i rungs rung within is other =
    ap (λ (rs : List Rung). without_step gone (placed_of rs)) (drop_open rungs i rung within is)
    ∙ ap (λ (b : Bool). cond b (still gone (i + 1) rungs) (moved_up gone rung.placed ∷ still gone (i + 1) rungs))
    (ne_eqb (place_of rung.placed.sort_key) gone other)

still_gone : (gone i : ℕ) (rungs : List Rung) (rung : Rung) → i < length rungs → rung ≡ get_or rungs i rung → place_of rung.placed.sort_key ≡ gone
    → still gone i rungs ≡ still gone (i + 1) rungs
still_gone gone i rungs rung within is same =
    ap (λ (rs : List Rung). without_step gone (placed_of rs)) (drop_open rungs i rung within is)
    ∙ ap (λ (b : Bool). cond b (still gone (i + 1) rungs) (moved_up gone rung.placed ∷ still gone (i + 1) rungs))
    (eq-eqb (place_of rung.placed.sort_key) gone same)

-- the first rungs, as many as that, as they are made
pub record AreUpTo (gone i : ℕ) (old rungs : List Rung) (v : ℕ) (w : ℤ) : Type 0 where
  pub rungs_are : rungs ++ rungs_from v w (still gone i old) ≡ rungs_from 0 (pos 0) (without_step gone (placed_of old))
  pub volume_is : v + total (λ p. p.step.qty) (still gone i old) ≡ total (λ p. p.step.qty) (without_step gone (placed_of old))
  pub value_is : w +ℤ total_value (still gone i old) ≡ total_value (without_step gone (placed_of old))
  pub volume_small : v ≤ i * greatest_volume
  pub value_at_least : neg_ℤ (pos (i * greatest_value)) ≤ℤ w
  pub value_at_most : w ≤ℤ pos (i * greatest_value)

pub up_to_none : (gone : ℕ) (old rungs : List Rung) → rungs ≡ [] → AreUpTo gone 0 old rungs 0 (pos 0)
up_to_none gone old rungs none = record {
  rungs_are = ap (λ (rs : List Rung). rs ++ rungs_from 0 (pos 0) (still gone 0 old)) none
      ∙ ap (λ (rs : List Rung). rungs_from 0 (pos 0) (without_step gone (placed_of rs))) (drop_none old);
  volume_is = ap (λ (rs : List Rung). 0 + total (λ p. p.step.qty) (without_step gone (placed_of rs))) (drop_none old) ∙ (omega arith);
  value_is = let e = ap (λ (rs : List Rung). total_value (without_step gone (placed_of rs))) (drop_none old) in omega (arith, ints, e);
  volume_small = omega arith;
  value_at_least = omega (arith, ints);
  value_at_most = omega (arith, ints);
}
  where
    drop_none : (rs : List Rung) → drop 0 rs ≡ rs
    drop_none [] = refl
    drop_none (r ∷ rs) = refl

pub up_to_kept : (gone i : ℕ) (old rungs pushed : List Rung) (rung : Rung) (p : PlacedStep) (v v' q : ℕ) (w w' z : ℤ)
    → AreUpTo gone i old rungs v w
    → i < length old → rung ≡ get_or old i rung
    → ¬ (place_of rung.placed.sort_key ≡ gone) → p ≡ moved_up gone rung.placed
    → pushed ≡ rungs ++ record { placed = p; before = record { volume = v; value = w } } ∷ []
    → q ≡ rung.placed.step.qty → q ≤ greatest_volume → v' ≡ v + q
    → z ≡ rung.placed.step.price *ℤ pos rung.placed.step.qty → neg_ℤ (pos greatest_value) ≤ℤ z → z ≤ℤ pos greatest_value → w' ≡ w +ℤ z
    → AreUpTo gone (i + 1) old pushed v' w'
up_to_kept gone i old rungs pushed rung p v v' q w w' z a within is other made push own small sum own_value least most value_sum =
    let push' = push ∙ ap (λ (m : PlacedStep). rungs ++ record { placed = m; before = record { volume = v; value = w } } ∷ []) made in
    let volume = sum ∙ ap (λ (n : ℕ). v + n) own in
    let value = value_sum ∙ ap (λ (y : ℤ). w +ℤ y) own_value in
    let stays = still_more gone i old rung within is other in
    let total_at = ap (λ (ps : List PlacedStep). total (λ p. p.step.qty) ps) stays in
    let value_at = ap (λ (ps : List PlacedStep). total_value ps) stays in
    let total_was = a.volume_is in let value_was = a.value_is in
    let small_was = a.volume_small in let least_was = a.value_at_least in let most_was = a.value_at_most in
    record {
      rungs_are = rung_pushed (moved_up gone rung.placed) (still gone i old) (still gone (i + 1) old) rungs pushed
          (rungs_from 0 (pos 0) (without_step gone (placed_of old))) v v' w w' stays push' volume value a.rungs_are;
      volume_is = omega (arith, volume, total_at, total_was);
      value_is = omega (arith, ints, value, value_at, value_was);
      volume_small = omega (arith, sum, small, small_was);
      value_at_least = omega (arith, ints, value_sum, least, least_was);
      value_at_most = omega (arith, ints, value_sum, most, most_was);
    }

pub up_to_gone : (gone i : ℕ) (old rungs : List Rung) (rung : Rung) (v : ℕ) (w : ℤ) → AreUpTo gone i old rungs v w → i < length old
    → rung ≡ get_or old i rung
    → place_of rung.placed.sort_key ≡ gone → AreUpTo gone (i + 1) old rungs v w
up_to_gone gone i old rungs rung v w a within is same =
    let leaves = still_gone gone i old rung within is same in
    let total_at = ap (λ (ps : List PlacedStep). total (λ p. p.step.qty) ps) leaves in
    let value_at = ap (λ (ps : List PlacedStep). total_value ps) leaves in
    let total_was = a.volume_is in let value_was = a.value_is in
    let small_was = a.volume_small in let least_was = a.value_at_least in let most_was = a.value_at_most in
    record {
      rungs_are = ap (λ (ps : List PlacedStep). rungs ++ rungs_from v w ps) (sym leaves) ∙ a.rungs_are;
      volume_is = omega (arith, total_at, total_was);
      value_is = omega (arith, ints, value_at, value_was);
      volume_small = omega (arith, small_was);
      value_at_least = omega (arith, ints, least_was);
      value_at_most = omega (arith, ints, most_was);
    }

-- when all rungs were gone through
pub up_to_all : (gone i : ℕ) (old rungs : List Rung) (v : ℕ) (w : ℤ) → AreUpTo gone i old rungs v w → length old ≤ i
    → IsNonDecreasingBy (λ (p : PlacedStep). p.sort_key) (placed_of old) → length old ≤ most_steps
    → IsLadder rungs (record { volume = v; value = w }) × (placed_of rungs ≡ without_step gone (placed_of old))
up_to_all gone i old rungs v w a done sorted few =
    let ps = without_step gone (placed_of old) in
    let none : still gone i old ≡ [] = ap (λ (rs : List Rung). without_step gone (placed_of rs)) (drop_all i old done) in
    let was = length-map old (λ (r : Rung). r.placed) in
    let fewer = few_without gone (placed_of old) in (
      ladder_done ps (still gone i old) rungs v w none a.rungs_are a.volume_is a.value_is (sorted_without gone (placed_of old) sorted)
          (omega (arith, few, was, fewer)),
      placed_done ps (still gone i old) rungs v w none a.rungs_are,
    )
