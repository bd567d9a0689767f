-- Every list of acceptances is just one of the numbered choices.
use Rattle.dam_blocks.proofs.Common.{◌≡◌, ℕ, zero, suc, ◌+◌, ◌-◌, ◌*◌, ◌%◌, ◌^◌, ◌<◌, ◌≤◌, ℤ, Bool, true, false, cond, nat_lt, inl, inr, List, [], ◌∷◌, ◌++◌}
use Rattle.dam_blocks.proofs.Common.{length, replicate, take, drop, append_assoc, length-append, ap, ap₂, ◌∙◌, sym, subst, refl, arith, nat_tests, most_blocks}
use Rattle.dam_blocks.proofs.Common.{cases_lt, slice_get_within, ProblemState, IsProblem, accepts, padded, choice, IsAdmissible, IsEligible, RanksAtOrBelow}
use Rattle.dam_blocks.proofs.Common.{IsResult}
use Rattle.std.proofs.lemmas.List.{get_or-drop, length-drop, length-take-le, take-append-drop}
use Rattle.std.proofs.Math.ListN.{set}
use Rattle.std.proofs.Math.Nat.{two-pow-succ, mod-eq_of_lt}
use Rattle.std.proofs.lemmas.Nat.{pow_pos, pow_below}
use Rattle.dam_blocks.proofs.Ranks.{ranks_trans}

lt_true : (a b : ℕ) → a < b → nat_lt a b ≡ true
lt_true a b h = grind (arith, nat_tests)

lt_false : (a b : ℕ) → b ≤ a → nat_lt a b ≡ false
lt_false a b h = grind (arith, nat_tests)

pub length-choice : (n k : ℕ) → length (choice n k) ≡ n
length-choice zero k = refl
length-choice (suc n) k =
    elim (nat_lt k (2 ^ n)) as (λ b. length (cond b (true ∷ choice n k) (false ∷ choice n (k - 2 ^ n))) ≡ suc n) [
      | true ↦ ap suc (length-choice n k)
      | false ↦ ap suc (length-choice n (k - 2 ^ n))
    ]

-- the number of the choice that the list is
number_of : List Bool → ℕ
number_of [] = 0
number_of (true ∷ xs) = number_of xs
number_of (false ∷ xs) = 2 ^ length xs + number_of xs

number_of-small : (xs : List Bool) → number_of xs < 2 ^ length xs
unfolding number_of
number_of-small [] = omega arith
number_of-small (true ∷ xs) = let rest = number_of-small xs in omega (arith, rest, two-pow-succ (length xs))
number_of-small (false ∷ xs) = let rest = number_of-small xs in omega (arith, rest, two-pow-succ (length xs))

minus_same : (a b : ℕ) → (a + b) - a ≡ b
minus_same a b = omega arith

choice-number_of : (xs : List Bool) → choice (length xs) (number_of xs) ≡ xs
unfolding number_of
choice-number_of [] = refl
choice-number_of (true ∷ xs) =
    let low = lt_true (number_of xs) (2 ^ length xs) (number_of-small xs) in
    rw low (ap (λ (ys : List Bool). true ∷ ys) (choice-number_of xs))
choice-number_of (false ∷ xs) =
    let high = lt_false (2 ^ length xs + number_of xs) (2 ^ length xs) (omega arith) in
    rw (high, minus_same (2 ^ length xs) (number_of xs)) (ap (λ (ys : List Bool). false ∷ ys) (choice-number_of xs))

number_of-choice : (n k : ℕ) → k < 2 ^ n → number_of (choice n k) ≡ k
unfolding number_of
number_of-choice zero k h = omega arith
number_of-choice (suc n) k h =
    elim (nat_lt k (2 ^ n)) as (λ b. nat_lt k (2 ^ n) ≡ b → number_of (cond b (true ∷ choice n k) (false ∷ choice n (k - 2 ^ n))) ≡ k) [
      | true ↦ λ e. number_of-choice n k (grind (arith, nat_tests))
      | false ↦ λ e.
          (let high : 2 ^ n ≤ k = grind (arith, nat_tests) in
          let rest = number_of-choice n (k - 2 ^ n) (omega (arith, two-pow-succ n)) in
          let long = ap (λ (m : ℕ). 2 ^ m) (length-choice n (k - 2 ^ n)) in
          omega (arith, rest, long, high))
    ] refl

-- each list is a choice ..
pub some_choice : (xs : List Bool) → (k : ℕ) × (k < 2 ^ length xs) × (choice (length xs) k ≡ xs)
some_choice xs = (number_of xs, number_of-small xs, choice-number_of xs)

-- .. and of one number
pub choice_once : (n j k : ℕ) → j < 2 ^ n → k < 2 ^ n → choice n j ≡ choice n k → j ≡ k
choice_once n j k l m e = sym (number_of-choice n j l) ∙ ap number_of e ∙ number_of-choice n k m

-- a selection that accepts nothing
none_accepted : (ys : List Bool) → ((i : ℕ) → accepts ys i ≡ true → ⊥) → ys ≡ replicate (length ys) false
none_accepted [] h = refl
none_accepted (true ∷ ys) h = absurd (h 0 refl)
none_accepted (false ∷ ys) h = ap (λ (zs : List Bool). false ∷ zs) (none_accepted ys (λ i e. h (suc i) e))

pub accepts-replicate : (n i : ℕ) → accepts (replicate n false) i ≡ true → ⊥
accepts-replicate zero i e = absurd (cc)
accepts-replicate (suc n) zero e = absurd (cc)
accepts-replicate (suc n) (suc i) e = accepts-replicate n i e

-- a selection that accepts only the first n places is a choice over them
pub padded_choice : (n : ℕ) (sel : List Bool) → n ≤ most_blocks → length sel ≡ most_blocks → ((i : ℕ) → accepts sel i ≡ true → i < n)
    → (k : ℕ) × (k < 2 ^ n) × (padded (choice n k) ≡ sel)
padded_choice n sel few long only =
    let front : length (take n sel) ≡ n = length-take-le n sel (omega arith) in
    let found = some_choice (take n sel) in
    let is : choice n found.0 ≡ take n sel = subst (λ (m : ℕ). choice m found.0 ≡ take n sel) front found.2 in
    let back = none_accepted (drop n sel) (λ i e. (let at = only (n + i) (sym (get_or-drop n sel i false) ∙ e) in
    absurd (omega (arith, at)))) in
    let left : length (drop n sel) ≡ most_blocks - length (choice n found.0) =
    omega (arith, length-drop n sel, length-choice n found.0) in (
      found.0,
      subst (λ (m : ℕ). found.0 < 2 ^ m) front found.1,
      ap₂ (λ (x y : List Bool). x ++ y) is (ap (λ (m : ℕ). replicate m false) (sym left) ∙ sym back) ∙ take-append-drop n sel,
    )

pub admissible_choice : (problem : ProblemState) (sel : List Bool) → IsProblem problem → length sel ≡ most_blocks
    → IsAdmissible problem.blocks sel
    → (k : ℕ) × (k < 2 ^ length problem.blocks) × (padded (choice (length problem.blocks) k) ≡ sel)
admissible_choice problem sel is long admissible =
    padded_choice (length problem.blocks) sel is.few_blocks long
    (λ i e. (let allowed = admissible.each i e in slice_get_within problem.blocks i allowed.block allowed.stands))

-- ---- a choice made place by place
-- the places so far, and the rest of the number, make the choice
pub record IsChosen (count number place rest : ℕ) (sel : List Bool) : Type 0 where
  pub front : List Bool
  pub long : length front ≡ place
  pub is_padded : sel ≡ padded front
  pub whole : front ++ choice (count - place) rest ≡ choice count number

set_front : (front : List Bool) (n : ℕ)
    → set (front ++ replicate (suc n) false) (length front) true ≡ (front ++ true ∷ []) ++ replicate n false
set_front [] n = refl
set_front (x ∷ front) n = ap (λ (zs : List Bool). x ∷ zs) (set_front front n)

keep_front : (front : List Bool) (n : ℕ) → front ++ replicate (suc n) false ≡ (front ++ false ∷ []) ++ replicate n false
keep_front [] n = refl
keep_front (x ∷ front) n = ap (λ (zs : List Bool). x ∷ zs) (keep_front front n)

length_one : (front : List Bool) (b : Bool) → length (front ++ b ∷ []) ≡ suc (length front)
length_one front b = omega (arith, length-append front (b ∷ []))

room : (front : List Bool) (b : Bool) → length front < most_blocks
    → most_blocks - length front ≡ suc (most_blocks - length (front ++ b ∷ []))
room front b h = omega (arith, length_one front b)

padded-true : (front : List Bool) → length front < most_blocks → set (padded front) (length front) true ≡ padded (front ++ true ∷ [])
padded-true front h =
    ap (λ (n : ℕ). set (front ++ replicate n false) (length front) true) (room front true h)
    ∙ set_front front (most_blocks - length (front ++ true ∷ []))

padded-false : (front : List Bool) → length front < most_blocks → padded front ≡ padded (front ++ false ∷ [])
padded-false front h =
    ap (λ (n : ℕ). front ++ replicate n false) (room front false h) ∙ keep_front front (most_blocks - length (front ++ false ∷ []))

one_less : (count place : ℕ) → place < count → count - place ≡ suc (count - (place + 1))
one_less count place h = omega arith

choice-true : (n k : ℕ) → k < 2 ^ n → choice (suc n) k ≡ true ∷ choice n k
choice-true n k h = rw (lt_true k (2 ^ n) h)

choice-false : (n k : ℕ) → 2 ^ n ≤ k → choice (suc n) k ≡ false ∷ choice n (k - 2 ^ n)
choice-false n k h = rw (lt_false k (2 ^ n) h)

pub one_accepted : (count number place rest : ℕ) (sel : List Bool) → place < count → count ≤ most_blocks → rest < 2 ^ (count - (place + 1))
    → IsChosen count number place rest sel → IsChosen count number (place + 1) rest (set sel place true)
one_accepted count number place rest sel l few h c =
    let long = c.long in
    record {
      front = c.front ++ true ∷ [];
      long = omega (arith, length_one c.front true, long);
      is_padded = ap₂ (λ (xs : List Bool) (i : ℕ). set xs i true) c.is_padded (sym long) ∙ padded-true c.front (omega (arith, long));
      whole = append_assoc c.front (true ∷ []) (choice (count - (place + 1)) rest)
          ∙ ap (λ (xs : List Bool). c.front ++ xs)
          (sym (ap (λ (n : ℕ). choice n rest) (one_less count place l) ∙ choice-true (count - (place + 1)) rest h))
          ∙ c.whole;
    }

pub one_rejected : (count number place rest : ℕ) (sel : List Bool) → place < count → count ≤ most_blocks → 2 ^ (count - (place + 1)) ≤ rest
    → IsChosen count number place rest sel → IsChosen count number (place + 1) (rest - 2 ^ (count - (place + 1))) sel
one_rejected count number place rest sel l few h c =
    let long = c.long in
    record {
      front = c.front ++ false ∷ [];
      long = omega (arith, length_one c.front false, long);
      is_padded = c.is_padded ∙ padded-false c.front (omega (arith, long));
      whole = append_assoc c.front (false ∷ []) (choice (count - (place + 1)) (rest - 2 ^ (count - (place + 1))))
          ∙ ap (λ (xs : List Bool). c.front ++ xs)
          (sym (ap (λ (n : ℕ). choice n rest) (one_less count place l) ∙ choice-false (count - (place + 1)) rest h))
          ∙ c.whole;
    }

-- the number of choices as the code makes it
pub power_is : (count : ℕ) → count ≤ most_blocks → (1 * 2 ^ count) % 4294967296 ≡ 2 ^ count
power_is count few =
    let small : 2 ^ count < 2 ^ 32 = pow_below count 32 (omega (arith, few)) in
    let one : 1 * 2 ^ count ≡ 2 ^ count = omega arith in
    ap (λ (n : ℕ). n % 4294967296) one ∙ mod-eq_of_lt small

pub half_is : (count place half : ℕ) → half ≡ 2 ^ (count - 1 - place) → half ≡ 2 ^ (count - (place + 1))
half_is count place half e = let same : count - 1 - place ≡ count - (place + 1) = omega arith in e ∙ ap (λ (n : ℕ). 2 ^ n) same

pub rest_small : (count place rest : ℕ) → place < count → rest < 2 ^ (count - place)
    → rest - 2 ^ (count - (place + 1)) < 2 ^ (count - (place + 1))
rest_small count place rest l h =
    let whole : 2 ^ (count - place) ≡ 2 ^ (count - (place + 1)) + 2 ^ (count - (place + 1)) =
    ap (λ (n : ℕ). 2 ^ n) (one_less count place l) ∙ two-pow-succ (count - (place + 1)) in
    let some : 0 < 2 ^ (count - (place + 1)) = pow_pos (count - (place + 1)) in
    omega (arith, whole, h, some)

-- ---- the best of the choices so far
pub record IsBestSoFar (problem : ProblemState) (count number : ℕ) (sel : List Bool) (welfare : ℤ) : Type 0 where
  pub eligible : IsEligible problem sel welfare
  pub others : (j : ℕ) (v : ℤ) → j < number → IsEligible problem (padded (choice count j)) v
      → RanksAtOrBelow v (padded (choice count j)) welfare sel

pub none_tried : (problem : ProblemState) (count : ℕ) (sel : List Bool) (welfare : ℤ) → IsEligible problem sel welfare
    → IsBestSoFar problem count 0 sel welfare
none_tried problem count sel welfare e = record { eligible = e; others = λ j v l h. absurd (omega (arith, l)) }

pub one_tried : (problem : ProblemState) (count number : ℕ) (tried sel sel' : List Bool) (w w' : ℤ) → tried ≡ padded (choice count number)
    → IsBestSoFar problem count number sel w
    → IsEligible problem sel' w' → RanksAtOrBelow w sel w' sel' → ((v : ℤ) → IsEligible problem tried v → RanksAtOrBelow v tried w' sel')
    → IsBestSoFar problem count (number + 1) sel' w'
one_tried problem count number tried sel sel' w w' is so_far e kept better = record {
  eligible = e;
  others = λ j v l h. elim (cases_lt j number) [
    | inl less ↦ ranks_trans v (padded (choice count j)) w sel w' sel' (h.as_long ∙ sym so_far.eligible.as_long) (so_far.eligible.as_long
        ∙ sym e.as_long) (so_far.others j v less h) kept
    | inr more ↦
        (let same : j ≡ number = omega (arith, l, more) in
        let this : padded (choice count j) ≡ tried = ap (λ (n : ℕ). padded (choice count n)) same ∙ sym is in
        subst (λ (xs : List Bool). RanksAtOrBelow v xs w' sel') (sym this)
        (better v (subst (λ (xs : List Bool). IsEligible problem xs v) this h)))
  ];
}

pub all_tried : (problem : ProblemState) (count number : ℕ) (sel : List Bool) (welfare : ℤ) → count ≡ length problem.blocks
    → count ≤ most_blocks → 2 ^ count ≤ number
    → IsBestSoFar problem count number sel welfare → IsResult problem sel welfare
all_tried problem count number sel welfare is few all so_far = record {
  eligible = so_far.eligible;
  others = λ ys v h.
      (let only = λ (i : ℕ) (e : accepts ys i ≡ true).
      (let allowed = h.admissible.each i e in
      let inside = slice_get_within problem.blocks i allowed.block allowed.stands in
      let l : i < count = omega (arith, inside, is) in l) in
      let found = padded_choice count ys few h.as_long only in
      let low = found.1 in
      subst (λ (xs : List Bool). RanksAtOrBelow v xs welfare sel) found.2
      (so_far.others found.0 v (omega (arith, low, all)) (subst (λ (xs : List Bool). IsEligible problem xs v) (sym found.2) h)));
}
