-- Of the limits of the range, those at which a block is accepted are all from a worst one on, or there is none.
use Rattle.dam_blocks.proofs.Common.{◌≡◌, ◌⊎◌, inl, inr, ℕ, zero, suc, ◌^◌, ◌<◌, ◌≤◌, ℤ, pos, ◌+ℤ◌, ◌-ℤ◌, Bool, true, false, Some, List, [], ◌∷◌, length}
use Rattle.dam_blocks.proofs.Common.{slice_set, sym, subst, refl, nat_abs, arith, ints, cases_lt, most_blocks, Side, Buy, Sell, IsBetter, Block, ProblemState}
use Rattle.dam_blocks.proofs.Common.{AreHoursInRange, IsProblem, accepts, choice, padded, IsResult, with_limit, IsWithLimit}
use Rattle.std.proofs.Common.{set-set}
use Rattle.std.specs.List.{slice_get}
use Rattle.std.proofs.lemmas.List.{length-set}
use Rattle.dam_book.specs.Limits.{lowest_price, highest_price}
use Rattle.dam_book.specs.Price.{IsPrice}
use Rattle.dam_hour.specs.Limits.{price_span}
use Rattle.dam_hour.specs.Price.{IsWorse}
use Rattle.dam_blocks.specs.Changes.{with_limit_at, IsAcceptedAt, IsRejectedAt, IsNeverAccepted, IsWorstLimit}
use Rattle.dam_blocks.proofs.EmptySelection.{ExistenceLaws, empty_eligible}
use Rattle.dam_blocks.proofs.ResultExists.{BalanceLaw, decided_eligible, best_so_far, length-padded}
use Rattle.dam_blocks.proofs.Choices.{all_tried}
use Rattle.dam_blocks.proofs.Repricing.{kept}

-- ---- there is a result at each limit
result_found : ExistenceLaws → BalanceLaw → (problem : ProblemState) → AreHoursInRange problem.hours → length problem.blocks ≤ most_blocks
    → (sel : List Bool) × (w : ℤ) × IsResult problem sel w
result_found laws law problem are few =
    let count = length problem.blocks in
    let found = best_so_far problem count (empty_eligible laws problem are)
    (λ k. decided_eligible laws law problem (padded (choice count k)) are (length-padded count k few)) (2 ^ count) in
    (found.0, found.1, all_tried problem count (2 ^ count) found.0 found.1 refl few (omega arith) found.2)

-- accepted or not
abbrev Decided : ProblemState → ℕ → Block → ℤ → Type 0
Decided problem place b limit = IsAcceptedAt problem place b limit ⊎ IsRejectedAt problem place b limit

by_acceptance : (problem : ProblemState) (place : ℕ) (b : Block) (limit : ℤ) (sel : List Bool) (w : ℤ)
    → IsResult (with_limit_at problem place b limit) sel w → (x : Bool) → accepts sel place ≡ x → Decided problem place b limit
by_acceptance problem place b limit sel w result true e = inl (sel, w, result, e)
by_acceptance problem place b limit sel w result false e = inr (sel, w, result, e)

decided : ExistenceLaws → BalanceLaw → (problem : ProblemState) (place : ℕ) (b : Block) (limit : ℤ) → IsProblem problem
    → Decided problem place b limit
decided laws law problem place b limit is =
    let long = length-set problem.blocks place (with_limit b limit) in
    let few = is.few_blocks in
    let found = result_found laws law (with_limit_at problem place b limit) is.hours (omega (arith, long, few)) in
    by_acceptance problem place b limit found.0 found.1 found.2 (accepts found.0 place) refl

-- ---- a better limit is accepted too
get_set : (bs : List Block) (i : ℕ) (b c : Block) → slice_get bs i ≡ Some b → slice_get (slice_set bs i c) i ≡ Some c
get_set [] i b c at = absurd (cc)
get_set (d ∷ bs) zero b c at = refl
get_set (d ∷ bs) (suc i) b c at = get_set bs i b c at

better_too : ExistenceLaws → BalanceLaw → (problem : ProblemState) (place : ℕ) (b : Block) (worse better : ℤ) → IsProblem problem
    → slice_get problem.blocks place ≡ Some b → IsBetter b.order.side better worse → IsAcceptedAt problem place b worse
    → IsAcceptedAt problem place b better
better_too laws law problem place b worse better is at more h =
    let long = length-set problem.blocks place (with_limit b better) in
    let few = is.few_blocks in
    let before = with_limit_at problem place b worse in
    let after = with_limit_at problem place b better in
    let found = result_found laws law after is.hours (omega (arith, long, few)) in
    let change : IsWithLimit before after place (with_limit b worse) better =
    record {
      stands = get_set problem.blocks place b (with_limit b worse) at;
      hours = refl;
      blocks = sym (set-set problem.blocks place (with_limit b worse) (with_limit b better));
    } in (
      found.0,
      found.1,
      found.2,
      kept before after place (with_limit b worse) better h.0 found.0 h.1 found.1 change more h.2 h.3 found.2,
    )

-- ---- the limits of the range, from the worst on
abbrev limit_of : Side → ℕ → ℤ
limit_of Buy n = lowest_price +ℤ pos n
limit_of Sell n = highest_price -ℤ pos n

-- its number
number_of : (side : Side) (limit : ℤ) → IsPrice limit → (n : ℕ) × (n ≤ price_span) × (limit ≡ limit_of side n)
number_of Buy limit is =
    let low = is.at_least in let high = is.at_most in
    (nat_abs (limit -ℤ lowest_price), omega (arith, ints, low, high), omega (arith, ints, low, high))
number_of Sell limit is =
    let low = is.at_least in let high = is.at_most in
    (nat_abs (highest_price -ℤ limit), omega (arith, ints, low, high), omega (arith, ints, low, high))

in_range : (side : Side) (n : ℕ) → n ≤ price_span → IsPrice (limit_of side n)
in_range Buy n l = record { at_least = omega (arith, ints, l); at_most = omega (arith, ints, l) }
in_range Sell n l = record { at_least = omega (arith, ints, l); at_most = omega (arith, ints, l) }

better_later : (side : Side) (m n : ℕ) → m < n → IsBetter side (limit_of side n) (limit_of side m)
better_later Buy m n l = omega (arith, ints, l)
better_later Sell m n l = omega (arith, ints, l)

worse_before : (side : Side) (m n : ℕ) → IsWorse side (limit_of side m) (limit_of side n) → m < n
worse_before Buy m n h = omega (arith, ints, h)
worse_before Sell m n h = omega (arith, ints, h)

before_worse : (side : Side) (m n : ℕ) → m < n → IsWorse side (limit_of side m) (limit_of side n)
before_worse Buy m n l = omega (arith, ints, l)
before_worse Sell m n l = omega (arith, ints, l)

-- the first number, below n, of which the first of two things holds, if it is one or the other of each number
first_below : (P Q : ℕ → Type 0) → ((k : ℕ) → P k ⊎ Q k) → (n : ℕ)
    → ((k : ℕ) → k < n → Q k) ⊎ ((m : ℕ) × (m < n) × P m × ((k : ℕ) → k < m → Q k))
first_below P Q each zero = inl (λ k l. absurd (omega (arith, l)))
first_below P Q each (suc n) = elim (first_below P Q each n) [
  | inr found ↦ (let l = found.1 in inr (found.0, omega (arith, l), found.2, found.3))
  | inl none ↦ elim (each n) [
    | inl here ↦ inr (n, omega arith, here, none)
    | inr fails ↦ inl (λ k l.
        elim (cases_lt k n) as (λ _. Q k) [
          | inl less ↦ none k less
          | inr more ↦ (let same : n ≡ k = omega (arith, l, more) in subst Q same fails)
        ])
  ]
]

accepted_from : ExistenceLaws → BalanceLaw → (problem : ProblemState) (place : ℕ) (b : Block) (m n : ℕ) → IsProblem problem
    → slice_get problem.blocks place ≡ Some b → m ≤ n → IsAcceptedAt problem place b (limit_of b.order.side m)
    → IsAcceptedAt problem place b (limit_of b.order.side n)
accepted_from laws law problem place b m n is at l h = elim (cases_lt m n) [
  | inl less ↦ better_too laws law problem place b (limit_of b.order.side m) (limit_of b.order.side n) is at
      (better_later b.order.side m n less) h
  | inr more ↦
      (let same : m ≡ n = omega (arith, l, more) in subst (λ (k : ℕ). IsAcceptedAt problem place b (limit_of b.order.side k)) same h)
]

pub worst_limit : ExistenceLaws → BalanceLaw → (problem : ProblemState) (place : ℕ) (b : Block) → IsProblem problem
    → slice_get problem.blocks place ≡ Some b
    → IsNeverAccepted problem place b ⊎ ((worst : ℤ) × IsWorstLimit problem place b worst)
worst_limit laws law problem place b is at =
    let side = b.order.side in
    elim (first_below (λ (n : ℕ). IsAcceptedAt problem place b (limit_of side n))
    (λ (n : ℕ). IsRejectedAt problem place b (limit_of side n))
    (λ n. decided laws law problem place b (limit_of side n) is) (suc price_span)) [
      | inl none ↦ inl (λ limit range.
          (let own = number_of side limit range in
          let l = own.1 in
          subst (λ (z : ℤ). IsRejectedAt problem place b z) (sym own.2) (none own.0 (omega (arith, l)))))
      | inr found ↦
          (let l = found.1 in
          inr (
            limit_of side found.0,
            record {
              in_range = in_range side found.0 (omega (arith, l));
              accepted = λ limit range not_worse.
                  (let own = number_of side limit range in
                  elim (cases_lt own.0 found.0) as (λ _. IsAcceptedAt problem place b limit) [
                    | inl less ↦ absurd (not_worse (subst (λ (z : ℤ). IsWorse side z (limit_of side found.0)) (sym own.2)
                        (before_worse side own.0 found.0 less)))
                    | inr more ↦ subst (λ (z : ℤ). IsAcceptedAt problem place b z) (sym own.2)
                        (accepted_from laws law problem place b found.0 own.0 is at more found.2)
                  ]);
              rejected = λ limit range worse.
                  (let own = number_of side limit range in
                  subst (λ (z : ℤ). IsRejectedAt problem place b z) (sym own.2)
                  (found.3 own.0 (worse_before side own.0 found.0 (subst (λ (z : ℤ). IsWorse side z (limit_of side found.0)) own.2 worse))));
            },
          ))
    ]
