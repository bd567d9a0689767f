-- The gains of the book's orders, row by row, add up to the welfare.
use Rattle.dam_blocks.proofs.Common.{◌≡◌, ℕ, zero, suc, ◌+◌, ◌-◌, ◌<◌, ◌≤◌, ℤ, pos, ◌+ℤ◌, Bool, true, false, cond, Some, List, [], ◌∷◌, ◌++◌, length}
use Rattle.dam_blocks.proofs.Common.{length-append, drop, append_assoc, ap, ap₂, ◌∙◌, sym, refl, arith, ints, eq-eqb, append-nil, drop_all, filter_map-append}
use Rattle.dam_blocks.proofs.Common.{HourTerms, BlockTerms, Key, Row, AreRows, Hour, Step, execution_surplus, Block, ProblemState, step_in, steps_in}
use Rattle.dam_blocks.proofs.Common.{hours_from, blocks_in, rows_after, IsProblem, accepts, surplus_of, surplus_at, selection_welfare, IsOutcome, gain_of}
use Rattle.std.specs.List.{slice_get}
use Rattle.dam_book.specs.declared.order.Order.TheVariants.{Block as BlockVariant}
use Rattle.dam_blocks.specs.Market.{hourly_surplus, accepted_surplus, order_surplus_at, order_surplus_in, over_orders}
use Rattle.dam_blocks.proofs.Families.{unequal, where_true}
use Rattle.dam_blocks.proofs.FromBook.{blocks-append, steps_same, steps_apart}
use Rattle.dam_blocks.proofs.Participants.{by_place, by_place-all, StandFrom, stand_later}
use Rattle.dam_blocks.proofs.Sharing.{SharingLaws, shared, length_prices}

-- ---- one period, from a place on
abbrev pub rest_gains : ℤ → List Step → List ℕ → ℕ → ℤ
rest_gains p ss xs n = execution_surplus p (drop n ss) (drop n xs)

none_gains : (p : ℤ) (ss : List Step) → execution_surplus p ss [] ≡ pos 0
none_gains p [] = refl
none_gains p (s ∷ ss) = refl

next_gains : (p : ℤ) (ss : List Step) (xs : List ℕ) (n : ℕ)
    → rest_gains p ss xs n ≡ order_surplus_at p ss xs n +ℤ rest_gains p ss xs (suc n)
next_gains p [] xs zero = refl
next_gains p [] xs (suc n) = refl
next_gains p (s ∷ ss) [] zero = let none = none_gains p ss in omega (arith, ints, none)
next_gains p (s ∷ ss) [] (suc n) = let a = none_gains p (drop n ss) in let b = none_gains p (drop (suc n) ss) in omega (arith, ints, a, b)
next_gains p (s ∷ ss) (x ∷ xs) zero = refl
next_gains p (s ∷ ss) (x ∷ xs) (suc n) = next_gains p ss xs n

-- ---- the day, in each period from a place on
abbrev pub tails : (ℕ → ℕ) → ℕ → List ℤ → List (List Step) → List (List ℕ) → ℤ
tails from t (p ∷ prices) (ss ∷ hours) (xs ∷ executions) = rest_gains p ss xs (from t) +ℤ tails from (suc t) prices hours executions
tails from t _ _ _ = pos 0

tails_same : (from later : ℕ → ℕ) (t : ℕ) (prices : List ℤ) (hours : List (List Step)) (executions : List (List ℕ))
    → ((s : ℕ) → t ≤ s → from s ≡ later s) → tails from t prices hours executions ≡ tails later t prices hours executions
tails_same from later t [] hours executions h = refl
tails_same from later t (p ∷ prices) [] executions h = refl
tails_same from later t (p ∷ prices) (ss ∷ hours) [] h = refl
tails_same from later t (p ∷ prices) (ss ∷ hours) (xs ∷ executions) h =
    ap₂ (λ (x y : ℤ). x +ℤ y) (ap (λ (n : ℕ). rest_gains p ss xs n) (h t (omega arith)))
    (tails_same from later (suc t) prices hours executions (λ s l. h s (omega (arith, l))))

-- one order of period u is passed
tails_next : (from later : ℕ → ℕ) (u t k : ℕ) (prices : List ℤ) (hours : List (List Step)) (executions : List (List ℕ)) → t + k ≡ u
    → later u ≡ suc (from u) → ((s : ℕ) → (s ≡ u → ⊥) → later s ≡ from s)
    → tails from t prices hours executions
    ≡ order_surplus_in prices hours executions k (from u) +ℤ tails later t prices hours executions
tails_next from later u t k [] hours executions e one same = refl
tails_next from later u t k (p ∷ prices) [] executions e one same = refl
tails_next from later u t k (p ∷ prices) (ss ∷ hours) [] e one same = refl
tails_next from later u t zero (p ∷ prices) (ss ∷ hours) (xs ∷ executions) e one same =
    let here : t ≡ u = omega (arith, e) in
    let first = ap (λ (n : ℕ). rest_gains p ss xs (from n)) here in
    let next = next_gains p ss xs (from u) in
    let after = ap (λ (n : ℕ). rest_gains p ss xs n) (ap later here ∙ one) in
    let rest = tails_same from later (suc t) prices hours executions
    (λ s l. sym (same s (λ w. (let wrong : 0 < 0 = omega (arith, l, w, here) in omega (arith, wrong))))) in
    omega (arith, ints, first, next, after, rest)
tails_next from later u t (suc k) (p ∷ prices) (ss ∷ hours) (xs ∷ executions) e one same =
    let rest = tails_next from later u (suc t) k prices hours executions (omega (arith, e)) one same in
    let here = ap (λ (n : ℕ). rest_gains p ss xs n)
    (same t (λ w. (let wrong : 0 < 0 = omega (arith, e, w) in omega (arith, wrong)))) in
    omega (arith, ints, rest, here)

tails_all : (t : ℕ) (prices : List ℤ) (hours : List (List Step)) (executions : List (List ℕ))
    → tails (λ s. 0) t prices hours executions ≡ hourly_surplus prices hours executions
tails_all t [] hours executions = refl
tails_all t (p ∷ prices) [] executions = refl
tails_all t (p ∷ prices) (ss ∷ hours) [] = refl
tails_all t (p ∷ prices) (ss ∷ hours) (xs ∷ executions) =
    ap (λ (z : ℤ). execution_surplus p ss xs +ℤ z) (tails_all (suc t) prices hours executions)

-- past the last order of each period
tails_none : (rows : List Row) (t n : ℕ) (prices : List ℤ) (executions : List (List ℕ))
    → tails (λ s. length (steps_in s rows)) t prices (hours_from t n rows) executions ≡ pos 0
tails_none rows t zero [] executions = refl
tails_none rows t zero (p ∷ prices) executions = refl
tails_none rows t (suc n) [] executions = refl
tails_none rows t (suc n) (p ∷ prices) [] = refl
tails_none rows t (suc n) (p ∷ prices) (xs ∷ executions) =
    let past = drop_all (length (steps_in t rows)) (steps_in t rows) (omega arith) in
    let here = ap (λ (ss : List Step). execution_surplus p ss (drop (length (steps_in t rows)) xs)) past in
    let rest = tails_none rows (suc t) n prices executions in
    omega (arith, ints, here, rest)

-- ---- row by row
-- the places of the rows agree with the orders of the periods
steps_later : (front : List Row) (k : Key) (o : HourTerms) (s : ℕ)
    → steps_in s (front ++ (k, Hour o) ∷ []) ≡ steps_in s front ++ steps_in s ((k, Hour o) ∷ [])
steps_later front k o s = filter_map-append (λ (r : Row). step_in s r.1) front ((k, Hour o) ∷ [])

length_here : (front : List Row) (k : Key) (o : HourTerms) → length (steps_in o.period (front ++ (k, Hour o) ∷ [])) ≡ suc (length (steps_in o.period front))
length_here front k o =
    let own : length (steps_in o.period ((k, Hour o) ∷ [])) ≡ 1 =
    steps_same o.period k o [] (eq-eqb o.period o.period refl) in
    let parts = ap (λ (ss : List Step). length ss) (steps_later front k o o.period) in
    let sum = length-append (steps_in o.period front) (steps_in o.period ((k, Hour o) ∷ [])) in
    omega (arith, own, parts, sum)

length_elsewhere : (front : List Row) (k : Key) (o : HourTerms) (s : ℕ) → (s ≡ o.period → ⊥)
    → length (steps_in s (front ++ (k, Hour o) ∷ [])) ≡ length (steps_in s front)
length_elsewhere front k o s apart =
    let own : length (steps_in s ((k, Hour o) ∷ [])) ≡ 0 =
    steps_apart s k o [] (unequal o.period s (λ e. apart (sym e))) in
    let parts = ap (λ (ss : List Step). length ss) (steps_later front k o s) in
    let sum = length-append (steps_in s front) (steps_in s ((k, Hour o) ∷ [])) in
    omega (arith, own, parts, sum)

length_of_block : (front : List Row) (k : Key) (o : BlockTerms) (s : ℕ)
    → length (steps_in s (front ++ (k, BlockVariant o) ∷ [])) ≡ length (steps_in s front)
length_of_block front k o s =
    let parts = ap (λ (ss : List Step). length ss) (filter_map-append (λ (r : Row). step_in s r.1) front ((k, BlockVariant o) ∷ [])) in
    let sum = length-append (steps_in s front) [] in
    omega (arith, parts, sum)

-- from the places that the rows in front take up
abbrev pub after : List Row → ℕ → ℕ
after front s = length (steps_in s front)

accepted_part : (acc : Bool) (x : ℤ) → where_true acc x ≡ cond acc x (pos 0)
accepted_part true x = refl
accepted_part false x = refl

rows_sum : (problem : ProblemState) (sel : List Bool) (prices : List ℤ) (executions : List (List ℕ)) (periods : ℕ) (front rest : List Row)
    → AreRows periods rest → StandFrom problem front rest
    → over_orders (gain_of problem sel prices executions) (rows_after front rest)
    +ℤ tails (after (front ++ rest)) 1 prices problem.hours executions
    ≡ by_place (surplus_of prices) sel (length (blocks_in front)) (blocks_in rest)
    +ℤ tails (after front) 1 prices problem.hours executions
rows_sum problem sel prices executions periods front [] are stand =
    let same = ap (λ (rows : List Row). tails (after rows) 1 prices problem.hours executions) (append-nil front) in
    omega (arith, ints, same)
rows_sum problem sel prices executions periods front ((k, Hour o) ∷ rest) are stand =
    let long : length (blocks_in (front ++ (k, Hour o) ∷ [])) ≡ length (blocks_in front) =
    ap length (blocks-append front ((k, Hour o) ∷ []) ∙ append-nil (blocks_in front)) in
    let later = rows_sum problem sel prices executions periods (front ++ (k, Hour o) ∷ []) rest are.1
    (stand_later problem front rest (k, Hour o) refl long stand) in
    let from = ap (λ (n : ℕ). by_place (surplus_of prices) sel n (blocks_in rest)) long in
    let first = are.0.order.period.at_least in
    let day = tails_next (after front) (after (front ++ (k, Hour o) ∷ [])) o.period 1 (o.period - 1) prices problem.hours executions
    (omega (arith, first)) (length_here front k o) (λ s apart. length_elsewhere front k o s apart) in
    let whole = ap (λ (rows : List Row). tails (after rows) 1 prices problem.hours executions) (append_assoc front ((k, Hour o) ∷ []) rest) in
    omega (arith, ints, later, from, day, whole)
rows_sum problem sel prices executions periods front ((k, BlockVariant o) ∷ rest) are stand =
    let blocks = problem.blocks in
    let n = length (blocks_in front) in
    let b : Block = record { who = k.0; name = k.1; order = o } in
    let long : length (blocks_in (front ++ (k, BlockVariant o) ∷ [])) ≡ suc n =
    omega (
      arith,
      ap (λ (bs : List Block). length bs) (blocks-append front ((k, BlockVariant o) ∷ [])),
      length-append (blocks_in front) (b ∷ []),
    ) in
    let later = rows_sum problem sel prices executions periods (front ++ (k, BlockVariant o) ∷ []) rest are.1
    (λ j c at. (let next : length (blocks_in (front ++ (k, BlockVariant o) ∷ [])) + j ≡ n + suc j = omega (arith, long) in
    ap (λ (m : ℕ). slice_get blocks m) next ∙ stand (suc j) c at)) in
    let from = ap (λ (m : ℕ). by_place (surplus_of prices) sel m (blocks_in rest)) long in
    let same_place : n ≡ n + 0 = omega arith in
    let there : slice_get blocks n ≡ Some b = ap (λ (m : ℕ). slice_get blocks m) same_place ∙ stand 0 b refl in
    let own : surplus_at blocks prices n ≡ surplus_of prices o = rw there in
    let part = accepted_part (accepts sel n) (surplus_of prices o)
    ∙ ap (λ (z : ℤ). cond (accepts sel n) z (pos 0)) (sym own) in
    let day = tails_same (after (front ++ (k, BlockVariant o) ∷ [])) (after front) 1 prices problem.hours executions
    (λ s l. length_of_block front k o s) in
    let whole = ap (λ (rows : List Row). tails (after rows) 1 prices problem.hours executions)
    (append_assoc front ((k, BlockVariant o) ∷ []) rest) in
    omega (arith, ints, later, from, part, day, whole)

orders_sum : (problem : ProblemState) (sel : List Bool) (prices : List ℤ) (executions : List (List ℕ)) → IsProblem problem
    → over_orders (gain_of problem sel prices executions) problem.rows
    ≡ hourly_surplus prices problem.hours executions +ℤ accepted_surplus prices problem.blocks sel
orders_sum problem sel prices executions is =
    let book = is.book in
    let made = is.is_of_book in
    let rows = ap (λ (p : ProblemState). over_orders (gain_of problem sel prices executions) p.rows) made in
    let sum = rows_sum problem sel prices executions book.periods [] book.rows is.is_book.rows
    (λ k b at. (let first : 0 + k ≡ k = omega arith in
    ap (λ (p : ProblemState). slice_get p.blocks (0 + k)) made ∙ ap (λ (m : ℕ). slice_get (blocks_in book.rows) m) first ∙ at)) in
    let none = ap (λ (p : ProblemState). tails (after book.rows) 1 prices p.hours executions) made
    ∙ tails_none book.rows 1 book.periods prices executions in
    let all = tails_all 1 prices problem.hours executions in
    let blocks = by_place-all (surplus_of prices) problem.blocks sel in
    let same = ap (λ (p : ProblemState). by_place (surplus_of prices) sel 0 p.blocks) made in
    omega (arith, ints, rows, sum, none, all, blocks, same)

pub shared_by_orders : SharingLaws → (problem : ProblemState) (sel : List Bool) (prices : List ℤ) (executions : List (List ℕ))
    → IsProblem problem → IsOutcome problem sel prices executions
    → selection_welfare problem sel ≡ Some (over_orders (gain_of problem sel prices executions) problem.rows)
shared_by_orders laws problem sel prices executions is outcome =
    shared laws problem sel prices executions (length_prices problem.blocks sel 1 problem.hours prices outcome.prices_are)
    outcome.executions_are
    ∙ ap (λ (z : ℤ). Some z) (sym (orders_sum problem sel prices executions is))
