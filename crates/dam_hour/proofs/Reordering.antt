-- The orders of a period in another order: the same executions, in that order.
use Rattle.dam_hour.proofs.Common.{◌≡◌, ℕ, zero, suc, ◌<◌, ◌≤◌, ℤ, ◌≤ℤ◌, Some, None, List, [], ◌∷◌, length, get_or, ap, ◌∙◌, sym, subst, refl, arith, ints}
use Rattle.dam_hour.proofs.Common.{Side, Buy, Sell, Step, IsExecution, executed_volume, Balances, welfare_of, IsBest, Supports, IsSupporting, AreEnds}
use Rattle.std.proofs.Common.{Option, set}
use Rattle.std.specs.List.{swap}
use Rattle.std.specs.List.Sorted.{IsPermutation}
use Rattle.std.proofs.lemmas.List.Sorted.{IsPermutation-keeps, IsPermutation-sym}
use Rattle.dam_hour.specs.Best.{greatest_welfare}
use Rattle.dam_hour.proofs.Enumeration.{greatest_welfare_reached, greatest_welfare_bound, greatest_welfare_none}

-- ---- reorderings, by exchanges of neighbours
data Reordered {X : Type 0} : List X → List X → Type 0 where
  Same : (xs : List X) → Reordered xs xs
  Kept : (x : X) (xs ys : List X) → Reordered xs ys → Reordered (x ∷ xs) (x ∷ ys)
  Exchanged : (x y : X) (xs : List X) → Reordered (x ∷ y ∷ xs) (y ∷ x ∷ xs)
  Then : (xs ys zs : List X) → Reordered xs ys → Reordered ys zs → Reordered xs zs

default_of : {X : Type 0} (xs : List X) (k : ℕ) (d e : X) → k < length xs → get_or xs k d ≡ get_or xs k e
default_of [] k d e l = absurd (omega (arith, l))
default_of (x ∷ xs) zero d e l = refl
default_of (x ∷ xs) (suc k) d e l = default_of xs k d e (omega (arith, l))

-- the first element and a later one
first_exchanged : {X : Type 0} (d : X) (xs : List X) (k : ℕ) → k < length xs → Reordered (d ∷ xs) (get_or xs k d ∷ set xs k d)
first_exchanged d [] k l = absurd (omega (arith, l))
first_exchanged d (x ∷ xs) zero l = Exchanged d x xs
first_exchanged d (x ∷ xs) (suc k) l =
    let rest = first_exchanged d xs k (omega (arith, l)) in
    Then (d ∷ x ∷ xs) (x ∷ d ∷ xs) (get_or xs k d ∷ x ∷ set xs k d) (Exchanged d x xs)
    (Then (x ∷ d ∷ xs) (x ∷ get_or xs k d ∷ set xs k d) (get_or xs k d ∷ x ∷ set xs k d) (Kept x (d ∷ xs) (get_or xs k d ∷ set xs k d) rest)
    (Exchanged x (get_or xs k d) (set xs k d)))

-- the list after an exchange of two places, for any default
exchanged : {X : Type 0} (d : X) (xs : List X) (i j : ℕ) → i < length xs → j < length xs
    → Reordered xs (set (set xs i (get_or xs j d)) j (get_or xs i d))
exchanged {X = X} d [] i j l m = absurd (omega (arith, l))
exchanged {X = X} d (x ∷ xs) zero zero l m = Same (x ∷ xs)
exchanged {X = X} d (x ∷ xs) zero (suc k) l m =
    let own = default_of xs k d x (omega (arith, m)) in
    subst (λ (y : X). Reordered (x ∷ xs) (y ∷ set xs k x)) (sym own) (first_exchanged x xs k (omega (arith, m)))
exchanged {X = X} d (x ∷ xs) (suc k) zero l m =
    let own = default_of xs k d x (omega (arith, l)) in
    subst (λ (y : X). Reordered (x ∷ xs) (y ∷ set xs k x)) (sym own) (first_exchanged x xs k (omega (arith, l)))
exchanged {X = X} d (x ∷ xs) (suc i) (suc j) l m =
    Kept x xs (set (set xs i (get_or xs j d)) j (get_or xs i d)) (exchanged d xs i j (omega (arith, l)) (omega (arith, m)))

swapped : {X : Type 0} (xs : List X) (i j : ℕ) → i < length xs → j < length xs → Reordered xs (swap xs i j)
swapped [] i j l m = absurd (omega (arith, l))
swapped (x ∷ xs) i j l m = exchanged x (x ∷ xs) i j l m

reordered : {X : Type 0} (xs ys : List X) → IsPermutation xs ys → Reordered xs ys
reordered {X = X} xs ys is =
    IsPermutation-keeps xs (λ (l : List X). Reordered xs l) (Same xs)
    (λ l i j a b so_far. Then xs l (swap l i j) so_far (swapped l i j a b)) ys is

-- ---- executions
-- an execution of the other list with the same totals, which a price supports if it supports this one
record IsCounterpart (ss ts : List Step) (xs ys : List ℕ) : Type 0 where
  execution : IsExecution ts ys
  volume : (side : Side) → executed_volume side ts ys ≡ executed_volume side ss xs
  welfare : welfare_of ts ys ≡ welfare_of ss xs
  support : (p : ℤ) → Supports p ss xs → Supports p ts ys

counterpart : (ss ts : List Step) → Reordered ss ts → (xs : List ℕ) → IsExecution ss xs → (ys : List ℕ) × IsCounterpart ss ts xs ys
counterpart _ _ (Same ss) xs e =
    (xs, record { execution = e; volume = λ side. refl; welfare = refl; support = λ p h. h })
counterpart _ _ (Kept s ss ts rest) [] e = absurd e
counterpart _ _ (Kept s ss ts rest) (x ∷ xs) e =
    let found = counterpart ss ts rest xs e.1 in (
      x ∷ found.0,
      record {
        execution = (e.0, found.1.execution);
        volume = λ side. (let same = found.1.volume side in omega (arith, same));
        welfare = (let same = found.1.welfare in omega (arith, ints, same));
        support = λ p h. (h.0, h.1, found.1.support p h.2);
      },
    )
counterpart _ _ (Exchanged s t ss) [] e = absurd e
counterpart _ _ (Exchanged s t ss) (x ∷ []) e = absurd e.1
counterpart _ _ (Exchanged s t ss) (x ∷ y ∷ xs) e = (
  y ∷ x ∷ xs,
  record {
    execution = (e.1.0, (e.0, e.1.1));
    volume = λ side. omega arith;
    welfare = omega (arith, ints);
    support = λ p h. (h.2.0, h.2.1, (h.0, h.1, h.2.2));
  },
)
counterpart _ _ (Then ss ts us first second) xs e =
    let found = counterpart ss ts first xs e in
    let last = counterpart ts us second found.0 found.1.execution in (
      last.0,
      record {
        execution = last.1.execution;
        volume = λ side. last.1.volume side ∙ found.1.volume side;
        welfare = last.1.welfare ∙ found.1.welfare;
        support = λ p h. last.1.support p (found.1.support p h);
      },
    )

balances_too : (ss ts : List Step) (net : ℤ) (xs ys : List ℕ) → IsCounterpart ss ts xs ys → Balances ss net xs → Balances ts net ys
balances_too ss ts net xs ys is b = let buys = is.volume Buy in let sells = is.volume Sell in omega (arith, ints, buys, sells, b)

-- ---- prices
supporting_too : (ss ts : List Step) (net p : ℤ) → Reordered ss ts → IsSupporting ss net p → IsSupporting ts net p
supporting_too ss ts net p is h =
    let found = counterpart ss ts is h.volumes h.execution in
    record {
      in_range = h.in_range;
      volumes = found.0;
      execution = found.1.execution;
      balance = balances_too ss ts net h.volumes found.0 found.1 h.balance;
      support = found.1.support p h.support;
    }

pub same_ends : (ss ts : List Step) (net low high : ℤ) → IsPermutation ss ts → AreEnds ss net low high → AreEnds ts net low high
same_ends ss ts net low high is ends =
    let there = reordered ss ts is in
    let back = reordered ts ss (IsPermutation-sym ss ts is) in
    record {
      low_supports = supporting_too ss ts net low there ends.low_supports;
      high_supports = supporting_too ss ts net high there ends.high_supports;
      least = λ p h. ends.least p (supporting_too ts ss net p back h);
      greatest = λ p h. ends.greatest p (supporting_too ts ss net p back h);
    }

-- ---- welfare
at_least : (ss ts : List Step) (net v w : ℤ) → Reordered ss ts → greatest_welfare ss net ≡ Some v → greatest_welfare ts net ≡ Some w
    → v ≤ℤ w
at_least ss ts net v w is e f =
    let best = greatest_welfare_reached ss net v e in
    let found = counterpart ss ts is best.0 best.1 in
    let below = greatest_welfare_bound ts net w f found.0 found.1.execution (balances_too ss ts net best.0 found.0 found.1 best.2) in
    let same = found.1.welfare in let value = best.3 in
    omega (arith, ints, below, same, value)

none_there : (ss ts : List Step) (net w : ℤ) → Reordered ts ss → greatest_welfare ss net ≡ None → greatest_welfare ts net ≡ Some w → ⊥
none_there ss ts net w is e f =
    let best = greatest_welfare_reached ts net w f in
    let found = counterpart ts ss is best.0 best.1 in
    greatest_welfare_none ss net e found.0 found.1.execution (balances_too ts ss net best.0 found.0 found.1 best.2)

same_option : (ss ts : List Step) (net : ℤ) (x y : Option ℤ) → Reordered ss ts → Reordered ts ss → greatest_welfare ss net ≡ x
    → greatest_welfare ts net ≡ y → x ≡ y
same_option ss ts net None None there back e f = refl
same_option ss ts net None (Some w) there back e f = absurd (none_there ss ts net w back e f)
same_option ss ts net (Some v) None there back e f = absurd (none_there ts ss net v there f e)
same_option ss ts net (Some v) (Some w) there back e f =
    let less = at_least ss ts net v w there e f in
    let more = at_least ts ss net w v back f e in
    let same : v ≡ w = omega (arith, ints, less, more) in
    ap (λ (z : ℤ). Some z) same

pub same_welfare : (ss ts : List Step) (net : ℤ) → IsPermutation ss ts → greatest_welfare ss net ≡ greatest_welfare ts net
same_welfare ss ts net is =
    same_option ss ts net (greatest_welfare ss net) (greatest_welfare ts net) (reordered ss ts is)
    (reordered ts ss (IsPermutation-sym ss ts is)) refl refl

-- ---- the volume of the best execution
-- the best of the other list has at least this welfare and, if no more, at least this bought volume
no_less : (ss ts : List Step) (net : ℤ) (xs ys : List ℕ) → Reordered ss ts → IsBest ss net xs → IsBest ts net ys
    → (welfare_of ss xs ≤ℤ welfare_of ts ys)
    × (welfare_of ss xs ≡ welfare_of ts ys → executed_volume Buy ss xs ≤ executed_volume Buy ts ys)
no_less ss ts net xs ys is first second =
    let found = counterpart ss ts is xs first.execution in
    let below = second.greatest found.0 found.1.execution (balances_too ss ts net xs found.0 found.1 first.balance) in
    let same = found.1.welfare in
    let volume = found.1.volume Buy in
    let less = below.by_welfare in (
      omega (arith, ints, less, same),
      λ e. (let fewer = below.by_bought (same ∙ e) in omega (arith, fewer, volume)),
    )

both_sides : (side : Side) (ss ts : List Step) (net : ℤ) (xs ys : List ℕ) → Balances ss net xs → Balances ts net ys
    → executed_volume Buy ss xs ≡ executed_volume Buy ts ys → executed_volume side ss xs ≡ executed_volume side ts ys
both_sides Buy ss ts net xs ys b c e = e
both_sides Sell ss ts net xs ys b c e = omega (arith, ints, b, c, e)

pub same_volume : (ss ts : List Step) (net : ℤ) (side : Side) (xs ys : List ℕ) → IsPermutation ss ts → IsBest ss net xs → IsBest ts net ys
    → executed_volume side ss xs ≡ executed_volume side ts ys
same_volume ss ts net side xs ys is first second =
    let there = no_less ss ts net xs ys (reordered ss ts is) first second in
    let back = no_less ts ss net ys xs (reordered ts ss (IsPermutation-sym ss ts is)) second first in
    let less = there.0 in let more = back.0 in
    let same : welfare_of ss xs ≡ welfare_of ts ys = omega (arith, ints, less, more) in
    let fewer = there.1 same in let others = back.1 (sym same) in
    both_sides side ss ts net xs ys first.balance second.balance (omega (arith, fewer, others))
