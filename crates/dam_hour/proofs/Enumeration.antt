-- The greatest welfare over all executions is the best execution's.
use Rattle.dam_hour.proofs.Common.{◌≡◌, ℕ, zero, suc, ◌≤◌, ℤ, pos, ◌+ℤ◌, ◌≤ℤ◌, Bool, true, false, Some, None, List, [], ◌∷◌, ◌++◌, ◌⊎◌, inl, inr, ap, ◌∙◌, sym}
use Rattle.dam_hour.proofs.Common.{subst, refl, arith, ints, by_lt_z, cases_lt, Buy, Sell, Step, IsExecution, executed_volume, Balances, IsUnbalanced, IsBest}
use Rattle.dam_hour.proofs.Common.{welfare_of}
use Rattle.std.proofs.Common.{cond, map}
use Rattle.std.specs.List.{fold, filter, flat_map}
use Rattle.std.specs.Int.{int_max}
use Rattle.std.proofs.lemmas.Int.{clamps}
use Rattle.std.proofs.lemmas.Bool.Decides.{Decides-int_eq}
use Rattle.dam_hour.specs.Execution.{IsBalanced}
use Rattle.dam_hour.specs.Best.{up_to, executions, does_balance, greatest_of, greatest_welfare}

-- x is an element of the list
abbrev Among : {X : Type 0} → X → List X → Type 0
Among x [] = ⊥
Among x (y ∷ ys) = (y ≡ x) ⊎ Among x ys

among_left : {X : Type 0} (x : X) (xs ys : List X) → Among x xs → Among x (xs ++ ys)
among_left x [] ys h = absurd h
among_left x (y ∷ xs) ys h = elim h [ inl e ↦ inl e | inr r ↦ inr (among_left x xs ys r) ]

among_right : {X : Type 0} (x : X) (xs ys : List X) → Among x ys → Among x (xs ++ ys)
among_right x [] ys h = h
among_right x (y ∷ xs) ys h = inr (among_right x xs ys h)

among_either : {X : Type 0} (x : X) (xs ys : List X) → Among x (xs ++ ys) → Among x xs ⊎ Among x ys
among_either x [] ys h = inr h
among_either x (y ∷ xs) ys h =
    elim h [ inl e ↦ inl (inl e) | inr r ↦ elim (among_either x xs ys r) [ inl a ↦ inl (inr a) | inr b ↦ inr b ] ]

among_map : {X Y : Type 0} (f : X → Y) (x : X) (xs : List X) → Among x xs → Among (f x) (map f xs)
among_map f x [] h = absurd h
among_map f x (y ∷ xs) h = elim h [ inl e ↦ inl (ap f e) | inr r ↦ inr (among_map f x xs r) ]

among_map_from : {X Y : Type 0} (f : X → Y) (y : Y) (xs : List X) → Among y (map f xs) → (x : X) × (Among x xs × (f x ≡ y))
among_map_from f y [] h = absurd h
among_map_from f y (x ∷ xs) h =
    elim h [ inl e ↦ (x, (inl refl, e)) | inr r ↦ (let found = among_map_from f y xs r in (found.0, (inr found.1.0, found.1.1))) ]

among_flat_map : {X Y : Type 0} (f : X → List Y) (x : X) (y : Y) (xs : List X) → Among x xs → Among y (f x) → Among y (flat_map f xs)
among_flat_map f x y [] h g = absurd h
among_flat_map f x y (z ∷ xs) h g = elim h [
  | inl e ↦ among_left y (f z) (flat_map f xs) (subst (λ w. Among y (f w)) (sym e) g)
  | inr r ↦ among_right y (f z) (flat_map f xs) (among_flat_map f x y xs r g)
]

among_flat_map_from : {X Y : Type 0} (f : X → List Y) (y : Y) (xs : List X) → Among y (flat_map f xs)
    → (x : X) × (Among x xs × Among y (f x))
among_flat_map_from f y [] h = absurd h
among_flat_map_from f y (x ∷ xs) h = elim (among_either y (f x) (flat_map f xs) h) [
  | inl here ↦ (x, (inl refl, here))
  | inr r ↦ (let found = among_flat_map_from f y xs r in (found.0, (inr found.1.0, found.1.1)))
]

among_filter : {X : Type 0} (test : X → Bool) (x : X) (xs : List X) → Among x xs → test x ≡ true → Among x (filter test xs)
among_filter test x [] h t = absurd h
among_filter test x (y ∷ xs) h t = elim h [
  | inl e ↦ (let passes : test y ≡ true = ap test e ∙ t in subst (λ b. Among x (cond b (y ∷ filter test xs) (filter test xs))) (sym
      passes) (inl e))
  | inr r ↦ kept x y (filter test xs) (test y) (among_filter test x xs r t)
]
  where
    kept : {X : Type 0} (x y : X) (zs : List X) (b : Bool) → Among x zs → Among x (cond b (y ∷ zs) zs)
    kept x y zs true h = inr h
    kept x y zs false h = h

among_filter_from : {X : Type 0} (test : X → Bool) (x : X) (xs : List X) → Among x (filter test xs) → Among x xs × (test x ≡ true)
among_filter_from test x [] h = absurd h
among_filter_from test x (y ∷ xs) h =
    elim (test y) as (λ b. test y ≡ b → Among x (cond b (y ∷ filter test xs) (filter test xs)) → Among x (y ∷ xs) × (test x ≡ true)) [
      | true ↦ λ passes here. elim here [
        | inl e ↦ (inl e, ap test (sym e) ∙ passes)
        | inr r ↦
            (let found = among_filter_from test x xs r in (inr found.0, found.1))
      ]
      | false ↦ λ fails r. (let found = among_filter_from test x xs r in (inr found.0, found.1))
    ] refl h

-- ---- every execution is listed, and nothing else
among_up_to : (x n : ℕ) → x ≤ n → Among x (up_to n)
among_up_to x zero h = inl (omega arith)
among_up_to x (suc n) h =
    elim (cases_le x n h) [
      | inl l ↦ among_left x (up_to n) (suc n ∷ []) (among_up_to x n l)
      | inr e ↦
          among_right x (up_to n) (suc n ∷ []) (inl (sym e))
    ]
  where
    cases_le : (x n : ℕ) → x ≤ suc n → (x ≤ n) ⊎ (x ≡ suc n)
    cases_le x n h = elim (cases_lt x (suc n)) [ inl l ↦ inl (omega arith) | inr m ↦ inr (omega arith) ]

up_to_among : (x n : ℕ) → Among x (up_to n) → x ≤ n
up_to_among x zero h = elim h [ inl e ↦ omega arith | inr never ↦ absurd never ]
up_to_among x (suc n) h = elim (among_either x (up_to n) (suc n ∷ []) h) [
  | inl l ↦ (let le = up_to_among x n l in omega arith)
  | inr r ↦ elim r [ inl e ↦ omega arith | inr never ↦ absurd never ]
]

execution_listed : (ss : List Step) (xs : List ℕ) → IsExecution ss xs → Among xs (executions ss)
execution_listed [] [] e = inl refl
execution_listed [] (x ∷ xs) e = absurd e
execution_listed (s ∷ ss) [] e = absurd e
execution_listed (s ∷ ss) (x ∷ xs) e =
    among_flat_map (λ (y : ℕ). map (λ (ys : List ℕ). y ∷ ys) (executions ss)) x (x ∷ xs) (up_to s.qty) (among_up_to x s.qty e.0)
    (among_map (λ (ys : List ℕ). x ∷ ys) xs (executions ss) (execution_listed ss xs e.1))

listed_execution : (ss : List Step) (xs : List ℕ) → Among xs (executions ss) → IsExecution ss xs
listed_execution [] xs h = elim h [ inl e ↦ subst (λ (ys : List ℕ). IsExecution [] ys) e tt | inr never ↦ absurd never ]
listed_execution (s ∷ ss) xs h =
    let outer = among_flat_map_from (λ (y : ℕ). map (λ (ys : List ℕ). y ∷ ys) (executions ss)) xs (up_to s.qty) h in
    let inner = among_map_from (λ (ys : List ℕ). outer.0 ∷ ys) xs (executions ss) outer.1.1 in
    subst (λ (ys : List ℕ). IsExecution (s ∷ ss) ys) inner.1.1 (up_to_among outer.0 s.qty outer.1.0, listed_execution ss inner.0 inner.1.0)

-- ---- the greatest of a list
fold_bounds : (a : ℤ) (zs : List ℤ) → (a ≤ℤ fold int_max a zs) × ((z : ℤ) → Among z zs → z ≤ℤ fold int_max a zs)
fold_bounds a [] = (omega (arith, ints), λ z h. absurd h)
fold_bounds a (y ∷ zs) =
    let rest = fold_bounds (int_max a y) zs in
    (omega (arith, ints, clamps, rest.0), λ z h. elim h [ inl e ↦ omega (arith, ints, clamps, rest.0, e) | inr r ↦ rest.1 z r ])

max_cases : (a b : ℤ) → (int_max a b ≡ a) ⊎ (int_max a b ≡ b)
max_cases a b = by_lt_z a b (λ less. inr (omega (arith, ints, clamps, less))) (λ more. inl (omega (arith, ints, clamps, more)))

fold_reached : (a : ℤ) (zs : List ℤ) → Among (fold int_max a zs) (a ∷ zs)
fold_reached a [] = inl refl
fold_reached a (y ∷ zs) = elim (fold_reached (int_max a y) zs) [
  | inl e ↦ elim (max_cases a y) [ inl f ↦ inl (sym f ∙ e) | inr f ↦ inr (inl (sym f ∙ e)) ]
  | inr r ↦ inr (inr r)
]

greatest_reached : (zs : List ℤ) (w : ℤ) → greatest_of zs ≡ Some w → Among w zs
greatest_reached [] w e = absurd (none_some e)
  where
    none_some : None ≡ Some w → ⊥
    none_some e = cc
greatest_reached (z ∷ zs) w e = let same : fold int_max z zs ≡ w = cc in subst (λ (v : ℤ). Among v (z ∷ zs)) same (fold_reached z zs)

greatest_bound : (zs : List ℤ) (w z : ℤ) → greatest_of zs ≡ Some w → Among z zs → z ≤ℤ w
greatest_bound [] w z e h = absurd h
greatest_bound (y ∷ zs) w z e h =
    let same : fold int_max y zs ≡ w = cc in
    let bounds = fold_bounds y zs in
    elim h [ inl here ↦ omega (arith, ints, bounds.0, same, here) | inr r ↦ (let le = bounds.1 z r in omega (arith, ints, le, same)) ]

greatest_none : (zs : List ℤ) (z : ℤ) → greatest_of zs ≡ None → Among z zs → ⊥
greatest_none [] z e h = h
greatest_none (y ∷ zs) z e h = cc

-- ---- the greatest welfare
-- the welfares of the executions that balance
welfares : List Step → ℤ → List ℤ
welfares ss net = map (welfare_of ss) (filter (does_balance ss net) (executions ss))

welfare_listed : (ss : List Step) (net : ℤ) (xs : List ℕ) → IsExecution ss xs → Balances ss net xs
    → Among (welfare_of ss xs) (welfares ss net)
unfolding welfares
welfare_listed ss net xs e b =
    among_map (welfare_of ss) xs (filter (does_balance ss net) (executions ss))
    (among_filter (does_balance ss net) xs (executions ss) (execution_listed ss xs e)
    ((Decides-int_eq (pos (executed_volume Sell ss xs) +ℤ net) (pos (executed_volume Buy ss xs))).1 b))

listed_welfare : (ss : List Step) (net w : ℤ) → Among w (welfares ss net)
    → (xs : List ℕ) × IsExecution ss xs × Balances ss net xs × (welfare_of ss xs ≡ w)
unfolding welfares
listed_welfare ss net w h =
    let mapped = among_map_from (welfare_of ss) w (filter (does_balance ss net) (executions ss)) h in
    let kept = among_filter_from (does_balance ss net) mapped.0 (executions ss) mapped.1.0 in (
      mapped.0,
      listed_execution ss mapped.0 kept.0,
      (Decides-int_eq (pos (executed_volume Sell ss mapped.0) +ℤ net) (pos (executed_volume Buy ss mapped.0))).0 kept.1,
      mapped.1.1,
    )

pub greatest_welfare_reached : (ss : List Step) (net w : ℤ) → greatest_welfare ss net ≡ Some w
    → (xs : List ℕ) × IsExecution ss xs × Balances ss net xs × (welfare_of ss xs ≡ w)
unfolding greatest_welfare welfares
greatest_welfare_reached ss net w e = listed_welfare ss net w (greatest_reached (welfares ss net) w e)

pub greatest_welfare_bound : (ss : List Step) (net w : ℤ) → greatest_welfare ss net ≡ Some w
    → (xs : List ℕ) → IsExecution ss xs → Balances ss net xs → welfare_of ss xs ≤ℤ w
unfolding greatest_welfare welfares
greatest_welfare_bound ss net w e xs x b = greatest_bound (welfares ss net) w (welfare_of ss xs) e (welfare_listed ss net xs x b)

pub greatest_welfare_none : (ss : List Step) (net : ℤ) → greatest_welfare ss net ≡ None → IsUnbalanced ss net
unfolding greatest_welfare welfares
greatest_welfare_none ss net e xs x b = greatest_none (welfares ss net) (welfare_of ss xs) e (welfare_listed ss net xs x b)

pub greatest_welfare_some : (ss : List Step) (net : ℤ) → IsBalanced ss net → (w : ℤ) × (greatest_welfare ss net ≡ Some w)
greatest_welfare_some ss net b =
    elim (greatest_welfare ss net) as (λ o. greatest_welfare ss net ≡ o → (w : ℤ) × (o ≡ Some w)) [
      | None ↦ λ e. absurd (greatest_welfare_none ss net e b.0 b.1 b.2)
      | Some w ↦ λ e. (w, refl)
    ] refl

pub unbalanced_welfare : (ss : List Step) (net : ℤ) → IsUnbalanced ss net → greatest_welfare ss net ≡ None
unbalanced_welfare ss net u =
    elim (greatest_welfare ss net) as (λ o. greatest_welfare ss net ≡ o → o ≡ None) [
      | None ↦ λ e. refl
      | Some w ↦ λ e. (let found = greatest_welfare_reached ss net w e in absurd (u found.0 found.1 found.2))
    ] refl

pub best_greatest_welfare : (ss : List Step) (net : ℤ) (xs : List ℕ) → IsBest ss net xs → greatest_welfare ss net ≡ Some (welfare_of ss xs)
best_greatest_welfare ss net xs best =
    elim (greatest_welfare ss net) as (λ o. greatest_welfare ss net ≡ o → o ≡ Some (welfare_of ss xs)) [
      | None ↦ λ e. absurd (greatest_welfare_none ss net e xs best.execution best.balance)
      | Some w ↦ λ e.
          (let found = greatest_welfare_reached ss net w e in
          let below = (best.greatest found.0 found.1 found.2).by_welfare in
          let above = greatest_welfare_bound ss net w e xs best.execution best.balance in
          let reached = found.3 in
          let same : w ≡ welfare_of ss xs = omega (arith, ints, below, above, reached) in
          ap (λ (z : ℤ). Some z) same)
    ] refl
