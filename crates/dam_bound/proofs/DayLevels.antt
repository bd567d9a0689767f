-- The levels of the day, period by period.
use Rattle.dam_bound.proofs.Common.{◌≡◌, ℕ, zero, suc, ◌+◌, ◌<◌, ◌≤◌, ◌⊎◌, inl, inr, true, Some, List, [], ◌∷◌, ◌++◌, length, map, ap, ap₂, ◌∙◌, sym, subst}
use Rattle.dam_bound.proofs.Common.{refl, arith, slice_get, nat_tests, last_period, Step, Block, ProblemState, AreBlocks, last_steps}
use Rattle.std.proofs.Common.{Result, Ok, Err, IfOk, length-append}
use Rattle.std.specs.Option.{option_map}
use Rattle.std.proofs.lemmas.Option.{slice_get-map}
use Rattle.dam_book.specs.Book.{is_day}
use Rattle.dam_blocks.specs.Problem.{IsProblem, hourly_orders}
use Rattle.dam_bound.specs.inside.Levels.{LevelsState, AreLevels, AreLevelsAt, AreDayLevels}

-- an element of a list with one more at its end
pub of_pushed : {X : Type 0} (xs : List X) (y : X) (i : ℕ) (x : X) → slice_get (xs ++ y ∷ []) i ≡ Some x
    → (slice_get xs i ≡ Some x) ⊎ ((i ≡ length xs) × (y ≡ x))
of_pushed [] y zero x e = inr (refl, cc)
of_pushed [] y (suc i) x e = absurd (cc)
of_pushed (z ∷ xs) y zero x e = inl e
of_pushed (z ∷ xs) y (suc i) x e = elim (of_pushed xs y i x e) [ inl old ↦ inl old | inr new ↦ inr (ap suc new.0, new.1) ]

-- no period has more steps than the day has hourly orders
pub few_in_period : (hours : List (List Step)) (i most : ℕ) (ss : List Step) → hourly_orders hours ≤ most → slice_get hours i ≡ Some ss
    → length ss ≤ most
few_in_period [] i most ss few e = absurd (cc)
few_in_period (hour ∷ hours) zero most ss few e = let same : hour ≡ ss = cc in omega (arith, few, ap length same)
few_in_period (hour ∷ hours) (suc i) most ss few e = few_in_period hours i most ss (omega (arith, few)) e

-- the levels that are made of the steps of the period at a place
pub made_at : {E : Type 0} (hours : List (List Step)) (blocks bs : List Block) (place t : ℕ) (ss : List Step) (made : Result LevelsState E)
    → slice_get hours place ≡ Some ss → t ≡ place + 1 → bs ≡ blocks
    → IfOk made (λ levels. AreLevels t ss bs levels) → IfOk made (λ levels. last_steps levels ≡ ss)
    → IfOk made (AreLevelsAt hours blocks place)
made_at hours blocks bs place t ss (Ok levels) at period same are last = record {
  last = at ∙ ap (λ (hs : List Step). Some hs) (sym last);
  each = subst (λ (hs : List Step). AreLevels (place + 1) hs blocks levels) (sym last)
      (subst (λ (u : ℕ). AreLevels u ss blocks levels) period (subst (λ (others : List Block). AreLevels t ss others levels) same are));
}
made_at hours blocks bs place t ss (Err e) at period same are last = tt

-- the levels of the periods so far
pub record AreDaySoFar (blocks : List Block) (hours : List (List Step)) (count : ℕ) (periods : List LevelsState) : Type 0 where
  pub long : length periods ≡ count
  pub each : (i : ℕ) (levels : LevelsState) → slice_get periods i ≡ Some levels → AreLevelsAt hours blocks i levels

pub one_period : (blocks : List Block) (hours : List (List Step)) (count : ℕ) (periods : List LevelsState) (levels : LevelsState)
    → AreLevelsAt hours blocks count levels → AreDaySoFar blocks hours count periods
    → AreDaySoFar blocks hours (count + 1) (periods ++ levels ∷ [])
one_period blocks hours count periods levels at so_far =
    let long = so_far.long in
    record {
      long = omega (arith, length-append periods (levels ∷ []), long);
      each = λ i other e. elim (of_pushed periods levels i other e) [
        | inl old ↦ so_far.each i other old
        | inr new ↦
            (let here : count ≡ i = omega (arith, new.0, long) in
            subst (λ (l : LevelsState). AreLevelsAt hours blocks i l) new.1 (subst (λ (n : ℕ). AreLevelsAt hours blocks n levels) here at))
      ];
    }

-- a day has at most the periods of the longest one
short_day : (periods : ℕ) → is_day periods ≡ true → periods ≤ last_period
short_day periods day = grind (arith, nat_tests)

pub all_periods : (problem : ProblemState) (count : ℕ) (periods : List LevelsState) → IsProblem problem → count ≡ length problem.hours
    → AreDaySoFar problem.blocks problem.hours count periods → AreDayLevels problem.blocks periods
all_periods problem count periods is all so_far =
    let long = so_far.long in let short = short_day (length problem.hours) is.day in
    record { few_periods = omega (arith, long, all, short); few_blocks = is.few_blocks; each = λ i levels e. (so_far.each i levels e).each }

some_same : {X : Type 0} (x y : X) → Some x ≡ Some y → x ≡ y
some_same x y e = cc

-- the last steps of each period are its own
steps_of_each : (periods : List LevelsState) (hours : List (List Step)) → length periods ≡ length hours
    → ((i : ℕ) (levels : LevelsState) → slice_get periods i ≡ Some levels → slice_get hours i ≡ Some (last_steps levels))
    → map last_steps periods ≡ hours
steps_of_each [] [] long each = refl
steps_of_each [] (hour ∷ hours) long each = absurd (omega (arith, long))
steps_of_each (levels ∷ periods) [] long each = absurd (omega (arith, long))
steps_of_each (levels ∷ periods) (hour ∷ hours) long each =
    ap₂ (λ (x : List Step) (xs : List (List Step)). x ∷ xs) (sym (some_same hour (last_steps levels) (each zero levels refl)))
    (steps_of_each periods hours (omega (arith, long)) (λ i other e. each (suc i) other e))

pub all_hours : (problem : ProblemState) (count : ℕ) (periods : List LevelsState) → count ≡ length problem.hours
    → AreDaySoFar problem.blocks problem.hours count periods → map last_steps periods ≡ problem.hours
all_hours problem count periods all so_far = steps_of_each periods problem.hours (so_far.long ∙ all)
    (λ i levels e. (so_far.each i levels e).last)

pub all_blocks : (problem : ProblemState) (count : ℕ) (periods : List LevelsState) → IsProblem problem → count ≡ length problem.hours
    → AreDaySoFar problem.blocks problem.hours count periods → AreBlocks (length periods) problem.blocks
all_blocks problem count periods is all so_far = subst (λ (n : ℕ). AreBlocks n problem.blocks) (sym (so_far.long ∙ all)) is.blocks

-- the steps of a period of the day
pub hour_of : (periods : List LevelsState) (i : ℕ) (levels : LevelsState) → slice_get periods i ≡ Some levels
    → slice_get (map last_steps periods) i ≡ Some (last_steps levels)
hour_of periods i levels e = slice_get-map last_steps periods i ∙ ap (option_map last_steps) e

-- a list has an element at each of its places
pub one_at : {X : Type 0} (xs : List X) (i : ℕ) → i < length xs → (x : X) × (slice_get xs i ≡ Some x)
one_at [] i l = absurd (omega (arith, l))
one_at (x ∷ xs) zero l = (x, refl)
one_at (x ∷ xs) (suc i) l = one_at xs i (omega (arith, l))
