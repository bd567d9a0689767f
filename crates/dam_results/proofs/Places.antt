-- What stands at a place of a list, of a book's rows, or of the executions of a day.
use Rattle.std.proofs.Common.{◌≡◌, ℕ, zero, suc, ◌+◌, Some, List, [], ◌∷◌, ◌++◌, length, take, drop, set, ap, subst, refl, arith}
use Rattle.std.proofs.Common.{Bool}
use Rattle.std.specs.List.{slice_get, remove}
use Rattle.std.proofs.lemmas.List.Elements.{filter_map-append}
use Rattle.std.proofs.lemmas.Option.{same_Some}
use Rattle.dam_book.specs.Book.{Row}
use Rattle.dam_hour.specs.declared.step.Step.{Step}
use Rattle.dam_hour.specs.Best.{IsBest}
use Rattle.dam_blocks.specs.declared.problem.Block.{Block}
use Rattle.dam_blocks.specs.declared.problem.Place.TheVariants.{Hour as AtHour, Block as AtBlock}
use Rattle.dam_blocks.specs.Problem.{step_in, steps_in, block_under, blocks_in}
use Rattle.dam_blocks.specs.Selection.{net_volume}
use Rattle.dam_blocks.specs.Market.{AreBestExecutions}

pub same_hour : (t i s j : ℕ) → AtHour t i ≡ AtHour s j → (t ≡ s) × (i ≡ j)
same_hour t i s j e = (cc, cc)

pub same_block : (i j : ℕ) → AtBlock i ≡ AtBlock j → i ≡ j
same_block i j e = cc

-- ---- lists
pub get_between : {A : Type 0} (xs ys : List A) (y : A) → slice_get (xs ++ y ∷ ys) (length xs) ≡ Some y
get_between [] ys y = refl
get_between (x ∷ xs) ys y = get_between xs ys y

pub parted : {A : Type 0} (xs : List A) (n : ℕ) (x : A) → slice_get xs n ≡ Some x → (xs ≡ take n xs ++ x ∷ drop (suc n) xs) × (length (take n xs) ≡ n)
parted [] n x e = absurd (cc)
parted {A = A} (y ∷ xs) zero x e = (ap (λ (z : A). z ∷ xs) (same_Some y x e), refl)
parted {A = A} (y ∷ xs) (suc n) x e =
    let rest = parted xs n x e in (ap (λ (zs : List A). y ∷ zs) rest.0, ap suc rest.1)

pub gone : {A : Type 0} (xs ys : List A) (y : A) → remove (xs ++ y ∷ ys) (length xs) ≡ xs ++ ys
gone [] ys y = refl
gone {A = A} (x ∷ xs) ys y = ap (λ (zs : List A). x ∷ zs) (gone xs ys y)

pub replaced : {A : Type 0} (xs : List A) (n : ℕ) (x y : A) → slice_get xs n ≡ Some x → set xs n y ≡ take n xs ++ y ∷ drop (suc n) xs
replaced [] n x y e = absurd (cc)
replaced (z ∷ xs) zero x y e = refl
replaced {A = A} (z ∷ xs) (suc n) x y e = ap (λ (zs : List A). z ∷ zs) (replaced xs n x y e)

-- ---- the rows of a book
pub blocks_split : (front rest : List Row) → blocks_in (front ++ rest) ≡ blocks_in front ++ blocks_in rest
blocks_split front rest = filter_map-append (λ (r : Row). block_under r.0.0 r.0.1 r.1) front rest

pub steps_split : (t : ℕ) (front rest : List Row) → steps_in t (front ++ rest) ≡ steps_in t front ++ steps_in t rest
steps_split t front rest = filter_map-append (λ (r : Row). step_in t r.1) front rest

-- ---- the execution of a period
pub best_at : (blocks : List Block) (sel : List Bool) (t k : ℕ) (hours : List (List Step)) (executions : List (List ℕ)) (ss : List Step)
    → AreBestExecutions blocks sel t hours executions → slice_get hours k ≡ Some ss
    → (xs : List ℕ) × (slice_get executions k ≡ Some xs) × IsBest ss (net_volume blocks sel (k + t)) xs
best_at blocks sel t k [] [] ss are e = absurd (cc)
best_at blocks sel t k [] (xs ∷ executions) ss are e = absurd are
best_at blocks sel t k (hour ∷ hours) [] ss are e = absurd are
best_at blocks sel t zero (hour ∷ hours) (xs ∷ executions) ss are e =
    let same = same_Some hour ss e in
    let first : t ≡ 0 + t = omega arith in (
      xs,
      refl,
      subst (λ (n : ℕ). IsBest ss (net_volume blocks sel n) xs) first
          (subst (λ (h : List Step). IsBest h (net_volume blocks sel t) xs) same are.0),
    )
best_at blocks sel t (suc k) (hour ∷ hours) (xs ∷ executions) ss are e =
    let rest = best_at blocks sel (suc t) k hours executions ss are.1 e in
    let next : k + suc t ≡ suc k + t = omega arith in
    (rest.0, rest.1, subst (λ (n : ℕ). IsBest ss (net_volume blocks sel n) rest.0) next rest.2)
