-- Two selections, perhaps of two problems: if the blocks' net volumes are the same in each period, so are prices and
-- executions; if their values are too, so is the welfare.
use Rattle.dam_blocks.proofs.Common.{◌≡◌, ℕ, suc, ℤ, ◌+ℤ◌, Bool, Option, List, [], ◌∷◌, ap₂, subst, refl, option_map, Step, IsBest, greatest_welfare, Block}
use Rattle.dam_blocks.proofs.Common.{net_volume, accepted_value, IsClearingPrice, ArePrices, added, welfare_from, AreBestExecutions}

pub prices_transfer : (bs cs : List Block) (xs ys : List Bool) (t : ℕ) (hours : List (List Step)) (prices : List ℤ)
    → ((s : ℕ) → net_volume bs xs s ≡ net_volume cs ys s) → ArePrices bs xs t hours prices → ArePrices cs ys t hours prices
prices_transfer bs cs xs ys t [] [] net are = tt
prices_transfer bs cs xs ys t [] (p ∷ prices) net are = absurd are
prices_transfer bs cs xs ys t (ss ∷ hours) [] net are = absurd are
prices_transfer bs cs xs ys t (ss ∷ hours) (p ∷ prices) net are =
    (subst (λ (z : ℤ). IsClearingPrice ss z p) (net t) are.0, prices_transfer bs cs xs ys (suc t) hours prices net are.1)

pub executions_transfer : (bs cs : List Block) (xs ys : List Bool) (t : ℕ) (hours : List (List Step)) (executions : List (List ℕ))
    → ((s : ℕ) → net_volume bs xs s ≡ net_volume cs ys s) → AreBestExecutions bs xs t hours executions
    → AreBestExecutions cs ys t hours executions
executions_transfer bs cs xs ys t [] [] net are = tt
executions_transfer bs cs xs ys t [] (v ∷ executions) net are = absurd are
executions_transfer bs cs xs ys t (ss ∷ hours) [] net are = absurd are
executions_transfer bs cs xs ys t (ss ∷ hours) (v ∷ executions) net are =
    (subst (λ (z : ℤ). IsBest ss z v) (net t) are.0, executions_transfer bs cs xs ys (suc t) hours executions net are.1)

pub welfare_transfer : (bs cs : List Block) (xs ys : List Bool) (t : ℕ) (hours : List (List Step))
    → ((s : ℕ) → net_volume bs xs s ≡ net_volume cs ys s) → ((s : ℕ) → accepted_value bs xs s ≡ accepted_value cs ys s)
    → welfare_from bs xs t hours ≡ welfare_from cs ys t hours
welfare_transfer bs cs xs ys t [] net value = refl
welfare_transfer bs cs xs ys t (ss ∷ hours) net value =
    ap₂ (λ (x y : Option ℤ). added x y)
    (ap₂ (λ (n k : ℤ). option_map (λ w. w +ℤ k) (greatest_welfare ss n)) (net t) (value t))
    (welfare_transfer bs cs xs ys (suc t) hours net value)
