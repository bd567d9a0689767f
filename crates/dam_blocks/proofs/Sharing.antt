-- The welfare of a selection is the gain of its orders, and as much is bought as is sold.
use Rattle.dam_blocks.proofs.Common.{◌≡◌, ℕ, suc, ℤ, pos, neg_ℤ, ◌+ℤ◌, ◌*ℤ◌, Bool, Option, Some, List, [], ◌∷◌, length, ap, ap₂, ◌∙◌, sym, refl, arith}
use Rattle.dam_blocks.proofs.Common.{option_map, ints, Side, Buy, Sell, Step, Balances, signed, IsBest, welfare_of, execution_surplus, greatest_welfare, Block}
use Rattle.dam_blocks.proofs.Common.{ProblemState, over_accepted, volume_in, net_volume_of_block, net_volume, accepted_value, ArePrices, surplus_in}
use Rattle.dam_blocks.proofs.Common.{surplus_from, added, period_welfare, welfare_from, selection_welfare, AreBestExecutions}
use Rattle.dam_hour.specs.Execution.{volume_on}
use Rattle.dam_blocks.specs.Market.{block_volume_of, traded, money_from, hourly_surplus, accepted_surplus}
use Rattle.dam_blocks.proofs.Sums.{over_accepted-plus, over_accepted-same, over_accepted-zero, accepted_surplus as value_and_price}

-- the laws of one period on a best execution
pub record SharingLaws : Type 0 where
  pub best : (ss : List Step) (net : ℤ) (xs : List ℕ) → IsBest ss net xs → greatest_welfare ss net ≡ Some (welfare_of ss xs)
  pub welfare : (p net : ℤ) (ss : List Step) (xs : List ℕ) → Balances ss net xs → welfare_of ss xs ≡ execution_surplus p ss xs +ℤ p *ℤ net

-- ---- welfare
both_there : (x y : Option ℤ) (u v w : ℤ) → x ≡ Some u → y ≡ Some v → u +ℤ v ≡ w → added x y ≡ Some w
both_there x y u v w e f sum = ap₂ (λ (a b : Option ℤ). added a b) e f ∙ ap (λ (z : ℤ). Some z) sum

raised_to : (x : Option ℤ) (k g u : ℤ) → x ≡ Some g → g +ℤ k ≡ u → option_map (λ w. w +ℤ k) x ≡ Some u
raised_to x k g u e sum = ap (λ (o : Option ℤ). option_map (λ w. w +ℤ k) o) e ∙ ap (λ (z : ℤ). Some z) sum

shared_from : SharingLaws → (blocks : List Block) (sel : List Bool) (t : ℕ) (hours : List (List Step)) (prices : List ℤ)
    (executions : List (List ℕ)) → length prices ≡ length hours → AreBestExecutions blocks sel t hours executions
    → welfare_from blocks sel t hours ≡ Some (hourly_surplus prices hours executions +ℤ over_accepted (surplus_from t prices) blocks sel)
shared_from laws blocks sel t [] [] [] long are =
    let none = over_accepted-zero blocks sel in
    let sum : pos 0 ≡ pos 0 +ℤ over_accepted (λ o. pos 0) blocks sel = omega (arith, ints, none) in
    ap (λ (z : ℤ). Some z) sum
shared_from laws blocks sel t [] (p ∷ prices) executions long are = absurd (omega (arith, long))
shared_from laws blocks sel t [] [] (xs ∷ executions) long are = absurd are
shared_from laws blocks sel t (ss ∷ hours) [] executions long are = absurd (omega (arith, long))
shared_from laws blocks sel t (ss ∷ hours) (p ∷ prices) [] long are = absurd are
shared_from laws blocks sel t (ss ∷ hours) (p ∷ prices) (xs ∷ executions) long are =
    let net = net_volume blocks sel t in
    let rest = shared_from laws blocks sel (suc t) hours prices executions (omega (arith, long)) are.1 in
    let here : period_welfare blocks sel t ss ≡ Some (welfare_of ss xs +ℤ accepted_value blocks sel t) =
    raised_to (greatest_welfare ss net) (accepted_value blocks sel t) (welfare_of ss xs) (welfare_of ss xs +ℤ accepted_value blocks sel t)
    (laws.best ss net xs are.0) refl in
    let split = laws.welfare p net ss xs are.0.balance in
    let value = value_and_price blocks sel t p in
    let parts = over_accepted-plus (surplus_in t p) (surplus_from (suc t) prices) blocks sel in
    both_there (period_welfare blocks sel t ss) (welfare_from blocks sel (suc t) hours) (welfare_of ss xs +ℤ accepted_value blocks sel t)
    (hourly_surplus prices hours executions +ℤ over_accepted (surplus_from (suc t) prices) blocks sel)
    (hourly_surplus (p ∷ prices) (ss ∷ hours) (xs ∷ executions) +ℤ over_accepted (surplus_from t (p ∷ prices)) blocks sel)
    here rest (omega (arith, ints, split, value, parts))

pub shared : SharingLaws → (problem : ProblemState) (sel : List Bool) (prices : List ℤ) (executions : List (List ℕ))
    → length prices ≡ length problem.hours → AreBestExecutions problem.blocks sel 1 problem.hours executions
    → selection_welfare problem sel ≡ Some (hourly_surplus prices problem.hours executions +ℤ accepted_surplus prices problem.blocks sel)
shared laws problem sel prices executions long are = shared_from laws problem.blocks sel 1 problem.hours prices executions long are

pub length_prices : (blocks : List Block) (sel : List Bool) (t : ℕ) (hours : List (List Step)) (prices : List ℤ)
    → ArePrices blocks sel t hours prices → length prices ≡ length hours
length_prices blocks sel t [] [] are = refl
length_prices blocks sel t [] (p ∷ prices) are = absurd are
length_prices blocks sel t (ss ∷ hours) [] are = absurd are
length_prices blocks sel t (ss ∷ hours) (p ∷ prices) are = ap suc (length_prices blocks sel (suc t) hours prices are.1)

-- ---- volume and money
sold_is : (side : Side) (x : ℕ) → neg_ℤ (signed side (pos x)) +ℤ pos (volume_on Buy side x) ≡ pos (volume_on Sell side x)
sold_is Buy x = omega (arith, ints)
sold_is Sell x = omega (arith, ints)

blocks_sell : (blocks : List Block) (sel : List Bool) (t : ℕ)
    → net_volume blocks sel t +ℤ over_accepted (block_volume_of Buy t) blocks sel ≡ over_accepted (block_volume_of Sell t) blocks sel
blocks_sell blocks sel t =
    sym (over_accepted-plus (net_volume_of_block t) (block_volume_of Buy t) blocks sel)
    ∙ over_accepted-same (λ o. net_volume_of_block t o +ℤ block_volume_of Buy t o) (block_volume_of Sell t) blocks sel
    (λ o. sold_is o.side (volume_in o.volumes t))

pub volume_balances : (blocks : List Block) (sel : List Bool) (t : ℕ) (ss : List Step) (xs : List ℕ)
    → IsBest ss (net_volume blocks sel t) xs → traded Buy blocks sel t ss xs ≡ traded Sell blocks sel t ss xs
volume_balances blocks sel t ss xs best =
    let balance = best.balance in let sell = blocks_sell blocks sel t in omega (arith, ints, balance, sell)

pub money_in_period : (blocks : List Block) (sel : List Bool) (t : ℕ) (ss : List Step) (xs : List ℕ) (p : ℤ)
    → IsBest ss (net_volume blocks sel t) xs → p *ℤ traded Buy blocks sel t ss xs ≡ p *ℤ traded Sell blocks sel t ss xs
money_in_period blocks sel t ss xs p best = ap (λ (x : ℤ). p *ℤ x) (volume_balances blocks sel t ss xs best)

pub money_balances : (blocks : List Block) (sel : List Bool) (t : ℕ) (prices : List ℤ) (hours : List (List Step))
    (executions : List (List ℕ)) → AreBestExecutions blocks sel t hours executions
    → money_from Buy blocks sel t prices hours executions ≡ money_from Sell blocks sel t prices hours executions
money_balances blocks sel t [] hours executions are = refl
money_balances blocks sel t (p ∷ prices) [] executions are = refl
money_balances blocks sel t (p ∷ prices) (ss ∷ hours) [] are = refl
money_balances blocks sel t (p ∷ prices) (ss ∷ hours) (xs ∷ executions) are =
    ap₂ (λ (x y : ℤ). p *ℤ x +ℤ y) (volume_balances blocks sel t ss xs are.0)
    (money_balances blocks sel (suc t) prices hours executions are.1)
