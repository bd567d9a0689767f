-- In every order of the hourly orders of a period, the prices, the welfare and the result are the same.
use Rattle.dam_blocks.proofs.Common.{◌≡◌, ℕ, suc, ℤ, ◌+ℤ◌, Bool, Option, List, [], ◌∷◌, ap, ap₂, ◌∙◌, sym, subst, refl, IsPermutation, option_map, Step}
use Rattle.dam_blocks.proofs.Common.{AreEnds, greatest_welfare, Block, ProblemState, net_volume, accepted_value, IsAdmissible, ArePrices, HasNoLoss, added}
use Rattle.dam_blocks.proofs.Common.{welfare_from, IsEligible, IsResult}
use Rattle.std.proofs.lemmas.List.Sorted.{IsPermutation-sym}
use Rattle.dam_blocks.specs.Changes.{AreReordered, IsReordered}

-- the laws of one period on another order of its hourly orders
pub record OrderLaws : Type 0 where
  pub welfare : (ss ts : List Step) (net : ℤ) → IsPermutation ss ts → greatest_welfare ss net ≡ greatest_welfare ts net
  pub ends : (ss ts : List Step) (net low high : ℤ) → IsPermutation ss ts → AreEnds ss net low high → AreEnds ts net low high

back : (hours others : List (List Step)) → AreReordered hours others → AreReordered others hours
back [] [] is = tt
back [] (ts ∷ others) is = absurd is
back (ss ∷ hours) [] is = absurd is
back (ss ∷ hours) (ts ∷ others) is = (IsPermutation-sym ss ts is.0, back hours others is.1)

prices_too : OrderLaws → (blocks : List Block) (sel : List Bool) (t : ℕ) (hours others : List (List Step)) (prices : List ℤ)
    → AreReordered hours others → ArePrices blocks sel t hours prices → ArePrices blocks sel t others prices
prices_too laws blocks sel t [] [] prices is are = are
prices_too laws blocks sel t [] (ts ∷ others) prices is are = absurd is
prices_too laws blocks sel t (ss ∷ hours) [] prices is are = absurd is
prices_too laws blocks sel t (ss ∷ hours) (ts ∷ others) [] is are = absurd are
prices_too laws blocks sel t (ss ∷ hours) (ts ∷ others) (p ∷ prices) is are = (
  record {
    low = are.0.low;
    high = are.0.high;
    ends = laws.ends ss ts (net_volume blocks sel t) are.0.low are.0.high is.0 are.0.ends;
    between = are.0.between;
  },
  prices_too laws blocks sel (suc t) hours others prices is.1 are.1,
)

welfare_too : OrderLaws → (blocks : List Block) (sel : List Bool) (t : ℕ) (hours others : List (List Step)) → AreReordered hours others
    → welfare_from blocks sel t hours ≡ welfare_from blocks sel t others
welfare_too laws blocks sel t [] [] is = refl
welfare_too laws blocks sel t [] (ts ∷ others) is = absurd is
welfare_too laws blocks sel t (ss ∷ hours) [] is = absurd is
welfare_too laws blocks sel t (ss ∷ hours) (ts ∷ others) is =
    ap₂ (λ (x y : Option ℤ). added x y)
    (ap (λ (x : Option ℤ). option_map (λ w. w +ℤ accepted_value blocks sel t) x) (laws.welfare ss ts (net_volume blocks sel t) is.0))
    (welfare_too laws blocks sel (suc t) hours others is.1)

turned : (problem other : ProblemState) → IsReordered problem other → IsReordered other problem
turned problem other is = record { hours = back problem.hours other.hours is.hours; blocks = sym is.blocks }

pub same_prices : OrderLaws → (problem other : ProblemState) (sel : List Bool) (prices : List ℤ) → IsReordered problem other
    → ArePrices problem.blocks sel 1 problem.hours prices → ArePrices other.blocks sel 1 other.hours prices
same_prices laws problem other sel prices is are =
    subst (λ (bs : List Block). ArePrices bs sel 1 other.hours prices) (sym is.blocks)
    (prices_too laws problem.blocks sel 1 problem.hours other.hours prices is.hours are)

eligible_too : OrderLaws → (problem other : ProblemState) (sel : List Bool) (w : ℤ) → IsReordered problem other → IsEligible problem sel w
    → IsEligible other sel w
eligible_too laws problem other sel w is e = record {
  as_long = e.as_long;
  admissible = subst (λ (bs : List Block). IsAdmissible bs sel) (sym is.blocks) e.admissible;
  prices = e.prices;
  are_prices = same_prices laws problem other sel e.prices is e.are_prices;
  no_loss = subst (λ (bs : List Block). HasNoLoss bs sel e.prices) (sym is.blocks) e.no_loss;
  welfare_is = ap (λ (bs : List Block). welfare_from bs sel 1 other.hours) is.blocks
      ∙ sym (welfare_too laws problem.blocks sel 1 problem.hours other.hours is.hours)
      ∙ e.welfare_is;
}

pub same_result : OrderLaws → (problem other : ProblemState) (sel : List Bool) (w : ℤ) → IsReordered problem other → IsResult problem sel w
    → IsResult other sel w
same_result laws problem other sel w is result = record {
  eligible = eligible_too laws problem other sel w is result.eligible;
  others = λ ys v e. result.others ys v (eligible_too laws other problem ys v (turned problem other is) e);
}
