-- The facts on which the verdict on a selection rests, and the verdicts that it rules out.
use Rattle.dam_blocks.proofs.Common.{◌≡◌, ◌≢◌, ℕ, zero, suc, ◌+◌, ◌-◌, ◌<◌, ℤ, pos, negsuc, nat_abs, ◌≤ℤ◌, Bool, Some, List, [], ◌∷◌, length, take, ◌∙◌, sym}
use Rattle.dam_blocks.proofs.Common.{subst, refl, arith, ints, most_blocks, Step, Balances, Block, ProblemState, net_volume, IsAdmissible, IsClearingPrice}
use Rattle.dam_blocks.proofs.Common.{ArePrices, family_surplus, HasNoLoss, selection_welfare, IsEligible}
use Rattle.std.specs.List.{slice_get}
use Rattle.dam_blocks.specs.declared.scoring.Verdict.{Verdict}
use Rattle.dam_blocks.specs.declared.scoring.Verdict.TheVariants.{NotAdmissible, Unbalanced, Losing, Eligible}
use Rattle.dam_blocks.specs.Score.{IsFirstUnbalanced, IsFirstLosing, IsVerdict}
use Rattle.dam_blocks.proofs.PricesUnique.{prices_unique}

pub eligible_from : (problem : ProblemState) (sel : List Bool) (prices : List ℤ) (hours : List (List Step)) (w : ℤ) → hours ≡ problem.hours
    → length sel ≡ most_blocks → IsAdmissible problem.blocks sel
    → ArePrices problem.blocks sel 1 problem.hours (take (length problem.hours) prices)
    → HasNoLoss problem.blocks sel (take (length hours) prices) → selection_welfare problem sel ≡ Some w → IsEligible problem sel w
eligible_from problem sel prices hours w same long admissible are no_loss welfare = record {
  as_long = long;
  admissible = admissible;
  prices = take (length problem.hours) prices;
  are_prices = are;
  no_loss = subst (λ (hs : List (List Step)). HasNoLoss problem.blocks sel (take (length hs) prices)) same no_loss;
  welfare_is = welfare;
}

pub natural : (z : ℤ) → pos 0 ≤ℤ z → pos (nat_abs z) ≡ z
natural (pos n) h = refl
natural (negsuc n) h = absurd (let no : 0 < 0 = omega (arith, ints, h) in omega (arith, no))

pub one_welfare : (problem : ProblemState) (sel : List Bool) (v w : ℤ) → IsEligible problem sel v → IsEligible problem sel w → v ≡ w
one_welfare problem sel v w e f = let a = e.welfare_is in let b = f.welfare_is in cc

-- the verdict of an eligible selection is its welfare
same_number : (v w : ℤ) → Some v ≡ Some w → v ≡ w
same_number v w e = cc

price_at : (blocks : List Block) (sel : List Bool) (t : ℕ) (hours : List (List Step)) (prices : List ℤ) (i : ℕ) (ss : List Step)
    → ArePrices blocks sel t hours prices
    → slice_get hours i ≡ Some ss → (p : ℤ) × IsClearingPrice ss (net_volume blocks sel (i + t)) p
price_at blocks sel t [] prices i ss are e = absurd (cc)
price_at blocks sel t (hour ∷ hours) [] i ss are e = absurd are
price_at blocks sel t (hour ∷ hours) (p ∷ prices) zero ss are e =
    let same : hour ≡ ss = cc in
    let first : t ≡ 0 + t = omega arith in (
      p,
      subst (λ (n : ℕ). IsClearingPrice ss (net_volume blocks sel n) p) first
          (subst (λ (h : List Step). IsClearingPrice h (net_volume blocks sel t) p) same are.0),
    )
price_at blocks sel t (hour ∷ hours) (p ∷ prices) (suc i) ss are e =
    let rest = price_at blocks sel (suc t) hours prices i ss are.1 e in
    let next : i + suc t ≡ suc i + t = omega arith in
    (rest.0, subst (λ (n : ℕ). IsClearingPrice ss (net_volume blocks sel n) rest.0) next rest.1)

balanced : (problem : ProblemState) (sel : List Bool) (t : ℕ) (v : ℤ) → IsFirstUnbalanced problem sel t → IsEligible problem sel v → ⊥
balanced problem sel t v u e =
    let least = u.from_one in
    let found = price_at problem.blocks sel 1 problem.hours e.prices (t - 1) u.hour e.are_prices u.stands in
    let again : (t - 1) + 1 ≡ t = omega (arith, least) in
    let supports = found.1.ends.low_supports in
    u.unbalanced supports.volumes supports.execution
    (subst (λ (n : ℕ). Balances u.hour (net_volume problem.blocks sel n) supports.volumes) again supports.balance)

none_loses : (problem : ProblemState) (sel : List Bool) (i : ℕ) (v : ℤ) (prices : List ℤ)
    → ArePrices problem.blocks sel 1 problem.hours prices
    → IsFirstLosing problem.blocks sel prices i → IsEligible problem sel v → ⊥
none_loses problem sel i v prices are l e =
    let same = prices_unique problem.blocks sel 1 problem.hours e.prices prices e.are_prices are in
    let gains = e.no_loss.gains i l.accepted in
    let gains_here = subst (λ (ps : List ℤ). pos 0 ≤ℤ family_surplus problem.blocks sel ps i) same gains in
    let loses = l.loses in
    absurd (let no : 0 < 0 = omega (arith, ints, gains_here, loses) in omega (arith, no))

pub verdict_eligible : (problem : ProblemState) (sel : List Bool) (verdict : Verdict) (v : ℤ) → IsVerdict problem sel verdict
    → IsEligible problem sel v
    → (w : ℕ) × (verdict ≡ Eligible w) × (v ≡ pos w)
verdict_eligible problem sel NotAdmissible v is e = absurd (is e.admissible)
verdict_eligible problem sel (Unbalanced t) v is e = absurd (balanced problem sel t v is.1 e)
verdict_eligible problem sel (Losing i) v is e = absurd (none_loses problem sel i v is.1.0 is.1.1 is.1.2 e)
verdict_eligible problem sel (Eligible w) v is e = (w, refl, same_number v (pos w) (sym e.welfare_is ∙ is.welfare_is))

-- the same as a law, with the parts in the order of its clauses
pub eligible_verdict : (problem : ProblemState) (sel : List Bool) (verdict : Verdict) (v : ℤ) → IsVerdict problem sel verdict
    → IsEligible problem sel v
    → (n : ℕ) × (v ≡ pos n) × (verdict ≡ Eligible n)
eligible_verdict problem sel verdict v is e = let found = verdict_eligible problem sel verdict v is e in (found.0, found.2, found.1)

pub other_verdict : (problem : ProblemState) (sel : List Bool) (verdict : Verdict) (v : ℤ) → IsVerdict problem sel verdict
    → ((n : ℕ) → verdict ≢ Eligible n)
    → IsEligible problem sel v → ⊥
other_verdict problem sel verdict v is other e = let found = verdict_eligible problem sel verdict v is e in other found.0 found.1
