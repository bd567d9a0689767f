-- A problem has a result: whether a selection is eligible is decided, and of the eligible ones one is the best.
use Rattle.dam_blocks.proofs.Common.{◌≡◌, ℕ, zero, suc, ◌+◌, ◌-◌, ◌≤◌, ◌^◌, ℤ, pos, neg_ℤ, ◌≤ℤ◌, Bool, true, false, inl, inr, List, [], ◌∷◌, length, replicate}
use Rattle.dam_blocks.proofs.Common.{length-append, subst, refl, arith, Buy, Sell, most_blocks, Step, IsExecution, Balances, map_dec, Block, ProblemState}
use Rattle.dam_blocks.proofs.Common.{AreHoursInRange, IsProblem, accepts, padded, choice, net_volume, IsAdmissible, ArePrices, family_surplus, HasNoLoss}
use Rattle.dam_blocks.proofs.Common.{IsEligible, RanksAtOrBelow, IsResult}
use Rattle.std.proofs.lemmas.List.{length-replicate}
use Rattle.dam_hour.specs.Execution.{offered_volume, IsWithinOffers}
use Rattle.dam_blocks.specs.Selection.{empty_selection}
use Rattle.dam_blocks.proofs.Deciding.{decided_both, decided_if, decided_true, decided_at_least, decided_each}
use Rattle.dam_blocks.proofs.AdmissionDecided.{accepted_within, decided_admissible}
use Rattle.dam_blocks.proofs.EmptySelection.{ExistenceLaws, AreWithin, Cleared, cleared}
use Rattle.dam_blocks.proofs.PricesUnique.{prices_unique}
use Rattle.dam_blocks.proofs.Verdicts.{one_welfare}
use Rattle.dam_blocks.proofs.Ranks.{ranks_self, ranks_either, above_below}
use Rattle.dam_blocks.proofs.Choices.{length-choice, IsBestSoFar, none_tried, one_tried, all_tried}

-- an execution balances only if the net volume is within the offers
abbrev pub BalanceLaw : Type 0
BalanceLaw = (ss : List Step) (net : ℤ) (xs : List ℕ) → IsExecution ss xs → Balances ss net xs → IsWithinOffers ss net

-- ---- the periods
decided_within_offers : (ss : List Step) (net : ℤ) → Dec (IsWithinOffers ss net)
decided_within_offers ss net =
    map_dec {A = (neg_ℤ (pos (offered_volume Sell ss)) ≤ℤ net) × (net ≤ℤ pos (offered_volume Buy ss))} {B = IsWithinOffers ss net}
    (λ h. record { at_least = h.0; at_most = h.1 })
    (λ h. (h.at_least, h.at_most))
    (decided_both (neg_ℤ (pos (offered_volume Sell ss)) ≤ℤ net) (net ≤ℤ pos (offered_volume Buy ss))
    (decided_at_least (neg_ℤ (pos (offered_volume Sell ss))) net) (decided_at_least net (pos (offered_volume Buy ss))))

decided_within : (blocks : List Block) (sel : List Bool) (t : ℕ) (hours : List (List Step)) → Dec (AreWithin blocks sel t hours)
decided_within blocks sel t [] = yes tt
decided_within blocks sel t (ss ∷ hours) = decided_both (IsWithinOffers ss (net_volume blocks sel t)) (AreWithin blocks sel (suc t) hours)
    (decided_within_offers ss (net_volume blocks sel t)) (decided_within blocks sel (suc t) hours)

-- if there are prices, the net volumes are within the offers
pub within_from_prices : BalanceLaw → (blocks : List Block) (sel : List Bool) (t : ℕ) (hours : List (List Step)) (prices : List ℤ)
    → ArePrices blocks sel t hours prices → AreWithin blocks sel t hours
within_from_prices law blocks sel t [] prices are = tt
within_from_prices law blocks sel t (ss ∷ hours) [] are = absurd are
within_from_prices law blocks sel t (ss ∷ hours) (p ∷ prices) are =
    let supports = are.0.ends.low_supports in (
      law ss (net_volume blocks sel t) supports.volumes supports.execution supports.balance,
      within_from_prices law blocks sel (suc t) hours prices are.1,
    )

-- ---- no loss
decided_no_loss : (blocks : List Block) (sel : List Bool) (prices : List ℤ) → Dec (HasNoLoss blocks sel prices)
decided_no_loss blocks sel prices =
    map_dec {A = (i : ℕ) → accepts sel i ≡ true → pos 0 ≤ℤ family_surplus blocks sel prices i} {B = HasNoLoss blocks sel prices}
    (λ all. record { gains = all })
    (λ h. h.gains)
    (decided_each (λ (i : ℕ). accepts sel i ≡ true) (λ (i : ℕ). pos 0 ≤ℤ family_surplus blocks sel prices i) (length sel) (accepted_within sel)
    (λ i. decided_if (accepts sel i ≡ true) (pos 0 ≤ℤ family_surplus blocks sel prices i) (decided_true (accepts sel i))
    (decided_at_least (pos 0) (family_surplus blocks sel prices i))))

-- ---- the selection
abbrev pub IsAnEligible : ProblemState → List Bool → Type 0
IsAnEligible problem sel = (w : ℤ) × IsEligible problem sel w

decided_cleared : (problem : ProblemState) (sel : List Bool) → length sel ≡ most_blocks → IsAdmissible problem.blocks sel
    → Cleared problem.blocks sel 1 problem.hours → Dec (IsAnEligible problem sel)
decided_cleared problem sel long admissible day = map_dec {A = HasNoLoss problem.blocks sel day.prices} {B = IsAnEligible problem sel}
    (λ h. (
      day.welfare,
      record {
        as_long = long;
        admissible = admissible;
        prices = day.prices;
        are_prices = day.are_prices;
        no_loss = h;
        welfare_is = day.welfare_is;
      },
    ))
    (λ e. subst (λ (ps : List ℤ). HasNoLoss problem.blocks sel ps)
    (prices_unique problem.blocks sel 1 problem.hours e.1.prices day.prices e.1.are_prices day.are_prices) e.1.no_loss)
    (decided_no_loss problem.blocks sel day.prices)

pub decided_eligible : ExistenceLaws → BalanceLaw → (problem : ProblemState) (sel : List Bool) → AreHoursInRange problem.hours
    → length sel ≡ most_blocks
    → Dec (IsAnEligible problem sel)
decided_eligible laws law problem sel are long = elim (decided_admissible problem.blocks sel) [
  | no fails ↦ no (λ e. fails e.1.admissible)
  | yes admissible ↦ elim (decided_within problem.blocks sel 1 problem.hours) [
    | no fails ↦ no (λ e. fails (within_from_prices law problem.blocks sel 1 problem.hours e.1.prices e.1.are_prices))
    | yes within ↦ decided_cleared problem sel long admissible (cleared laws problem.blocks sel 1 problem.hours are within)
  ]
]

-- ---- the best
tried_itself : (problem : ProblemState) (sel : List Bool) (v w : ℤ) → IsEligible problem sel v → IsEligible problem sel w
    → RanksAtOrBelow v sel w sel
tried_itself problem sel v w e f =
    subst (λ (u : ℤ). RanksAtOrBelow u sel w sel) (one_welfare problem sel w v f e) (ranks_self w sel)

abbrev pub FindsBest : ProblemState → ℕ → ℕ → Type 0
FindsBest problem count number = (sel : List Bool) × (w : ℤ) × IsBestSoFar problem count number sel w

-- an eligible one more
eligible_tried : (problem : ProblemState) (count number : ℕ) (sel tried : List Bool) (w v : ℤ) → tried ≡ padded (choice count number)
    → IsBestSoFar problem count number sel w → IsEligible problem tried v → FindsBest problem count (number + 1)
eligible_tried problem count number sel tried w v is best e = elim (ranks_either v w tried sel) [
  | inl above ↦ (
    tried,
    v,
    one_tried problem count number tried sel tried w v is best e (above_below v tried w sel above)
        (λ u h. tried_itself problem tried u v h e),
  )
  | inr below ↦ (
    sel,
    w,
    one_tried problem count number tried sel sel w w is best best.eligible (ranks_self w sel)
        (λ u h. subst (λ (z : ℤ). RanksAtOrBelow z tried w sel) (one_welfare problem tried v u e h) below),
  )
]

another_tried : (problem : ProblemState) (count number : ℕ) → Dec (IsAnEligible problem (padded (choice count number)))
    → FindsBest problem count number → FindsBest problem count (number + 1)
another_tried problem count number (yes e) found =
    eligible_tried problem count number found.0 (padded (choice count number)) found.1 e.0 refl found.2 e.1
another_tried problem count number (no fails) found = (
  found.0,
  found.1,
  one_tried problem count number (padded (choice count number)) found.0 found.0 found.1 found.1 refl found.2 found.2.eligible
      (ranks_self found.1 found.0)
      (λ u h. absurd (fails (u, h))),
)

pub best_so_far : (problem : ProblemState) (count : ℕ) → IsAnEligible problem empty_selection
    → ((k : ℕ) → Dec (IsAnEligible problem (padded (choice count k))))
    → (number : ℕ) → FindsBest problem count number
best_so_far problem count empty decided zero = (empty_selection, empty.0, none_tried problem count empty_selection empty.0 empty.1)
best_so_far problem count empty decided (suc number) =
    let next : number + 1 ≡ suc number = omega arith in
    subst (FindsBest problem count) next
    (another_tried problem count number (decided number) (best_so_far problem count empty decided number))

pub length-padded : (count k : ℕ) → count ≤ most_blocks → length (padded (choice count k)) ≡ most_blocks
length-padded count k few =
    let rest = replicate (most_blocks - length (choice count k)) false in
    omega (
      arith,
      few,
      length-choice count k,
      length-append (choice count k) rest,
      length-replicate (most_blocks - length (choice count k)) false,
    )

pub result_exists : ExistenceLaws → BalanceLaw → (problem : ProblemState) → IsProblem problem → IsAnEligible problem empty_selection
    → (sel : List Bool) × ((w : ℤ) × IsResult problem sel w)
result_exists laws law problem is empty =
    let count = length problem.blocks in
    let few = is.few_blocks in
    let found = best_so_far problem count empty
    (λ k. decided_eligible laws law problem (padded (choice count k)) is.hours (length-padded count k few)) (2 ^ count) in
    (found.0, (found.1, all_tried problem count (2 ^ count) found.0 found.1 refl few (omega arith) found.2))
