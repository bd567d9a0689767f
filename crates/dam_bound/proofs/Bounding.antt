-- The relaxed welfare, period by period.
use Rattle.dam_bound.proofs.Common.{◌≡◌, ℕ, suc, ◌+◌, ◌*◌, ◌≤◌, ℤ, neg_ℤ, ◌+ℤ◌, ◌≤ℤ◌, Bool, Option, Some, None, List, ◌++◌, length, drop, ap, ap₂, ◌∙◌, sym}
use Rattle.dam_bound.proofs.Common.{refl, arith, slice_get, greatest_welfare, ints, drop_all, Step, Block, net_volume, accepted_value, period_welfare}
use Rattle.dam_bound.proofs.Common.{welfare_from, IsWithin, as_steps, relaxed_hours}
use Rattle.std.proofs.Common.{pos}
use Rattle.std.specs.Option.{option_map}
use Rattle.dam_blocks.specs.Eligible.{added}
use Rattle.dam_bound.specs.inside.Levels.{greatest_period_bound}
use Rattle.dam_bound.proofs.Levelling.{drop_at}

-- the welfare of the periods so far, and the periods that are left
pub record IsBoundSoFar (blocks : List Block) (accepted : List Bool) (left : List Block) (hours : List (List Step)) (place : ℕ) (total : ℤ)
    : Type 0 where
  pub sum : added (Some total) (welfare_from blocks accepted (place + 1) (relaxed_hours left (place + 1) (drop place hours)))
      ≡ welfare_from blocks accepted 1 (relaxed_hours left 1 hours)
  pub low : neg_ℤ (pos (place * greatest_period_bound)) ≤ℤ total
  pub high : total ≤ℤ pos (place * greatest_period_bound)

added_assoc : (w v : ℤ) (x : Option ℤ) → added (Some w) (added (Some v) x) ≡ added (Some (w +ℤ v)) x
added_assoc w v None = refl
added_assoc w v (Some r) = let e : w +ℤ (v +ℤ r) ≡ (w +ℤ v) +ℤ r = omega (arith, ints) in ap (λ (z : ℤ). Some z) e

-- the periods after a place, with the blocks that are left as steps
abbrev later_hours : List Block → ℕ → List (List Step) → List (List Step)
later_hours left place hours = relaxed_hours left ((place + 1) + 1) (drop (place + 1) hours)

-- the periods from a place on: that one, and the later ones
from_place : (blocks : List Block) (accepted : List Bool) (left : List Block) (hours : List (List Step)) (place : ℕ) (ss : List Step)
    → slice_get hours place ≡ Some ss
    → welfare_from blocks accepted (place + 1) (relaxed_hours left (place + 1) (drop place hours))
    ≡ added (period_welfare blocks accepted (place + 1) (ss ++ as_steps (place + 1) left))
    (welfare_from blocks accepted ((place + 1) + 1) (later_hours left place hours))
from_place blocks accepted left hours place ss at =
    let next : suc (place + 1) ≡ (place + 1) + 1 = omega arith in
    ap (λ (hs : List (List Step)). welfare_from blocks accepted (place + 1) (relaxed_hours left (place + 1) hs)) (drop_at hours place ss at)
    ∙ ap (λ (t : ℕ). added (period_welfare blocks accepted (place + 1) (ss ++ as_steps (place + 1) left))
    (welfare_from blocks accepted t (relaxed_hours left t (drop (place + 1) hours)))) next

pub one_bound : (blocks : List Block) (accepted : List Bool) (left : List Block) (hours : List (List Step)) (place t : ℕ) (ss : List Step)
    (w total after : ℤ)
    → slice_get hours place ≡ Some ss → t ≡ place + 1 → Some w ≡ period_welfare blocks accepted t (ss ++ as_steps t left)
    → IsWithin greatest_period_bound w → after ≡ total +ℤ w
    → IsBoundSoFar blocks accepted left hours place total → IsBoundSoFar blocks accepted left hours (place + 1) after
one_bound blocks accepted left hours place t ss w total after at period is within e so_far =
    let here : Some w ≡ period_welfare blocks accepted (place + 1) (ss ++ as_steps (place + 1) left) =
    is ∙ ap (λ (u : ℕ). period_welfare blocks accepted u (ss ++ as_steps u left)) period in
    let rest = welfare_from blocks accepted ((place + 1) + 1) (later_hours left place hours) in
    let sum = so_far.sum in let l = so_far.low in let h = so_far.high in
    let least = within.at_least in let most = within.at_most in
    record {
      sum = ap (λ (z : ℤ). added (Some z) rest) e ∙ sym (added_assoc total w rest)
          ∙ ap (added (Some total)) (ap (λ (x : Option ℤ). added x rest) here ∙ sym (from_place blocks accepted left hours place ss at)) ∙ sum;
      low = omega (arith, ints, l, least, e);
      high = omega (arith, ints, h, most, e);
    }

-- a period that doesn't balance
pub none_bound : (blocks : List Block) (accepted : List Bool) (left : List Block) (hours : List (List Step)) (place t : ℕ) (ss : List Step)
    (total : ℤ)
    → slice_get hours place ≡ Some ss → t ≡ place + 1 → None ≡ period_welfare blocks accepted t (ss ++ as_steps t left)
    → IsBoundSoFar blocks accepted left hours place total → None ≡ welfare_from blocks accepted 1 (relaxed_hours left 1 hours)
none_bound blocks accepted left hours place t ss total at period is so_far =
    let here : None ≡ period_welfare blocks accepted (place + 1) (ss ++ as_steps (place + 1) left) =
    is ∙ ap (λ (u : ℕ). period_welfare blocks accepted u (ss ++ as_steps u left)) period in
    let rest = welfare_from blocks accepted ((place + 1) + 1) (later_hours left place hours) in
    ap (λ (x : Option ℤ). added (Some total) (added x rest)) here
    ∙ ap (added (Some total)) (sym (from_place blocks accepted left hours place ss at)) ∙ so_far.sum

pub all_bound : (blocks : List Block) (accepted : List Bool) (left : List Block) (hours : List (List Step)) (place : ℕ) (total : ℤ)
    → length hours ≤ place
    → IsBoundSoFar blocks accepted left hours place total → Some total ≡ welfare_from blocks accepted 1 (relaxed_hours left 1 hours)
all_bound blocks accepted left hours place total all so_far =
    let zero : total ≡ total +ℤ pos 0 = omega (arith, ints) in
    ap (λ (z : ℤ). Some z) zero
    ∙ ap (λ (hs : List (List Step)). added (Some total) (welfare_from blocks accepted (place + 1) (relaxed_hours left (place + 1) hs)))
    (sym (drop_all place hours all)) ∙ so_far.sum

-- a period whose greatest welfare is known
pub cleared_period : (blocks : List Block) (accepted : List Bool) (t : ℕ) (ss relaxed : List Step) (net g value w : ℤ) → ss ≡ relaxed
    → net ≡ net_volume blocks accepted t
    → greatest_welfare ss net ≡ Some g → value ≡ accepted_value blocks accepted t → w ≡ g +ℤ value
    → Some w ≡ period_welfare blocks accepted t relaxed
cleared_period blocks accepted t ss relaxed net g value w steps net_is great value_is e =
    ap (λ (z : ℤ). Some z) (e ∙ ap (λ (z : ℤ). g +ℤ z) value_is)
    ∙ ap (option_map (λ (z : ℤ). z +ℤ accepted_value blocks accepted t)) (sym great ∙ ap₂ greatest_welfare steps net_is)
