-- The welfare of a selection, class by class.
use Rattle.dam_bound.proofs.Common.{◌≡◌, ℕ, zero, suc, ◌+◌, ◌-◌, ◌==◌, cond, Bool, true, false, ℤ, ◌+ℤ◌, Option, Some, None, List, [], ◌∷◌, length, get_or, ap}
use Rattle.dam_bound.proofs.Common.{ap₂, ◌∙◌, sym, subst, refl, inl, inr, arith, slice_get, ints, cases_eq, nat_tests, get_or_from_slice_get, slice_get_within}
use Rattle.dam_bound.proofs.Common.{greatest_welfare, Step, joint_welfare, Block, ProblemState, over_accepted, value_in, net_volume, accepted_value}
use Rattle.dam_bound.proofs.Common.{period_welfare, welfare_from, selection_welfare, members, class_orders, day_value, over_periods, class_places, over_places}
use Rattle.std.proofs.Common.{pos}
use Rattle.dam_curve.specs.Curve.{both}
use Rattle.dam_blocks.specs.Eligible.{added}
use Rattle.dam_bound.specs.Classes.{first_of_class}
use Rattle.dam_bound.proofs.Accepted.{over_accepted-plus, over_accepted-zero}
use Rattle.dam_bound.proofs.ClassPlaces.{over_same, by_class, periods_plus, listed}
use Rattle.dam_bound.proofs.Classing.{over_class, class_net, first_first, first_most}
use Rattle.dam_bound.proofs.Covering.{added_some, raised_some, raised_is}
use Rattle.dam_bound.proofs.Worth.{worth}

-- both numbers of a sum that is there
both_some : (x y : Option ℤ) (w : ℤ) → both x y ≡ Some w → (u : ℤ) × (v : ℤ) × (x ≡ Some u) × (y ≡ Some v) × (u +ℤ v ≡ w)
both_some (Some x) (Some y) w e = (x, y, refl, refl, cc)
both_some None y w e = absurd (cc)
both_some (Some x) None w e = absurd (cc)

-- each period has this greatest welfare at its net volume
abbrev pub AreGreat : (ℕ → ℤ) → List Block → List Bool → ℕ → List (List Step) → Type 0
AreGreat f blocks sel i hours = (k : ℕ) (ss : List Step) → slice_get hours k ≡ Some ss
    → greatest_welfare ss (net_volume blocks sel (suc (i + k))) ≡ Some (f (suc (i + k)))

great_here : (f : ℕ → ℤ) (blocks : List Block) (sel : List Bool) (i : ℕ) (ss : List Step) (hours : List (List Step))
    → AreGreat f blocks sel i (ss ∷ hours) → greatest_welfare ss (net_volume blocks sel (suc i)) ≡ Some (f (suc i))
great_here f blocks sel i ss hours each =
    let none : i + 0 ≡ i = omega arith in
    subst (λ (n : ℕ). greatest_welfare ss (net_volume blocks sel (suc n)) ≡ Some (f (suc n))) none (each 0 ss refl)

great_rest : (f : ℕ → ℤ) (blocks : List Block) (sel : List Bool) (i : ℕ) (ss : List Step) (hours : List (List Step))
    → AreGreat f blocks sel i (ss ∷ hours) → AreGreat f blocks sel (suc i) hours
great_rest f blocks sel i ss hours each k other at =
    let next : i + suc k ≡ suc i + k = omega arith in
    subst (λ (n : ℕ). greatest_welfare other (net_volume blocks sel (suc n)) ≡ Some (f (suc n))) next (each (suc k) other at)

-- ---- a class
-- the joint welfare of a class is the sum of its periods'
joint_from : (f : ℕ → ℤ) (blocks : List Block) (sel : List Bool) (c i : ℕ) (hours : List (List Step)) → AreGreat f blocks sel i hours
    → joint_welfare (members blocks c i hours) (net_volume blocks sel (suc c)) ≡ Some (over_class f blocks c i (length hours))
joint_from f blocks sel c i [] each = refl
joint_from f blocks sel c i (ss ∷ hours) each =
    let net = net_volume blocks sel (suc c) in
    let here = great_here f blocks sel i ss hours each in
    let rest = joint_from f blocks sel c (suc i) hours (great_rest f blocks sel i ss hours each) in
    let left = over_class f blocks c (suc i) (length hours) in
    let none : left ≡ pos 0 +ℤ left = omega (arith, ints) in
    elim (cases_eq (first_of_class blocks i) c) [
      | inl e ↦
          (let yes : (first_of_class blocks i == c) ≡ true = grind (arith, nat_tests) in
          ap (λ (t : Bool). joint_welfare (cond t (ss ∷ members blocks c (suc i) hours) (members blocks c (suc i) hours)) net) yes
          ∙ ap₂ both (ap (greatest_welfare ss) (sym (class_net blocks sel i c e)) ∙ here) rest
          ∙ ap (λ (t : Bool). Some (cond t (f (suc i)) (pos 0) +ℤ left)) (sym yes))
      | inr e ↦
          (let no : (first_of_class blocks i == c) ≡ false = grind (arith, nat_tests) in
          ap (λ (t : Bool). joint_welfare (cond t (ss ∷ members blocks c (suc i) hours) (members blocks c (suc i) hours)) net) no
          ∙ rest ∙ ap Some none
          ∙ ap (λ (t : Bool). Some (cond t (f (suc i)) (pos 0) +ℤ left)) (sym no))
    ]

-- if a class has a joint welfare, each of its periods has one
member_great : (blocks : List Block) (c i : ℕ) (net u : ℤ) (hours : List (List Step)) (k : ℕ) (ss : List Step)
    → joint_welfare (members blocks c i hours) net ≡ Some u → slice_get hours k ≡ Some ss → first_of_class blocks (i + k) ≡ c
    → (g : ℤ) × (greatest_welfare ss net ≡ Some g)
member_great blocks c i net u [] k ss e at own = absurd (cc)
member_great blocks c i net u (hour ∷ hours) zero ss e at own =
    let none : i + 0 ≡ i = omega arith in
    let here : first_of_class blocks i ≡ c = ap (first_of_class blocks) (sym none) ∙ own in
    let yes : (first_of_class blocks i == c) ≡ true = grind (arith, nat_tests) in
    let parts = both_some (greatest_welfare hour net) (joint_welfare (members blocks c (suc i) hours) net) u
    (ap (λ (t : Bool). joint_welfare (cond t (hour ∷ members blocks c (suc i) hours) (members blocks c (suc i) hours)) net) (sym yes) ∙ e) in
    let same : hour ≡ ss = cc in
    (parts.0, subst (λ (hs : List Step). greatest_welfare hs net ≡ Some parts.0) same parts.2)
member_great blocks c i net u (hour ∷ hours) (suc k) ss e at own =
    let next : i + suc k ≡ suc i + k = omega arith in
    let there : first_of_class blocks (suc i + k) ≡ c = ap (first_of_class blocks) (sym next) ∙ own in
    elim (cases_eq (first_of_class blocks i) c) [
      | inl is ↦
          (let yes : (first_of_class blocks i == c) ≡ true = grind (arith, nat_tests) in
          let parts = both_some (greatest_welfare hour net) (joint_welfare (members blocks c (suc i) hours) net) u
          (ap (λ (t : Bool). joint_welfare (cond t (hour ∷ members blocks c (suc i) hours) (members blocks c (suc i) hours)) net) (sym yes) ∙ e) in
          member_great blocks c (suc i) net parts.1 hours k ss parts.3 at there)
      | inr is ↦
          (let no : (first_of_class blocks i == c) ≡ false = grind (arith, nat_tests) in
          member_great blocks c (suc i) net u hours k ss
          (ap (λ (t : Bool). joint_welfare (cond t (hour ∷ members blocks c (suc i) hours) (members blocks c (suc i) hours)) net) (sym no) ∙ e)
          at there)
    ]

-- ---- all periods
-- from the periods to the selection
welfare_is : (f : ℕ → ℤ) (blocks : List Block) (sel : List Bool) (i : ℕ) (hours : List (List Step)) → AreGreat f blocks sel i hours
    → welfare_from blocks sel (suc i) hours ≡ Some (over_periods (λ t. f t +ℤ accepted_value blocks sel t) (suc i) (length hours))
welfare_is f blocks sel i [] each = refl
welfare_is f blocks sel i (ss ∷ hours) each =
    ap₂ added
    (raised_is (greatest_welfare ss (net_volume blocks sel (suc i))) (accepted_value blocks sel (suc i)) (f (suc i))
    (great_here f blocks sel i ss hours each))
    (welfare_is f blocks sel (suc i) hours (great_rest f blocks sel i ss hours each))

-- and back
each_great : (f : ℕ → ℤ) (blocks : List Block) (sel : List Bool) (t : ℕ) (hours : List (List Step)) (w : ℤ) (k : ℕ) (ss : List Step)
    → welfare_from blocks sel t hours ≡ Some w → slice_get hours k ≡ Some ss
    → (g : ℤ) × (greatest_welfare ss (net_volume blocks sel (t + k)) ≡ Some g)
each_great f blocks sel t [] w k ss e at = absurd (cc)
each_great f blocks sel t (hour ∷ hours) w zero ss e at =
    let parts = added_some (period_welfare blocks sel t hour) (welfare_from blocks sel (suc t) hours) w e in
    let great = raised_some (greatest_welfare hour (net_volume blocks sel t)) (accepted_value blocks sel t) parts.0 parts.2 in
    let same : hour ≡ ss = cc in let none : t ≡ t + 0 = omega arith in (
      great.0,
      subst (λ (n : ℕ). greatest_welfare ss (net_volume blocks sel n) ≡ Some great.0) none
          (subst (λ (hs : List Step). greatest_welfare hs (net_volume blocks sel t) ≡ Some great.0) same great.1),
    )
each_great f blocks sel t (hour ∷ hours) w (suc k) ss e at =
    let parts = added_some (period_welfare blocks sel t hour) (welfare_from blocks sel (suc t) hours) w e in
    let rest = each_great f blocks sel (suc t) hours parts.1 k ss parts.3 at in
    let next : suc t + k ≡ t + suc k = omega arith in
    (rest.0, subst (λ (n : ℕ). greatest_welfare ss (net_volume blocks sel n) ≡ Some rest.0) next rest.1)

-- the greatest welfare of a period of the problem, if it has one
abbrev great_at : ProblemState → List Bool → ℕ → ℤ
great_at problem sel t = worth (greatest_welfare (get_or problem.hours (t - 1) []) (net_volume problem.blocks sel t))

worth_is : (x : Option ℤ) (g : ℤ) → x ≡ Some g → x ≡ Some (worth x)
worth_is x g e = e ∙ ap Some (sym (ap worth e))

great_is : (problem : ProblemState) (sel : List Bool) (k : ℕ) (ss : List Step) (g : ℤ) → slice_get problem.hours k ≡ Some ss
    → greatest_welfare ss (net_volume problem.blocks sel (suc k)) ≡ Some g
    → greatest_welfare ss (net_volume problem.blocks sel (suc k)) ≡ Some (great_at problem sel (suc k))
great_is problem sel k ss g at e =
    let place : suc k - 1 ≡ k = omega arith in
    let hour = ap (λ (n : ℕ). get_or problem.hours n []) place ∙ get_or_from_slice_get problem.hours k ss [] at in
    worth_is _ g e ∙ ap (λ (hs : List Step). Some (worth (greatest_welfare hs (net_volume problem.blocks sel (suc k))))) (sym hour)

all_great : (problem : ProblemState) (sel : List Bool)
    → ((k : ℕ) (ss : List Step) → slice_get problem.hours k ≡ Some ss
    → (g : ℤ) × (greatest_welfare ss (net_volume problem.blocks sel (suc k)) ≡ Some g))
    → AreGreat (great_at problem sel) problem.blocks sel 0 problem.hours
all_great problem sel each k ss at =
    let none : k ≡ 0 + k = omega arith in
    let found = each k ss at in
    subst (λ (n : ℕ). greatest_welfare ss (net_volume problem.blocks sel (suc n)) ≡ Some (great_at problem sel (suc n))) none
    (great_is problem sel k ss found.0 at found.1)

-- ---- the value of the blocks
block_values : (bs : List Block) (sel : List Bool) (t n : ℕ)
    → over_periods (λ u. accepted_value bs sel u) t n ≡ over_accepted (λ o. over_periods (λ u. value_in u o) t n) bs sel
block_values bs sel t zero = sym (over_accepted-zero bs sel)
block_values bs sel t (suc n) =
    ap (λ (z : ℤ). accepted_value bs sel t +ℤ z) (block_values bs sel (suc t) n)
    ∙ sym (over_accepted-plus (value_in t) (λ o. over_periods (λ u. value_in u o) (suc t) n) bs sel)

-- ---- the selection
-- the joint welfare of a class at the selection's net volume
abbrev pub joint_of : ProblemState → List Bool → ℕ → Option ℤ
joint_of problem sel c = joint_welfare (class_orders problem c) (net_volume problem.blocks sel (suc c))

-- the worths of all classes, and the value of the blocks
abbrev pub whole_of : ProblemState → List Bool → ℤ
whole_of problem sel =
    over_places (λ c. worth (joint_of problem sel c)) (class_places problem) +ℤ over_accepted (day_value problem) problem.blocks sel

joint_is : (problem : ProblemState) (sel : List Bool) (c : ℕ) → AreGreat (great_at problem sel) problem.blocks sel 0 problem.hours
    → joint_of problem sel c ≡ Some (over_class (great_at problem sel) problem.blocks c 0 (length problem.hours))
joint_is problem sel c each = joint_from (great_at problem sel) problem.blocks sel c 0 problem.hours each

whole_is : (problem : ProblemState) (sel : List Bool) → AreGreat (great_at problem sel) problem.blocks sel 0 problem.hours
    → selection_welfare problem sel ≡ Some (whole_of problem sel)
whole_is problem sel each =
    let n = length problem.hours in let f = great_at problem sel in let blocks = problem.blocks in
    let total = periods_plus f (λ t. accepted_value blocks sel t) 1 n in
    let values = block_values blocks sel 1 n in
    let classes = by_class f blocks n in
    let worths = over_same (λ c. worth (joint_of problem sel c)) (λ c. over_class f blocks c 0 n) (class_places problem)
    (λ j c at. ap worth (joint_is problem sel c each)) in
    let sum : over_periods (λ t. f t +ℤ accepted_value blocks sel t) 1 n ≡ whole_of problem sel = omega (arith, ints, total, values, classes, worths) in
    welfare_is f blocks sel 0 problem.hours each ∙ ap Some sum

-- a selection with which every period balances has a joint welfare in each class
pub record HasWhole (problem : ProblemState) (sel : List Bool) : Type 0 where
  pub each : (c : ℕ) → joint_of problem sel c ≡ Some (worth (joint_of problem sel c))
  pub whole : selection_welfare problem sel ≡ Some (whole_of problem sel)

pub has_whole : (problem : ProblemState) (sel : List Bool) (w : ℤ) → selection_welfare problem sel ≡ Some w → HasWhole problem sel
has_whole problem sel w e =
    let each = all_great problem sel (λ k ss at.
    (let found = each_great (great_at problem sel) problem.blocks sel 1 problem.hours w k ss e at in
    let number : 1 + k ≡ suc k = omega arith in
    (found.0, subst (λ (n : ℕ). greatest_welfare ss (net_volume problem.blocks sel n) ≡ Some found.0) number found.1))) in record {
      each = λ c. worth_is (joint_of problem sel c) _ (joint_is problem sel c each);
      whole = whole_is problem sel each;
    }

-- and conversely
pub from_classes : (problem : ProblemState) (sel : List Bool)
    → ((j c : ℕ) → slice_get (class_places problem) j ≡ Some c → (u : ℤ) × (joint_of problem sel c ≡ Some u))
    → selection_welfare problem sel ≡ Some (whole_of problem sel)
from_classes problem sel classes = whole_is problem sel (all_great problem sel (λ k ss at. period k ss at))
  where
    period : (k : ℕ) (ss : List Step) → slice_get problem.hours k ≡ Some ss
        → (g : ℤ) × (greatest_welfare ss (net_volume problem.blocks sel (suc k)) ≡ Some g)
    period k ss at =
        let blocks = problem.blocks in
        let c = first_of_class blocks k in
        let inside = slice_get_within problem.hours k ss at in
        let below = first_most blocks k in
        let place = listed blocks 0 (length problem.hours) c (first_first blocks k) (omega arith) (omega (arith, inside, below)) in
        let joint = classes place.0 c place.1 in
        let found = member_great blocks c 0 (net_volume blocks sel (suc c)) joint.0 problem.hours k ss joint.1 at (ap (first_of_class blocks) (none k)) in
        (found.0, ap (greatest_welfare ss) (class_net blocks sel k c refl) ∙ found.1)
      where
        none : (n : ℕ) → 0 + n ≡ n
        none n = omega arith
