-- An eligible selection has a welfare of at least 0: the hourly orders gain at the prices, and no accepted block loses.
use Rattle.dam_blocks.proofs.Common.{◌≡◌, ℕ, suc, ◌↔◌, ℤ, pos, ◌+ℤ◌, ◌*ℤ◌, ◌≤ℤ◌, ◌<◌, Bool, true, Option, Some, None, List, [], ◌∷◌, get_or, ap, ◌∙◌, sym}
use Rattle.dam_blocks.proofs.Common.{subst, refl, arith, option_map, bytes_decides, and_parts, ints, Step, IsExecution, Balances, AreEnds, price_between}
use Rattle.dam_blocks.proofs.Common.{welfare_of, execution_surplus, greatest_welfare, Block, same_text, ProblemState, IsProblem, IsParent, over_accepted}
use Rattle.dam_blocks.proofs.Common.{net_volume, accepted_value, IsAdmissible, names, parent_among, parent_place, IsClearingPrice, ArePrices, surplus_in}
use Rattle.dam_blocks.proofs.Common.{surplus_from, added, period_welfare, welfare_from, IsEligible}
use Rattle.std.specs.List.{slice_get}
use Rattle.std.proofs.lemmas.Option.{slice_get-get_or}
use Rattle.std.proofs.lemmas.List.Quantifiers.{position-Some}
use Rattle.dam_hour.specs.Price.{Supports, IsSupporting}
use Rattle.dam_book.specs.Order.{is_parent}
use Rattle.dam_blocks.proofs.Sums.{over_accepted-plus, over_accepted-zero, accepted_surplus}
use Rattle.dam_blocks.proofs.Families.{AreChains, no_loss_in_families}

-- the laws of one period on its price
pub record PriceLaws : Type 0 where
  pub between : (low high : ℤ) → low ≤ℤ high → (low ≤ℤ price_between low high) × (price_between low high ≤ℤ high)
  pub supports : (ss : List Step) (net low high p : ℤ) → AreEnds ss net low high → IsSupporting ss net p ↔ ((low ≤ℤ p) × (p ≤ℤ high))
  pub bound : (ss : List Step) (net w : ℤ) → greatest_welfare ss net ≡ Some w → (xs : List ℕ) → IsExecution ss xs → Balances ss net xs
      → welfare_of ss xs ≤ℤ w
  pub welfare : (p net : ℤ) (ss : List Step) (xs : List ℕ) → Balances ss net xs → welfare_of ss xs ≡ execution_surplus p ss xs +ℤ p *ℤ net
  pub at_least_zero : (p : ℤ) (ss : List Step) (xs : List ℕ) → IsExecution ss xs → Supports p ss xs → pos 0 ≤ℤ execution_surplus p ss xs

-- at its price the welfare of a period is at least the value of its net volume
hour_at_least : PriceLaws → (ss : List Step) (net p w : ℤ) → IsClearingPrice ss net p → greatest_welfare ss net ≡ Some w → (p *ℤ net) ≤ℤ w
hour_at_least laws ss net p w c e =
    let ordered = c.ends.least c.high c.ends.high_supports in
    let inside = laws.between c.low c.high ordered in
    let price = c.between in
    let s = (laws.supports ss net c.low c.high p c.ends).1 (omega (arith, ints, inside.0, price), omega (arith, ints, inside.1, price)) in
    let below = laws.bound ss net w e s.volumes s.execution s.balance in
    let parts = laws.welfare p net ss s.volumes s.balance in
    let gain = laws.at_least_zero p ss s.volumes s.execution s.support in
    omega (arith, ints, below, parts, gain)

pub added_some : (x y : Option ℤ) (w : ℤ) → added x y ≡ Some w → (u : ℤ) × (v : ℤ) × (x ≡ Some u) × (y ≡ Some v) × (u +ℤ v ≡ w)
added_some (Some x) (Some y) w e = (x, y, refl, refl, cc)
added_some None y w e = absurd (cc)
added_some (Some x) None w e = absurd (cc)

pub raised_some : (x : Option ℤ) (k u : ℤ) → option_map (λ w. w +ℤ k) x ≡ Some u → (g : ℤ) × (x ≡ Some g) × (g +ℤ k ≡ u)
raised_some (Some x) k u e = (x, refl, cc)
raised_some None k u e = absurd (cc)

-- the accepted blocks' surpluses in the periods from t on add up to no more than these periods' welfare
gains_from : PriceLaws → (blocks : List Block) (sel : List Bool) (t : ℕ) (hours : List (List Step)) (prices : List ℤ) (w : ℤ)
    → ArePrices blocks sel t hours prices → welfare_from blocks sel t hours ≡ Some w → over_accepted (surplus_from t prices) blocks sel ≤ℤ w
gains_from laws blocks sel t [] [] w are e =
    let zero : pos 0 ≡ w = cc in
    let none = over_accepted-zero blocks sel in omega (arith, ints, zero, none)
gains_from laws blocks sel t [] (p ∷ prices) w are e = absurd are
gains_from laws blocks sel t (ss ∷ hours) [] w are e = absurd are
gains_from laws blocks sel t (ss ∷ hours) (p ∷ prices) w are e =
    let parts = added_some (period_welfare blocks sel t ss) (welfare_from blocks sel (suc t) hours) w e in
    let hour = raised_some (greatest_welfare ss (net_volume blocks sel t)) (accepted_value blocks sel t) parts.0 parts.2 in
    let rest = gains_from laws blocks sel (suc t) hours prices parts.1 are.1 parts.3 in
    let least = hour_at_least laws ss (net_volume blocks sel t) p hour.0 are.0 hour.1 in
    let here = accepted_surplus blocks sel t p in
    let both = over_accepted-plus (surplus_in t p) (surplus_from (suc t) prices) blocks sel in
    let sum = parts.4 in let own = hour.2 in
    omega (arith, ints, rest, least, here, both, sum, own)

-- a child and the parent that stands at the place
pub record HasParentAt (blocks : List Block) (j p : ℕ) : Type 0 where
  pub child : Block
  pub parent : Block
  pub child_stands : slice_get blocks j ≡ Some child
  pub parent_stands : slice_get blocks p ≡ Some parent
  pub is_parent : IsParent parent child

some_text : (o : Option (List ℕ)) (name : List ℕ) → is_parent name o ≡ true → o ≡ Some name
some_text None name e = absurd (cc)
some_text (Some xs) name e = ap (λ (ys : List ℕ). Some ys) (sym ((bytes_decides name xs).0 e))

pub named_parent : (p b : Block) → names p b ≡ true → IsParent p b
named_parent p b e =
    let both = and_parts (same_text p.who b.who) (is_parent p.name b.order.parent) e in
    record { who = (bytes_decides p.who b.who).0 both.0; name = some_text b.order.parent p.name both.1 }

pub parent_found : (blocks : List Block) (j p : ℕ) → parent_place blocks j ≡ Some p → HasParentAt blocks j p
parent_found blocks j p e = from (slice_get blocks j) refl
  where
    from : (o : Option Block) → slice_get blocks j ≡ o → HasParentAt blocks j p
    from None at = absurd (let none = ap (λ (o : Option Block). parent_among blocks o) at in cc)
    from (Some b) at =
        let found = position-Some (λ q. names q b) blocks p b (sym (ap (λ (o : Option Block). parent_among blocks o) at) ∙ e) in
        record {
          child = b;
          parent = get_or blocks p b;
          child_stands = at;
          parent_stands = slice_get-get_or blocks p b found.0;
          is_parent =
              named_parent (get_or blocks p b) b found.1;
        }

pub same_text_in : (xs ys : List ℕ) → Some xs ≡ Some ys → xs ≡ ys
same_text_in xs ys e = cc

pub same_block : (a b : Block) → Some a ≡ Some b → a ≡ b
same_block a b e = cc

-- in a problem a parent stands before its child
pub parent_stands_before : (problem : ProblemState) (j p : ℕ) → IsProblem problem → parent_place problem.blocks j ≡ Some p → p < j
parent_stands_before problem j p is e =
    let found = parent_found problem.blocks j p e in
    let kept = is.parents j found.child found.parent.name found.child_stands found.is_parent.name in
    let same = is.unique kept.place p kept.parent found.parent kept.stands found.parent_stands
    (kept.is_parent.who ∙ sym found.is_parent.who)
    (same_text_in _ _ (sym kept.is_parent.name ∙ found.is_parent.name)) in
    let less = kept.lesser in omega (arith, same, less)

-- among the blocks of a problem a parent stands before its child, and an admissible selection accepts it too
pub are_chains : (problem : ProblemState) (sel : List Bool) → IsProblem problem → IsAdmissible problem.blocks sel → AreChains problem.blocks sel
are_chains problem sel is admissible = record {
  before = λ j p e. parent_stands_before problem j p is e;
  with_parent = λ j p acc e. (let found = parent_found problem.blocks j p e in
      let allowed = admissible.each j acc in
      let block : found.child ≡ allowed.block = same_block _ _ (sym found.child_stands ∙ allowed.stands) in
      allowed.parent p found.parent found.parent_stands (subst (λ (b : Block). IsParent found.parent b) block found.is_parent));
  within = λ j acc. (let allowed = admissible.each j acc in (allowed.block, allowed.stands));
}

pub welfare_at_least_zero : PriceLaws → (problem : ProblemState) (sel : List Bool) (w : ℤ) → IsProblem problem → IsEligible problem sel w
    → pos 0 ≤ℤ w
welfare_at_least_zero laws problem sel w is e =
    let blocks = no_loss_in_families problem.blocks sel e.prices (are_chains problem sel is e.admissible) e.no_loss in
    let all = gains_from laws problem.blocks sel 1 problem.hours e.prices w e.are_prices e.welfare_is in
    omega (arith, ints, blocks, all)
