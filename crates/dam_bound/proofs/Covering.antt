-- The bound law: the relaxed period reaches every welfare that a selection reaches in the period.
use Rattle.dam_bound.proofs.Common.{◌≡◌, ℕ, suc, ◌+◌, ℤ, ◌+ℤ◌, ◌≤ℤ◌, Bool, Option, Some, None, List, [], ◌∷◌, ◌++◌, length, drop, ap, ap₂, ◌∙◌, sym, refl}
use Rattle.dam_bound.proofs.Common.{arith, ints, Side, Buy, Sell, Step, AreInRange, IsExecution, welfare_of, greatest_welfare, Block, BlockTerms, over_accepted}
use Rattle.dam_bound.proofs.Common.{net_volume_of_block, value_in, net_volume, accepted_value, period_welfare, welfare_from, as_steps, relaxed_hours}
use Rattle.std.proofs.Common.{pos}
use Rattle.std.specs.Option.{option_map}
use Rattle.dam_hour.specs.Execution.{executed_volume, Balances, IsBalanced}
use Rattle.dam_hour.specs.Best.{AreSmall}
use Rattle.dam_blocks.specs.Selection.{padded}
use Rattle.dam_blocks.specs.Eligible.{added}
use Rattle.dam_bound.proofs.Levelling.{relaxed_at}
use Rattle.dam_bound.proofs.Standing.{stand, idle}

-- the laws of sums over blocks
pub record SumLaws : Type 0 where
  pub parted : (f : BlockTerms → ℤ) (bs : List Block) (prefix rest : List Bool)
      → over_accepted f bs (prefix ++ rest) ≡ over_accepted f bs prefix +ℤ over_accepted f (drop (length prefix) bs) rest
  pub padded : (f : BlockTerms → ℤ) (bs : List Block) (prefix : List Bool) → over_accepted f bs (padded prefix) ≡ over_accepted f bs prefix

-- the laws of one period and of sums over blocks
pub record Laws : Type 0 where
  pub joined : (ss ts : List Step) (xs ys : List ℕ) → IsExecution ss xs → IsExecution ts ys → IsExecution (ss ++ ts) (xs ++ ys)
  pub parted : (ss ts : List Step) (zs : List ℕ) → IsExecution (ss ++ ts) zs
      → (xs : List ℕ) × (ys : List ℕ) × (zs ≡ xs ++ ys) × IsExecution ss xs × IsExecution ts ys
  pub volume : (side : Side) (ss ts : List Step) (xs ys : List ℕ) → IsExecution ss xs
      → executed_volume side (ss ++ ts) (xs ++ ys) ≡ executed_volume side ss xs + executed_volume side ts ys
  pub welfare : (ss ts : List Step) (xs ys : List ℕ) → IsExecution ss xs
      → welfare_of (ss ++ ts) (xs ++ ys) ≡ welfare_of ss xs +ℤ welfare_of ts ys
  pub reached : (ss : List Step) (net w : ℤ) → greatest_welfare ss net ≡ Some w
      → (xs : List ℕ) × IsExecution ss xs × Balances ss net xs × (welfare_of ss xs ≡ w)
  pub bound : (ss : List Step) (net w : ℤ) → greatest_welfare ss net ≡ Some w → (xs : List ℕ) → IsExecution ss xs → Balances ss net xs
      → welfare_of ss xs ≤ℤ w
  pub some : (ss : List Step) (net : ℤ) → IsBalanced ss net → (w : ℤ) × (greatest_welfare ss net ≡ Some w)
  pub small : (ss : List Step) (xs : List ℕ) → AreInRange ss → IsExecution ss xs
      → AreSmall (length ss) (executed_volume Buy ss xs) (executed_volume Sell ss xs) (welfare_of ss xs)
  pub sums : SumLaws

-- ---- options
pub added_some : (x y : Option ℤ) (w : ℤ) → added x y ≡ Some w → (u : ℤ) × (v : ℤ) × (x ≡ Some u) × (y ≡ Some v) × (u +ℤ v ≡ w)
added_some (Some x) (Some y) w e = (x, y, refl, refl, cc)
added_some None y w e = absurd (cc)
added_some (Some x) None w e = absurd (cc)

pub raised_some : (x : Option ℤ) (k u : ℤ) → option_map (λ w. w +ℤ k) x ≡ Some u → (g : ℤ) × (x ≡ Some g) × (g +ℤ k ≡ u)
raised_some (Some x) k u e = (x, refl, cc)
raised_some None k u e = absurd (cc)

pub raised_is : (x : Option ℤ) (k g : ℤ) → x ≡ Some g → option_map (λ w. w +ℤ k) x ≡ Some (g +ℤ k)
raised_is x k g e = ap (option_map (λ w. w +ℤ k)) e

pub none_of_none : (x y : Option ℤ) → ((w : ℤ) → y ≡ Some w → (r : ℤ) × (x ≡ Some r) × (w ≤ℤ r)) → x ≡ None → y ≡ None
none_of_none x None h e = refl
none_of_none x (Some w) h e = let found = h w refl in let is = found.1 in absurd (cc)

-- ---- one period
-- some execution that balances reaches a welfare, and so a greatest welfare exists and is no less
great_at_least : Laws → (ss : List Step) (net : ℤ) (xs : List ℕ) → IsExecution ss xs → Balances ss net xs
    → (g : ℤ) × (greatest_welfare ss net ≡ Some g) × (welfare_of ss xs ≤ℤ g)
great_at_least laws ss net xs e b = let some = laws.some ss net (xs, e, b) in (some.0, some.1, laws.bound ss net some.0 some.1 xs e b)

-- the blocks that stay undecided after the prefix and the rest
abbrev left_after : List Block → List Bool → List Bool → List Block
left_after bs prefix rest = drop (length rest) (drop (length prefix) bs)

-- these as steps of the period
abbrev left_steps : ℕ → List Block → List Bool → List Bool → List Step
left_steps t bs prefix rest = as_steps t (left_after bs prefix rest)

-- an execution of the steps and one of the blocks that stay undecided, which balance if more is decided
covered : Laws → (t : ℕ) (bs : List Block) (prefix rest : List Bool) (ss : List Step) (xs us : List ℕ)
    → IsExecution ss xs → IsExecution (left_steps t bs prefix rest) us
    → (pos (executed_volume Sell ss xs) +ℤ pos (executed_volume Sell (left_steps t bs prefix rest) us))
    +ℤ net_volume bs (prefix ++ rest) t
    ≡ pos (executed_volume Buy ss xs) +ℤ pos (executed_volume Buy (left_steps t bs prefix rest) us)
    → (r : ℤ) × (period_welfare bs prefix t (relaxed_at ss t bs (length prefix)) ≡ Some r)
    × (((welfare_of ss xs +ℤ welfare_of (left_steps t bs prefix rest) us) +ℤ accepted_value bs (prefix ++ rest) t) ≤ℤ r)
covered laws t bs prefix rest ss xs us e f b =
    let undecided = drop (length prefix) bs in
    let s = stand t undecided rest us f in
    let ts = as_steps t undecided in
    let net = laws.sums.parted (net_volume_of_block t) bs prefix rest in
    let value = laws.sums.parted (value_in t) bs prefix rest in
    let sold = laws.volume Sell ss ts xs s.volumes e in
    let bought = laws.volume Buy ss ts xs s.volumes e in
    let worth = laws.welfare ss ts xs s.volumes e in
    let own = s.balance in let gain = s.welfare in
    let found = great_at_least laws (ss ++ ts) (net_volume bs prefix t) (xs ++ s.volumes) (laws.joined ss ts xs s.volumes e s.execution)
    (omega (arith, ints, b, net, sold, bought, own)) in
    let most = found.2 in (
      found.0 +ℤ accepted_value bs prefix t,
      raised_is (greatest_welfare (ss ++ ts) (net_volume bs prefix t)) (accepted_value bs prefix t) found.0 found.1,
      omega (arith, ints, most, worth, gain, value),
    )

-- no completion reaches more in a period
period_completed : Laws → (t : ℕ) (bs : List Block) (prefix rest : List Bool) (ss : List Step) (w : ℤ)
    → period_welfare bs (prefix ++ rest) t ss ≡ Some w
    → (r : ℤ) × (period_welfare bs prefix t (relaxed_at ss t bs (length prefix)) ≡ Some r) × (w ≤ℤ r)
period_completed laws t bs prefix rest ss w e =
    let none = idle (left_steps t bs prefix rest) in
    let parts = raised_some (greatest_welfare ss (net_volume bs (prefix ++ rest) t)) (accepted_value bs (prefix ++ rest) t) w e in
    let best = laws.reached ss (net_volume bs (prefix ++ rest) t) parts.0 parts.1 in
    let balance = best.2 in let is = best.3 in let sum = parts.2 in
    let sold = none.sold in let bought = none.bought in let worth = none.welfare in
    let found = covered laws t bs prefix rest ss best.0 none.volumes best.1 none.execution (omega (arith, ints, balance, sold, bought)) in
    let most = found.2 in
    (found.0, found.1, omega (arith, ints, most, worth, is, sum))

-- ---- the day
pub completed_from : Laws → (t : ℕ) (bs : List Block) (prefix rest : List Bool) (hours : List (List Step)) (w : ℤ)
    → welfare_from bs (prefix ++ rest) t hours ≡ Some w
    → (r : ℤ) × (welfare_from bs prefix t (relaxed_hours (drop (length prefix) bs) t hours) ≡ Some r) × (w ≤ℤ r)
completed_from laws t bs prefix rest [] w e = let zero : w ≡ pos 0 = cc in (pos 0, refl, omega (arith, ints, zero))
completed_from laws t bs prefix rest (ss ∷ hours) w e =
    let parts = added_some (period_welfare bs (prefix ++ rest) t ss) (welfare_from bs (prefix ++ rest) (suc t) hours) w e in
    let here = period_completed laws t bs prefix rest ss parts.0 parts.2 in
    let more = completed_from laws (suc t) bs prefix rest hours parts.1 parts.3 in
    let h = here.2 in let m = more.2 in let sum = parts.4 in
    (here.0 +ℤ more.0, ap₂ added here.1 more.1, omega (arith, ints, h, m, sum))

-- ---- equal sums over the accepted blocks
-- the same sums over the accepted blocks give the same welfare
pub same_welfare : (bs : List Block) (xs ys : List Bool) (t : ℕ) (hours : List (List Step))
    → ((u : ℕ) → net_volume bs xs u ≡ net_volume bs ys u)
    → ((u : ℕ) → accepted_value bs xs u ≡ accepted_value bs ys u) → welfare_from bs xs t hours ≡ welfare_from bs ys t hours
same_welfare bs xs ys t [] n v = refl
same_welfare bs xs ys t (ss ∷ hours) n v =
    ap₂ added (ap₂ (λ (net value : ℤ). option_map (λ w. w +ℤ value) (greatest_welfare ss net)) (n t) (v t))
    (same_welfare bs xs ys (suc t) hours n v)

-- the decisions and the selection that accepts nothing else
pub padded_welfare : SumLaws → (bs : List Block) (prefix accepted : List Bool) (depth : ℕ) (hours : List (List Step)) → length prefix ≡ depth
    → accepted ≡ padded prefix
    → welfare_from bs accepted 1 (relaxed_hours (drop depth bs) 1 hours) ≡ welfare_from bs prefix 1
    (relaxed_hours (drop (length prefix) bs) 1 hours)
padded_welfare sums bs prefix accepted depth hours long is =
    ap₂ (λ (xs : List Bool) (n : ℕ). welfare_from bs xs 1 (relaxed_hours (drop n bs) 1 hours)) is (sym long)
    ∙ same_welfare bs (padded prefix) prefix 1 (relaxed_hours (drop (length prefix) bs) 1 hours)
    (λ u. sums.padded (net_volume_of_block u) bs prefix) (λ u. sums.padded (value_in u) bs prefix)
