-- Blocks as steps: an execution in which each block stands as it is decided.
use Rattle.dam_bound.proofs.Common.{◌≡◌, ℕ, ◌==◌, cond, ℤ, neg_ℤ, ◌+ℤ◌, ◌*ℤ◌, Bool, true, false, List, [], ◌∷◌, length, drop, ap, ◌∙◌, refl, arith, ints}
use Rattle.dam_bound.proofs.Common.{nat_tests, BlockTerms, Side, Buy, Sell, Step, IsExecution, signed, welfare_of, Block, over_accepted, volume_in}
use Rattle.dam_bound.proofs.Common.{net_volume_of_block, value_in, net_volume, accepted_value, step_of, as_steps}
use Rattle.std.proofs.Common.{pos}
use Rattle.dam_hour.specs.Execution.{executed_volume, volume_on}

pub over_accepted-nil : (f : BlockTerms → ℤ) (bs : List Block) → over_accepted f bs [] ≡ pos 0
over_accepted-nil f [] = refl
over_accepted-nil f (b ∷ bs) = refl

-- ---- one block
net_is : (side : Side) (v : ℕ) → pos (volume_on Sell side v) ≡ pos (volume_on Buy side v) +ℤ neg_ℤ (signed side (pos v))
net_is Buy v = omega (arith, ints)
net_is Sell v = omega (arith, ints)

nothing_on : (side own : Side) → volume_on side own 0 ≡ 0
nothing_on Buy Buy = refl
nothing_on Buy Sell = refl
nothing_on Sell Buy = refl
nothing_on Sell Sell = refl

signed_zero : (side : Side) (z : ℤ) → z ≡ pos 0 → signed side z ≡ pos 0
signed_zero Buy z e = e
signed_zero Sell z e = omega (arith, ints, e)

times_zero : (p : ℤ) → p *ℤ pos 0 ≡ pos 0
times_zero p = omega (arith, ints)

nothing_worth : (side : Side) (p : ℤ) → signed side (p *ℤ pos 0) ≡ pos 0
nothing_worth side p = signed_zero side (p *ℤ pos 0) (times_zero p)

-- ---- the blocks
-- volumes of the steps ts, which are bs as steps: those of the decided blocks as they are decided, and the given ones
-- of the others
pub record Stands (t : ℕ) (ts : List Step) (bs : List Block) (prefix : List Bool) (left : List Step) (us : List ℕ) : Type 0 where
  pub volumes : List ℕ
  pub execution : IsExecution ts volumes
  pub balance : pos (executed_volume Sell ts volumes) +ℤ pos (executed_volume Buy left us)
      ≡ (pos (executed_volume Buy ts volumes) +ℤ pos (executed_volume Sell left us)) +ℤ net_volume bs prefix t
  pub welfare : welfare_of ts volumes ≡ welfare_of left us +ℤ accepted_value bs prefix t

stand_more : (t : ℕ) (ts : List Step) (b : Block) (bs : List Block) (a : Bool) (prefix : List Bool) (left : List Step) (us : List ℕ)
    → Stands t ts bs prefix left us → (c : Bool) → (volume_in b.order.volumes t == 0) ≡ c
    → Stands t (cond c ts (step_of t b.order ∷ ts)) (b ∷ bs) (a ∷ prefix) left us
stand_more t ts b bs true prefix left us s true e =
    let none : volume_in b.order.volumes t ≡ 0 = grind (arith, nat_tests) in
    let net : net_volume_of_block t b.order ≡ pos 0 = ap (λ (v : ℕ). neg_ℤ (signed b.order.side (pos v))) none
    ∙ ap neg_ℤ (signed_zero b.order.side (pos 0) refl) in
    let value : value_in t b.order ≡ pos 0 = ap (λ (v : ℕ). signed b.order.side (b.order.price *ℤ pos v)) none
    ∙ nothing_worth b.order.side b.order.price in
    let balance = s.balance in let welfare = s.welfare in
    record {
      volumes = s.volumes;
      execution = s.execution;
      balance = omega (arith, ints, balance, net);
      welfare =
          omega (arith, ints, welfare, value);
    }
stand_more t ts b bs false prefix left us s true e =
    record { volumes = s.volumes; execution = s.execution; balance = s.balance; welfare = s.welfare }
stand_more t ts b bs true prefix left us s false e =
    let v = volume_in b.order.volumes t in
    let own = net_is b.order.side v in
    let balance = s.balance in let welfare = s.welfare in
    record {
      volumes = v ∷ s.volumes;
      execution = (omega arith, s.execution);
      balance = omega (arith, ints, balance, own);
      welfare = omega (arith, ints, welfare);
    }
stand_more t ts b bs false prefix left us s false e =
    let sells = nothing_on Sell b.order.side in
    let buys = nothing_on Buy b.order.side in
    let worth = nothing_worth b.order.side b.order.price in
    let balance = s.balance in let welfare = s.welfare in
    record {
      volumes = 0 ∷ s.volumes;
      execution = (omega arith, s.execution);
      balance = omega (arith, ints, balance, sells, buys);
      welfare = omega (arith, ints, welfare, worth);
    }

pub stand : (t : ℕ) (bs : List Block) (prefix : List Bool) (us : List ℕ) → IsExecution (as_steps t (drop (length prefix) bs)) us
    → Stands t (as_steps t bs) bs prefix (as_steps t (drop (length prefix) bs)) us
stand t bs [] us e =
    let net = over_accepted-nil (net_volume_of_block t) bs in
    let value = over_accepted-nil (value_in t) bs in
    record { volumes = us; execution = e; balance = omega (arith, ints, net); welfare = omega (arith, ints, value) }
stand t [] (d ∷ prefix) us e = record { volumes = []; execution = tt; balance = refl; welfare = refl }
stand t (b ∷ bs) (d ∷ prefix) us e =
    stand_more t (as_steps t bs) b bs d prefix (as_steps t (drop (length prefix) bs)) us (stand t bs prefix us e)
    (volume_in b.order.volumes t == 0) refl

-- ---- steps of which none is executed
pub record Idle (ts : List Step) : Type 0 where
  pub volumes : List ℕ
  pub execution : IsExecution ts volumes
  pub bought : executed_volume Buy ts volumes ≡ 0
  pub sold : executed_volume Sell ts volumes ≡ 0
  pub welfare : welfare_of ts volumes ≡ pos 0

pub idle : (ts : List Step) → Idle ts
idle [] = record { volumes = []; execution = tt; bought = refl; sold = refl; welfare = refl }
idle (s ∷ ts) =
    let rest = idle ts in let bought = rest.bought in let sold = rest.sold in let welfare = rest.welfare in
    let buys = nothing_on Buy s.side in let sells = nothing_on Sell s.side in let worth = nothing_worth s.side s.price in
    record {
      volumes = 0 ∷ rest.volumes;
      execution = (omega arith, rest.execution);
      bought = omega (arith, bought, buys);
      sold = omega (arith, sold, sells);
      welfare = omega (arith, ints, welfare, worth);
    }
