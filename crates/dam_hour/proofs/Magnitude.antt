-- How large the volumes and the welfare of an execution can be.
use Rattle.dam_hour.proofs.Common.{ℕ, ◌≤◌, ℤ, pos, neg_ℤ, ◌*ℤ◌, ◌≤ℤ◌, List, [], ◌∷◌, length, arith, ints, mul-le, IsPrice, Side, Buy, Sell, greatest_volume}
use Rattle.dam_hour.proofs.Common.{greatest_price, greatest_value, Step, AreInRange, IsExecution, volume_on, executed_volume, signed, welfare_of, AreBestTotals}
use Rattle.std.specs.Int.RustNames.{unsigned_abs}
use Rattle.std.proofs.lemmas.Int.{unsigned_abs-mul}
use Rattle.dam_hour.specs.Best.{AreSmall}

-- a limit times an executed volume
value_small : (side : Side) (limit : ℤ) (x q : ℕ) → IsPrice limit → x ≤ q → q ≤ greatest_volume
    → (neg_ℤ (pos greatest_value) ≤ℤ signed side (limit *ℤ pos x)) × (signed side (limit *ℤ pos x) ≤ℤ pos greatest_value)
value_small Buy limit x q r h m =
    let a : unsigned_abs limit ≤ greatest_price = omega (arith, ints, r.at_least, r.at_most) in
    let b = mul-le (unsigned_abs limit) x greatest_price greatest_volume a (omega arith) in
    let p = unsigned_abs-mul limit (pos x) in
    (omega (arith, ints, b, p), omega (arith, ints, b, p))
value_small Sell limit x q r h m =
    let a : unsigned_abs limit ≤ greatest_price = omega (arith, ints, r.at_least, r.at_most) in
    let b = mul-le (unsigned_abs limit) x greatest_price greatest_volume a (omega arith) in
    let p = unsigned_abs-mul limit (pos x) in
    (omega (arith, ints, b, p), omega (arith, ints, b, p))

volume_small : (side own : Side) (x q : ℕ) → x ≤ q → q ≤ greatest_volume → volume_on side own x ≤ greatest_volume
volume_small Buy Buy x q h m = omega arith
volume_small Sell Sell x q h m = omega arith
volume_small Buy Sell x q h m = omega arith
volume_small Sell Buy x q h m = omega arith

pub execution_small : (ss : List Step) (xs : List ℕ) → AreInRange ss → IsExecution ss xs
    → AreSmall (length ss) (executed_volume Buy ss xs) (executed_volume Sell ss xs) (welfare_of ss xs)
execution_small [] [] r e =
    record {
      bought_at_most = omega arith;
      sold_at_most = omega arith;
      welfare_at_least = omega (arith, ints);
      welfare_at_most =
          omega (arith, ints);
    }
execution_small [] (x ∷ xs) r e = absurd e
execution_small (s ∷ ss) [] r e = absurd e
execution_small (s ∷ ss) (x ∷ xs) r e =
    let most = r.1.at_most in
    let rest = execution_small ss xs r.2 e.1 in
    let value = value_small s.side s.price x s.qty r.0 e.0 most in
    let buy = volume_small Buy s.side x s.qty e.0 most in
    let sell = volume_small Sell s.side x s.qty e.0 most in
    record {
      bought_at_most = omega (arith, buy, rest.bought_at_most);
      sold_at_most = omega (arith, sell, rest.sold_at_most);
      welfare_at_least = omega (arith, ints, value.0, rest.welfare_at_least);
      welfare_at_most = omega (arith, ints, value.1, rest.welfare_at_most);
    }

pub best_small : (ss : List Step) (net : ℤ) (bought sold : ℕ) (w : ℤ) → AreInRange ss → AreBestTotals ss net bought sold w
    → AreSmall (length ss) bought sold w
best_small ss net bought sold w r t =
    let small = execution_small ss t.volumes r t.best.execution in
    let b = t.bought_is in let s = t.sold_is in let v = t.welfare_is in
    record {
      bought_at_most = omega (arith, b, small.bought_at_most);
      sold_at_most = omega (arith, s, small.sold_at_most);
      welfare_at_least = omega (arith, ints, v, small.welfare_at_least);
      welfare_at_most = omega (arith, ints, v, small.welfare_at_most);
    }
