-- A place more.
use Rattle.dam_bound.proofs.Common.{◌≡◌, ◌*◌, ◌<◌, ℕ, ℤ, ◌+ℤ◌, ◌*ℤ◌, List, length, get_or, slice_set, ap, ap₂, ◌∙◌, sym, inl, inr, arith, ints, to_z-of_z}
use Rattle.dam_bound.proofs.Common.{cases_eq, get_or-set_same, get_or-set_other, length-set, greatest_volume, last_period, greatest_price, IsWithin}
use Rattle.std.proofs.Common.{pos}
use mir.Syntax.{w32}
use mir.Val.{to_z, of_z}
use Rattle.dam_bound.proofs.PlaceSums.{gain_raised, get_or-any}
use Rattle.dam_bound.proofs.block_numbers.add_priced_nets.Goals as goal

net_narrow : (x : ℤ) → IsWithin greatest_volume x → to_z w32 (of_z w32 x) ≡ x
net_narrow x w = let l = w.at_least in let h = w.at_most in to_z-of_z w32 x (omega (arith, ints, l, h))

price_narrow : (x : ℤ) → IsWithin (last_period * greatest_price) x → to_z w32 (of_z w32 x) ≡ x
price_narrow x w = let l = w.at_least in let h = w.at_most in to_z-of_z w32 x (omega (arith, ints, l, h))

-- the gain at the place, read with any default
raised_here : (held gains nets : List ℤ) (i k : ℕ) (d z p shown : ℤ) → k ≡ i → i < length held → i < length gains → i < length nets → shown ≡ p
    → z ≡ get_or gains i (pos 0) +ℤ p *ℤ get_or nets i (pos 0)
    → get_or (slice_set held i z) k d ≡ get_or gains k d +ℤ shown *ℤ get_or nets k d
raised_here held gains nets i k d z p shown same l m n e is =
    ap (λ (j : ℕ). get_or (slice_set held i z) j d) same
    ∙ get_or-set_same held i z d l
    ∙ is
    ∙ ap₂ (λ (a b : ℤ). a +ℤ p *ℤ b) (get_or-any gains i (pos 0) d m) (get_or-any nets i (pos 0) d n)
    ∙ ap (λ (q : ℤ). get_or gains i d +ℤ q *ℤ get_or nets i d) (sym e)
    ∙ ap (λ (j : ℕ). get_or gains j d +ℤ shown *ℤ get_or nets j d) (sym same)

pub overflow_add-gains : goal.overflow_add-gains
overflow_add-gains c =
    let i = c.loop-place.place in let test = c.loop-place-test.true in
    let gains = c.args.gains.now in
    let net = c.requires.nets.each i (pos 0) test in
    (gain_raised (get_or c.loop-place.gains i (pos 0)) (get_or gains i (pos 0)) c.from.result c.from-in-loop-place.result
    (get_or c.args.nets.now i (pos 0)) c.args.price c.requires.gains.0 c.requires.gains.1
    (c.loop-place.invariant.rest i (pos 0) (omega arith)) (c.requires.gains.2.each i (pos 0) test) net c.requires.price
    (c.from.ensures ∙ net_narrow _ net) (c.from-in-loop-place.ensures ∙ price_narrow _ c.requires.price)).0

pub loop-place-preserved : goal.loop-place-preserved
loop-place-preserved c =
    let i = c.loop-place.place in let test = c.loop-place-test.true in
    let gains = c.args.gains.now in
    let net = c.requires.nets.each i (pos 0) test in
    let price = price_narrow _ c.requires.price in
    let more = (gain_raised (get_or c.loop-place.gains i (pos 0)) (get_or gains i (pos 0)) c.from.result c.from-in-loop-place.result
    (get_or c.args.nets.now i (pos 0)) c.args.price c.requires.gains.0 c.requires.gains.1
    (c.loop-place.invariant.rest i (pos 0) (omega arith)) (c.requires.gains.2.each i (pos 0) test) net c.requires.price
    (c.from.ensures ∙ net_narrow _ net) (c.from-in-loop-place.ensures ∙ price)).1 in
    let long = c.loop-place.invariant.long in let many = c.requires.nets.long in let as_many = c.requires.gains.2.long in
    record {
      long = length-set c.loop-place.gains i _ ∙ long;
      raised = λ k d l. elim (cases_eq k i) [
        | inl same ↦
            raised_here c.loop-place.gains gains c.args.nets.now i k d _ c.args.price _ same (omega (arith, test, long))
            (omega (arith, test, as_many)) (omega (arith, test, many)) price more
        | inr apart ↦
            get_or-set_other c.loop-place.gains i k _ d apart ∙ c.loop-place.invariant.raised k d (omega (arith, l, apart))
      ];
      rest = λ k d l.
          get_or-set_other c.loop-place.gains i k _ d (omega (arith, l)) ∙ c.loop-place.invariant.rest k d (omega (arith, l));
    }
