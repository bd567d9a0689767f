-- Sets of places, made place by place.
use Rattle.dam_search.proofs.Common.{◌≡◌, ℕ, zero, suc, ◌<◌, Bool, true, false, not, nat_lt, List, length, replicate, ◌∙◌, sym, refl, most_blocks, accepts}
use Rattle.std.proofs.lemmas.Bool.{and_parts, ltb-true}
use Rattle.dam_search.specs.inside.Conflicts.{IsSetOf}

-- of the places below n, those that pass the test
pub record IsSetSoFar (n : ℕ) (test : ℕ → Bool) (places : List Bool) : Type 0 where
  pub long : length places ≡ most_blocks
  pub is : IsSetOf n test places

pub accepts-none : (n i : ℕ) → accepts (replicate n false) i ≡ false
accepts-none zero i = refl
accepts-none (suc n) zero = refl
accepts-none (suc n) (suc i) = accepts-none n i

-- a place of the set passes the test
pub passes_test : (n : ℕ) (test : ℕ → Bool) (places : List Bool) (at : ℕ) → IsSetOf n test places → accepts places at ≡ true
    → test at ≡ true
passes_test n test places at is on = (and_parts (nat_lt at n) (test at) (sym (is at) ∙ on)).1

not_so : (b : Bool) → not b ≡ true → b ≡ false
not_so true e = absurd (cc)
not_so false e = refl

-- a place of the set of those below n that the others lack
pub is_apart : (n : ℕ) (others places : List Bool) (at : ℕ) → IsSetOf n (λ place. not (accepts others place)) places → accepts places at ≡ true
    → (at < n) × (accepts others at ≡ false)
is_apart n others places at is on =
    let parts = and_parts (nat_lt at n) (not (accepts others at)) (sym (is at) ∙ on) in
    (ltb-true at n parts.0, not_so (accepts others at) parts.1)
