-- Whether the links and the groups admit a selection is decided.
use Rattle.dam_blocks.proofs.Common.{◌≡◌, inl, inr, ℕ, zero, suc, ◌<◌, ◌≤◌, Bool, true, Option, Some, None, List, [], ◌∷◌, length, sym, subst, refl, arith}
use Rattle.dam_blocks.proofs.Common.{cases_lt, slice_get_within, map_dec, most_of_group, Block, IsParent, accepts, accepted_of_group, IsAllowed, IsAdmissible}
use Rattle.std.specs.List.{slice_get}
use Rattle.dam_blocks.proofs.Deciding.{decided_both, decided_if, decided_text, decided_true, decided_some_text, decided_below, decided_each, decided_at}

decided_parent : (p b : Block) → Dec (IsParent p b)
decided_parent p b = map_dec {A = (p.who ≡ b.who) × (b.order.parent ≡ Some p.name)} {B = IsParent p b}
    (λ h. record { who = h.0; name = h.1 })
    (λ h. (h.who, h.name))
    (decided_both (p.who ≡ b.who) (b.order.parent ≡ Some p.name) (decided_text p.who b.who) (decided_some_text b.order.parent p.name))

decided_at_most : (m n : ℕ) → Dec (m ≤ n)
decided_at_most m n = elim (cases_lt n m) [
  | inl less ↦ no (λ h. absurd (omega (arith, less, h)))
  | inr most ↦ yes most
]

-- the block at the place is accepted if it is this one's parent
abbrev IsAcceptedParent : List Block → List Bool → Block → ℕ → Type 0
IsAcceptedParent blocks sel block j = (other : Block) → slice_get blocks j ≡ Some other → IsParent other block → accepts sel j ≡ true

decided_accepted_parent : (blocks : List Block) (sel : List Bool) (block : Block) (j : ℕ) → Dec (IsAcceptedParent blocks sel block j)
decided_accepted_parent blocks sel block j = decided_at (slice_get blocks j) (λ (other : Block). IsParent other block → accepts sel j ≡ true)
    (λ other. decided_if (IsParent other block) (accepts sel j ≡ true) (decided_parent other block) (decided_true (accepts sel j)))

decided_block : (blocks : List Block) (sel : List Bool) (i : ℕ) (found : Option Block) → slice_get blocks i ≡ found
    → Dec (IsAllowed blocks sel i)
decided_block blocks sel i None e = no (λ h. absurd (let stands = h.stands in cc))
decided_block blocks sel i (Some block) e =
    map_dec {A = ((j : ℕ) → j < length blocks → IsAcceptedParent blocks sel block j)
    × (accepted_of_group block blocks sel ≤ most_of_group)} {B = IsAllowed blocks sel i}
    (λ both. record {
      block = block;
      stands = e;
      parent = λ j other at. both.0 j (slice_get_within blocks j other at) other at;
      group = both.1;
    })
    (λ h.
    (let stands = h.stands in
    let same : h.block ≡ block = cc in (
      λ j l other at is. h.parent j other at (subst (λ (b : Block). IsParent other b) (sym same) is),
      subst (λ (b : Block). accepted_of_group b blocks sel ≤ most_of_group) same h.group,
    )))
    (decided_both ((j : ℕ) → j < length blocks → IsAcceptedParent blocks sel block j)
    (accepted_of_group block blocks sel ≤ most_of_group)
    (decided_below (IsAcceptedParent blocks sel block) (decided_accepted_parent blocks sel block) (length blocks))
    (decided_at_most (accepted_of_group block blocks sel) most_of_group))

pub accepted_within : (sel : List Bool) (i : ℕ) → accepts sel i ≡ true → i < length sel
accepted_within [] i e = absurd (cc)
accepted_within (b ∷ sel) zero e = omega arith
accepted_within (b ∷ sel) (suc i) e = let rest = accepted_within sel i e in omega (arith, rest)

pub decided_admissible : (blocks : List Block) (sel : List Bool) → Dec (IsAdmissible blocks sel)
decided_admissible blocks sel = map_dec {A = (i : ℕ) → accepts sel i ≡ true → IsAllowed blocks sel i} {B = IsAdmissible blocks sel}
    (λ all. record { each = all })
    (λ h. h.each)
    (decided_each (λ (i : ℕ). accepts sel i ≡ true) (λ (i : ℕ). IsAllowed blocks sel i) (length sel) (accepted_within sel)
    (λ i. decided_if (accepts sel i ≡ true) (IsAllowed blocks sel i) (decided_true (accepts sel i))
    (decided_block blocks sel i (slice_get blocks i) refl)))
