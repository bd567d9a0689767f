-- The places that are left, and a decision on one of them.
use Rattle.dam_search.proofs.Common.{◌≡◌, ◌≢◌, ℕ, ◌<◌, Bool, true, false, ◌==◌, ◌||◌, List, [], ◌∷◌, length, ◌∙◌, ap, sym, refl, eq-eqb, ne_eqb}
use Rattle.dam_search.proofs.Common.{get_or-set_other, accepts, is_among, AreFree, with_place_if}
use Rattle.std.proofs.lemmas.Bool.{eqb-false, or_from, or_parts}
use Rattle.std.proofs.lemmas.List.{get_or-set_same}

pub among_first : (place : ℕ) (places : List ℕ) → is_among place (place ∷ places) ≡ true
among_first place places = ap (λ (same : Bool). same || is_among place places) (eq-eqb place place refl)

pub not_among : (place other : ℕ) (undecided : List ℕ) → place ≢ other → is_among place undecided ≡ false → is_among place (other ∷ undecided) ≡ false
not_among place other undecided apart e = or_from (place == other) (is_among place undecided) (ne_eqb place other apart) e

pub among_rest : (place other : ℕ) (undecided : List ℕ) → is_among place (other ∷ undecided) ≡ false → (place ≢ other) × (is_among place undecided ≡ false)
among_rest place other undecided e =
    let both = or_parts (place == other) (is_among place undecided) e in
    (eqb-false place other both.0, both.1)

pub decided_here : (accept : Bool) (accepted : List Bool) (place : ℕ) → place < length accepted → accepts accepted place ≡ false
    → accepts (with_place_if accept accepted place) place ≡ accept
decided_here true accepted place inside free = get_or-set_same accepted place true false inside
decided_here false accepted place inside free = free

pub decided_there : (accept : Bool) (accepted : List Bool) (place other : ℕ) → other ≢ place
    → accepts (with_place_if accept accepted place) other ≡ accepts accepted other
decided_there true accepted place other apart = get_or-set_other accepted place other true false apart
decided_there false accepted place other apart = refl

pub still_free : (accept : Bool) (accepted : List Bool) (place : ℕ) (undecided : List ℕ) → is_among place undecided ≡ false → AreFree accepted undecided
    → AreFree (with_place_if accept accepted place) undecided
still_free accept accepted place [] e free = tt
still_free accept accepted place (other ∷ undecided) e free =
    let apart = among_rest place other undecided e in (
      free.0,
      decided_there accept accepted place other (λ same. apart.0 (sym same)) ∙ free.1,
      free.2,
      still_free accept accepted place undecided apart.1 free.3,
    )
