-- The completions of a prefix.
use Rattle.dam_bound.proofs.Common.{◌≡◌, ℕ, suc, ◌+◌, ◌-◌, ◌<◌, ◌≤◌, ◌⊎◌, inl, inr, Bool, true, false, List, [], ◌∷◌, ◌++◌, length, ap, ◌∙◌, sym, refl, arith}
use Rattle.dam_bound.proofs.Common.{slice_get_within, most_blocks, ProblemState, accepts}
use Rattle.std.proofs.Common.{replicate, append_assoc, length-append}
use Rattle.std.proofs.lemmas.List.{get_or-drop, length-replicate}
use Rattle.std.proofs.Math.Seq.{drop-append_seam}
use Rattle.dam_blocks.specs.Selection.{padded, IsAdmissible}
use Rattle.dam_bound.specs.Prefix.{IsCompletion}

-- ---- the extensions
extended_by : (prefix sel rest : List Bool) → length prefix < most_blocks → length sel ≡ most_blocks → sel ≡ prefix ++ rest
    → IsCompletion (prefix ++ true ∷ []) sel ⊎ IsCompletion (prefix ++ false ∷ []) sel
extended_by prefix sel [] few long is =
    let all = ap length is ∙ length-append prefix [] in absurd (omega (arith, few, long, all))
extended_by prefix sel (true ∷ rest) few long is =
    inl (record { as_long = long; rest = rest; agrees = is ∙ sym (append_assoc prefix (true ∷ []) rest) })
extended_by prefix sel (false ∷ rest) few long is =
    inr (record { as_long = long; rest = rest; agrees = is ∙ sym (append_assoc prefix (false ∷ []) rest) })

pub extended : (prefix sel : List Bool) → length prefix < most_blocks → IsCompletion prefix sel
    → IsCompletion (prefix ++ true ∷ []) sel ⊎ IsCompletion (prefix ++ false ∷ []) sel
extended prefix sel few c = extended_by prefix sel c.rest few c.as_long c.agrees

pub shortened : (prefix rest sel : List Bool) → IsCompletion (prefix ++ rest) sel → IsCompletion prefix sel
shortened prefix rest sel c = record { as_long = c.as_long; rest = rest ++ c.rest; agrees = c.agrees ∙ append_assoc prefix rest c.rest }

pub padded_completes : (prefix : List Bool) → length prefix ≤ most_blocks → IsCompletion prefix (padded prefix)
padded_completes prefix few = record {
  as_long = omega (
    arith,
    few,
    length-append prefix (replicate (most_blocks - length prefix) false),
    length-replicate (most_blocks - length prefix) false,
  );
  rest = replicate (most_blocks - length prefix) false;
  agrees = refl;
}

pub all_complete : (sel : List Bool) → length sel ≡ most_blocks → IsCompletion [] sel
all_complete sel long = record { as_long = long; rest = sel; agrees = refl }

-- ---- every block decided
none_accepted : (xs : List Bool) → ((i : ℕ) → accepts xs i ≡ true → ⊥) → xs ≡ replicate (length xs) false
none_accepted [] h = refl
none_accepted (true ∷ xs) h = absurd (h 0 refl)
none_accepted (false ∷ xs) h = ap (λ (ys : List Bool). false ∷ ys) (none_accepted xs (λ i e. h (suc i) e))

behind : (prefix rest : List Bool) (i : ℕ) → accepts (prefix ++ rest) (length prefix + i) ≡ accepts rest i
behind prefix rest i =
    sym (get_or-drop (length prefix) (prefix ++ rest) i false) ∙ ap (λ (xs : List Bool). accepts xs i) (drop-append_seam prefix rest)

pub only_padded : (problem : ProblemState) (prefix sel : List Bool) → length problem.blocks ≤ length prefix → IsCompletion prefix sel
    → IsAdmissible problem.blocks sel → sel ≡ padded prefix
only_padded problem prefix sel whole c is =
    let agrees = c.agrees in
    let none = none_accepted c.rest (λ i e.
    (let allowed = is.each (length prefix + i) (ap (λ (xs : List Bool). accepts xs (length prefix + i)) agrees ∙ behind prefix c.rest i ∙ e)
    in
    let inside = slice_get_within problem.blocks (length prefix + i) allowed.block allowed.stands in
    absurd (omega (arith, inside, whole)))) in
    let long = sym c.as_long ∙ ap length agrees ∙ length-append prefix c.rest in
    let left : length c.rest ≡ most_blocks - length prefix = omega (arith, long) in
    agrees ∙ ap (λ (xs : List Bool). prefix ++ xs) (none ∙ ap (λ (n : ℕ). replicate n false) left)
