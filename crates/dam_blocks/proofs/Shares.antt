-- The gains of the participants add up to the welfare: each order is one participant's.
use Rattle.dam_blocks.proofs.Common.{◌≡◌, ℕ, zero, suc, ℤ, pos, ◌+ℤ◌, Bool, true, false, cond, Some, List, [], ◌∷◌, ap, ◌∙◌, sym, refl, arith, bytes_decides}
use Rattle.dam_blocks.proofs.Common.{ints, same_text, ProblemRow, ProblemState, IsProblem, selection_welfare, IsOutcome, gain_of}
use Rattle.std.specs.List.{slice_get}
use Rattle.dam_blocks.specs.declared.problem.Place.{Place}
use Rattle.dam_blocks.specs.Market.{over_participants, AreParticipants, over_orders}
use Rattle.dam_blocks.proofs.Sharing.{SharingLaws}
use Rattle.dam_blocks.proofs.Orders.{shared_by_orders}

-- the sum over the participants of one order's gain
abbrev part_of : List ℕ → ℤ → List (List ℕ) → ℤ
part_of who x [] = pos 0
part_of who x (p ∷ participants) = cond (same_text who p) x (pos 0) +ℤ part_of who x participants

same_name : (a b : List ℕ) → Some a ≡ Some b → a ≡ b
same_name a b e = cc

not_equal : (b : Bool) → (b ≡ true → ⊥) → b ≡ false
not_equal true h = absurd (h refl)
not_equal false h = refl

apart : (who p : List ℕ) → (p ≡ who → ⊥) → same_text who p ≡ false
apart who p h = not_equal (same_text who p) (λ e. h (sym ((bytes_decides who p).0 e)))

nobodys : (who : List ℕ) (x : ℤ) (participants : List (List ℕ)) → ((j : ℕ) → slice_get participants j ≡ Some who → ⊥)
    → part_of who x participants ≡ pos 0
nobodys who x [] h = refl
nobodys who x (p ∷ participants) h =
    let here = ap (λ (b : Bool). cond b x (pos 0)) (apart who p (λ e. h 0 (ap (λ (n : List ℕ). Some n) e))) in
    let rest = nobodys who x participants (λ j at. h (suc j) at) in
    omega (arith, ints, here, rest)

somebodys : (who : List ℕ) (x : ℤ) (participants : List (List ℕ)) (i : ℕ) → slice_get participants i ≡ Some who
    → ((j k : ℕ) → slice_get participants j ≡ Some who → slice_get participants k ≡ Some who → j ≡ k)
    → part_of who x participants ≡ x
somebodys who x [] i at once = absurd (cc)
somebodys who x (p ∷ participants) zero at once =
    let here = ap (λ (b : Bool). cond b x (pos 0)) ((bytes_decides who p).1 (sym (same_name p who at))) in
    let rest = nobodys who x participants (λ j there. (let wrong = once 0 (suc j) at there in omega (arith, wrong))) in
    omega (arith, ints, here, rest)
somebodys who x (p ∷ participants) (suc i) at once =
    let here = ap (λ (b : Bool). cond b x (pos 0))
    (apart who p (λ e. (let wrong = once 0 (suc i) (ap (λ (n : List ℕ). Some n) e) at in omega (arith, wrong)))) in
    let rest = somebodys who x participants i at (λ j k first second. (let one = once (suc j) (suc k) first second in omega (arith, one))) in
    omega (arith, ints, here, rest)

no_rows : (participants : List (List ℕ)) (gain : Place → ℤ) → over_participants participants gain [] ≡ pos 0
no_rows [] gain = refl
no_rows (p ∷ participants) gain = let rest = no_rows participants gain in omega (arith, ints, rest)

one_row_more : (participants : List (List ℕ)) (gain : Place → ℤ) (row : ProblemRow) (rows : List ProblemRow)
    → over_participants participants gain (row ∷ rows) ≡ part_of row.who (gain row.at) participants +ℤ over_participants participants gain rows
one_row_more [] gain row rows = refl
one_row_more (p ∷ participants) gain row rows = let rest = one_row_more participants gain row rows in omega (arith, ints, rest)

all_shares : (participants : List (List ℕ)) (gain : Place → ℤ) (rows : List ProblemRow) → AreParticipants participants rows
    → over_participants participants gain rows ≡ over_orders gain rows
all_shares participants gain [] are = no_rows participants gain
all_shares participants gain (row ∷ rows) are =
    let more = one_row_more participants gain row rows in
    let own = are.every 0 row refl in
    let here = somebodys row.who (gain row.at) participants own.0 own.1 (λ j k. are.once j k row.who) in
    let rest = all_shares participants gain rows (record { every = λ k r at. are.every (suc k) r at; once = are.once }) in
    omega (arith, ints, more, here, rest)

pub shared_by_participants : SharingLaws → (problem : ProblemState) (sel : List Bool) (prices : List ℤ) (executions : List (List ℕ))
    (participants : List (List ℕ)) → IsProblem problem → IsOutcome problem sel prices executions → AreParticipants participants problem.rows
    → selection_welfare problem sel ≡ Some (over_participants participants (gain_of problem sel prices executions) problem.rows)
shared_by_participants laws problem sel prices executions participants is outcome are =
    shared_by_orders laws problem sel prices executions is outcome
    ∙ ap (λ (z : ℤ). Some z) (sym (all_shares participants (gain_of problem sel prices executions) problem.rows are))
