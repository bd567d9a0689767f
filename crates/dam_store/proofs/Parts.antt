-- A torn write changes its range alone, and a whole one leaves its bytes there.
use Rattle.std.proofs.Common.{◌≡◌, inl, inr, ℕ, zero, suc, ◌+◌, ◌<◌, ◌≤◌, List, [], ◌∷◌, ◌++◌, length, take, drop, slice_index, refl, sym, ap, ◌∙◌, arith, length-append, length-drop, take-append-drop, get_or-drop}
use Rattle.std.proofs.lemmas.Bool.{cases_lt}
use Rattle.std.proofs.lemmas.List.{take_at, drop_at, drop_all, drop-drop, length-take, get_or-take, ext_get_or}
use Rattle.sqlite_disk.specs.Disk.{Torn, Holds}

same_front : (n : ℕ) (old new : List ℕ) → n ≤ length old → n ≤ length new → ((i : ℕ) → i < n → slice_index new i ≡ slice_index old i)
    → take n new ≡ take n old
same_front zero old new low also same = refl
same_front (suc n) [] new low also same = absurd (omega arith)
same_front (suc n) (x ∷ old) [] low also same = absurd (omega arith)
same_front (suc n) (x ∷ old) (y ∷ new) low also same =
    ap (λ (z : ℕ). z ∷ take n new) (same 0 (omega arith))
    ∙ ap (λ (l : List ℕ). x ∷ l) (same_front n old new (omega arith) (omega arith) (λ i less. same (suc i) (omega arith)))

module _ (front rest : List ℕ) (at n : ℕ) (c : List ℕ) (at_is : at ≡ length front) (torn : Torn at n (front ++ rest) c) where
  length_old : length (front ++ rest) ≡ length front + length rest
  length_old = length-append front rest

  before : take at c ≡ front
  before =
      same_front at (front ++ rest) c (omega (arith, length_old)) (omega (arith, length_old, torn.no_shorter))
      (λ i less. torn.below i (omega (arith, length_old)) less)
      ∙ take_at front rest at (sym at_is)

  rest_after : drop (at + n) (front ++ rest) ≡ drop n rest
  rest_after = sym (drop-drop n at (front ++ rest)) ∙ ap (λ (l : List ℕ). drop n l) (drop_at front rest at (sym at_is))

  after : drop (at + n) c ≡ drop n rest
  after = elim (cases_lt (length (front ++ rest)) (at + n)) [
    | inl past ↦ drop_all (at + n) c (omega (arith, torn.no_longer)) ∙ sym (drop_all n rest (omega (arith, length_old)))
    | inr within ↦
        let same_length : length c ≡ length (front ++ rest) = omega (arith, torn.no_shorter, torn.no_longer) in
        ext_get_or 0 (drop (at + n) c) (drop (at + n) (front ++ rest))
        (omega (arith, length-drop (at + n) c, length-drop (at + n) (front ++ rest), same_length))
        (λ i less. get_or-drop (at + n) c i 0
        ∙ torn.above (at + n + i) (omega (arith, length-drop (at + n) c, same_length)) (omega arith)
        ∙ sym (get_or-drop (at + n) (front ++ rest) i 0))
        ∙ rest_after
  ]

  -- the bytes in the range of the write
  abbrev pub middle : List ℕ
  middle = take n (drop at c)

  pub torn_is : c ≡ front ++ (middle ++ drop n rest)
  torn_is =
      sym (take-append-drop at c)
      ∙ ap (λ (l : List ℕ). l ++ drop at c) before
      ∙ ap (λ (l : List ℕ). front ++ l) (sym (take-append-drop n (drop at c)))
      ∙ ap (λ (l : List ℕ). front ++ (middle ++ l)) (drop-drop n at c ∙ after)

  pub middle_short : length middle ≤ n
  middle_short = omega (arith, length-take n (drop at c))

  pub middle_whole : n ≤ length rest → length middle ≡ n
  middle_whole within = omega (arith, length-take n (drop at c), length-drop at c, torn.no_shorter, length_old)

  pub written_is : (bytes : List ℕ) → n ≡ length bytes → Holds c at bytes → c ≡ front ++ (bytes ++ drop n rest)
  written_is bytes n_is holds =
      let long : length middle ≡ length bytes = omega (arith, length-take n (drop at c), length-drop at c, holds.within) in
      let is : middle ≡ bytes = ext_get_or 0 middle bytes long (λ i less. get_or-take n (drop at c) i 0 (omega arith)
      ∙ get_or-drop at c i 0 ∙ holds.each i (omega arith)) in
      torn_is ∙ ap (λ (l : List ℕ). front ++ (l ++ drop n rest)) is
