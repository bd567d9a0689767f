-- A file that was never made whole stands for no lines.
use Rattle.std.proofs.Common.{◌≡◌, inl, inr, ℕ, ◌≤◌, ◌==◌, ◌&&◌, nat_le, nat_lt, true, false, if◌then◌else◌, List, [], ◌∷◌, ◌++◌, Some, None, length, take, drop, slice_index, refl, sym, ap, ◌∙◌, subst, arith, length-append}
use Rattle.std.proofs.lemmas.Bool.{both_ways, or_cases, or_left, or_right, and_parts, and_left, and_right, cases_eq, cond-true, cond-false, eqb-true, ne_eqb, le-ltb, le-leb, leb-true}
use Rattle.std.proofs.lemmas.Slice.Eq.{bytes_eq-Decides}
use Rattle.std.specs.Str.{bytes_eq}
use Rattle.std.proofs.lemmas.List.{drop_all, append-nil}
use Rattle.sqlite_disk.specs.Disk.{Torn, Holds}
use Rattle.dam_store.specs.Limits.{most_file_bytes}
use Rattle.dam_store.specs.inside.Shape.{IsAtRest}
use Rattle.dam_store.proofs.Parts.{middle, middle_short, middle_whole, torn_is, written_is}
use Rattle.dam_store.specs.FileLines.{marked_lines, head_line, lines_in, with_room, after_first, is_unmade, stands_for, StandsFor}

-- what is left to say of a file that isn't too long
within : (file : List ℕ) → length file ≤ most_file_bytes
    → stands_for file ≡ (if bytes_eq (take (length head_line) file) head_line then with_room (lines_in file) else (if is_unmade file then Some [] else None))
within file short = cond-false (nat_lt most_file_bytes (length file)) _ _ (le-ltb most_file_bytes (length file) short)

pub stands_after_head : (bytes : List ℕ) → length (head_line ++ bytes) ≤ most_file_bytes
    → stands_for (head_line ++ bytes) ≡ with_room (marked_lines bytes)
stands_after_head bytes short = within (head_line ++ bytes) short

not_head : (first : ℕ) (rest : List ℕ) → (first ≡ 43 → ⊥) → bytes_eq (take (length head_line) (first ∷ rest)) head_line ≡ false
not_head first rest other = and_left (first == 43) _ (ne_eqb first 43 other)

unmade_is : (file : List ℕ) → length file ≤ most_file_bytes → bytes_eq (take (length head_line) file) head_line ≡ false
    → is_unmade file ≡ true → StandsFor [] file
unmade_is file short no_head unmade =
    within file short
    ∙ cond-false (bytes_eq (take (length head_line) file) head_line) (with_room (lines_in file)) (if is_unmade file then Some [] else None) no_head
    ∙ cond-true (is_unmade file) (Some []) None unmade

-- all the bytes of a new file but the first, after any byte
pub after_any : (first : ℕ) → StandsFor [] (first ∷ after_first)
after_any first = elim (cases_eq first 43) [
  | inl is ↦ subst (λ (b : ℕ). StandsFor [] (b ∷ after_first)) (sym is) refl
  | inr other ↦
      unmade_is (first ∷ after_first) (omega arith) (not_head first after_first other)
      (or_right (first == 45 && nat_le (length after_first) (length after_first)) (bytes_eq after_first after_first) refl)
]

-- the mark `-`, and then no more bytes than a new file has
pub after_minus : (rest : List ℕ) → length rest ≤ length after_first → StandsFor [] (45 ∷ rest)
after_minus [] short = refl
after_minus (second ∷ rest) short =
    unmade_is (45 ∷ second ∷ rest) (omega arith) (not_head 45 (second ∷ rest) (omega arith))
    (or_left (nat_le (length (second ∷ rest)) (length after_first)) (bytes_eq (second ∷ rest) after_first) (le-leb (length (second ∷ rest)) (length after_first) short))

-- at most one byte
pub at_most_one : (file : List ℕ) → length file ≤ 1 → StandsFor [] file
at_most_one [] short = refl
at_most_one (first ∷ []) short = unmade_is (first ∷ []) (omega arith) (and_right (first == 43) false refl) refl
at_most_one (first ∷ second ∷ rest) short = absurd (omega arith)

-- after its first byte becomes the mark `-`, such a file has no more bytes than a new one
pub unmade_tail : (file : List ℕ) → is_unmade file ≡ true → length (drop 1 file) ≤ length after_first
unmade_tail [] unmade = omega arith
unmade_tail (first ∷ []) unmade = omega arith
unmade_tail (first ∷ second ∷ rest) unmade = elim (or_cases (first == 45 && nat_le (length (second ∷ rest)) (length after_first)) (bytes_eq (second ∷ rest) after_first) unmade) [
  | inl minus ↦ leb-true (length (second ∷ rest)) (length after_first) (and_parts (first == 45) (nat_le (length (second ∷ rest)) (length after_first)) minus).1
  | inr same ↦ let is : second ∷ rest ≡ after_first = (bytes_eq-Decides (second ∷ rest) after_first).0 same in omega (arith, ap length is)
]

-- any byte in place of its first, if that isn't the mark `-`
pub unmade_first : (file middle : List ℕ) → is_unmade file ≡ true → (slice_index file 0 == 45) ≡ false → length middle ≤ 1
    → (1 ≤ length file → length middle ≡ 1) → StandsFor [] (middle ++ drop 1 file)
unmade_first [] [] unmade other short one = refl
unmade_first [] (m ∷ middle) unmade other short one = at_most_one ((m ∷ middle) ++ []) (omega (arith, length-append (m ∷ middle) []))
unmade_first (first ∷ rest) [] unmade other short one = absurd (let e = one (omega arith) in omega arith)
unmade_first (first ∷ rest) (m ∷ n ∷ middle) unmade other short one = absurd (omega arith)
unmade_first (first ∷ []) (m ∷ []) unmade other short one = at_most_one (m ∷ []) (omega arith)
unmade_first (first ∷ second ∷ rest) (m ∷ []) unmade other short one = elim (or_cases (first == 45 && nat_le (length (second ∷ rest)) (length after_first)) (bytes_eq (second ∷ rest) after_first) unmade) [
  | inl minus ↦ absurd (both_ways (first == 45) other (and_parts (first == 45) (nat_le (length (second ∷ rest)) (length after_first)) minus).0)
  | inr same ↦
      let is : second ∷ rest ≡ after_first = (bytes_eq-Decides (second ∷ rest) after_first).0 same in
      subst (λ (l : List ℕ). StandsFor [] (m ∷ l)) (sym is) (after_any m)
]

module _ (tail : List ℕ) (short : length tail ≤ length after_first) (c : List ℕ) (torn : Torn 1 (length after_first) (45 ∷ tail) c) where
  no_more : drop (length after_first) tail ≡ []
  no_more = drop_all (length after_first) tail short

  -- while the first line is written after the mark `-`
  pub head_torn : StandsFor [] c
  head_torn =
      let rest = middle (45 ∷ []) tail 1 (length after_first) c refl torn in
      let is : c ≡ 45 ∷ rest = torn_is (45 ∷ []) tail 1 (length after_first) c refl torn
      ∙ ap (λ (l : List ℕ). 45 ∷ (rest ++ l)) no_more ∙ ap (λ (l : List ℕ). 45 ∷ l) (append-nil rest) in
      subst (StandsFor []) (sym is) (after_minus rest (middle_short (45 ∷ []) tail 1 (length after_first) c refl torn))

  pub head_written : Holds c 1 after_first → c ≡ 45 ∷ after_first
  head_written holds = written_is (45 ∷ []) tail 1 (length after_first) c refl torn after_first refl holds
      ∙ ap (λ (l : List ℕ). 45 ∷ (after_first ++ l)) no_more

module _ (c : List ℕ) (torn : Torn 0 1 (45 ∷ after_first) c) where
  -- while the mark is opened
  pub first_torn : StandsFor [] c
  first_torn =
      let one = middle [] (45 ∷ after_first) 0 1 c refl torn in
      subst (StandsFor []) (sym (torn_is [] (45 ∷ after_first) 0 1 c refl torn)) (unmade_first (0 ∷ after_first) one refl refl
      (middle_short [] (45 ∷ after_first) 0 1 c refl torn) (λ _. middle_whole [] (45 ∷ after_first) 0 1 c refl torn (omega arith)))

  pub first_written : Holds c 0 (43 ∷ []) → c ≡ 43 ∷ after_first
  first_written holds = written_is [] (45 ∷ after_first) 0 1 c refl torn (43 ∷ []) refl holds

pub made_at_rest : (c : List ℕ) → c ≡ 43 ∷ after_first → IsAtRest c (length head_line) []
made_at_rest c is = subst (λ (f : List ℕ). IsAtRest f (length head_line) [])
    (sym is) (record { split = refl; end_is = refl; whole = tt; last = refl; short = omega arith })

module _ (file : List ℕ) (unmade : is_unmade file ≡ true) (c : List ℕ) (torn : Torn 0 1 file c) where
  -- while the first byte becomes the mark `-`
  pub minus_torn : (slice_index file 0 == 45) ≡ false → StandsFor [] c
  minus_torn other = subst (StandsFor []) (sym (torn_is [] file 0 1 c refl torn)) (unmade_first file
      (middle [] file 0 1 c refl torn) unmade other (middle_short [] file 0 1 c refl torn)
      (λ some. middle_whole [] file 0 1 c refl torn some))

  pub minus_written : Holds c 0 (45 ∷ []) → c ≡ 45 ∷ drop 1 file
  minus_written holds = written_is [] file 0 1 c refl torn (45 ∷ []) refl holds

-- an unmade file stands for no lines
pub unmade_stands : (file : List ℕ) → is_unmade file ≡ true → StandsFor [] file
unmade_stands [] unmade = refl
unmade_stands (first ∷ []) unmade = at_most_one (first ∷ []) (omega arith)
unmade_stands (first ∷ second ∷ rest) unmade = elim (or_cases (first == 45 && nat_le (length (second ∷ rest)) (length after_first)) (bytes_eq (second ∷ rest) after_first) unmade) [
  | inl minus ↦
      let both = and_parts (first == 45) (nat_le (length (second ∷ rest)) (length after_first)) minus in
      subst (λ (b : ℕ). StandsFor [] (b ∷ second ∷ rest))
      (sym (eqb-true first 45 both.0)) (after_minus (second ∷ rest) (leb-true (length (second ∷ rest)) (length after_first) both.1))
  | inr same ↦
      let is : second ∷ rest ≡ after_first = (bytes_eq-Decides (second ∷ rest) after_first).0 same in
      subst (λ (l : List ℕ). StandsFor [] (first ∷ l)) (sym is) (after_any first)
]
