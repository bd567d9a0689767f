-- Whole marked lines are the lines that the bytes stand for.
use Rattle.std.proofs.Common.{◌≡◌, inl, inr, ℕ, zero, suc, ◌+◌, ◌-◌, ◌<◌, ◌==◌, true, false, List, [], ◌∷◌, ◌++◌, Option, Some, None, length, take, drop, set, slice_index, refl, sym, ap, ◌∙◌, subst, arith, append_assoc, length-append, append-nil}
use Rattle.std.proofs.lemmas.Bool.{or_parts, or_from, cases_Bool, cond-true, cond-false, eqb-true, false_from_ne_true}
use Rattle.std.proofs.lemmas.List.{drop_at, take_at, set_at}
use Rattle.dam_store.specs.FileLines.{HaveNoNewline, text_of, marked, lines_from, marked_lines}
use Rattle.dam_store.specs.inside.Shape.{has_newline, BeginsWithLine, IsShut, AreRead, EndsAt, IsBatch}

-- the rest of a marked line
rest_of_line : (line rest before : List ℕ) → has_newline line ≡ false
    → lines_from (Some before) (line ++ 10 ∷ rest) ≡ (before ++ line) ∷ marked_lines rest
rest_of_line [] rest before whole = ap (λ (l : List ℕ). l ∷ marked_lines rest) (sym (append-nil before))
rest_of_line (b ∷ line) rest before whole =
    let both = or_parts (b == 10) (has_newline line) whole in
    cond-false (b == 10) _ _ both.0 ∙ rest_of_line line rest (before ++ b ∷ []) both.1
    ∙ ap (λ (l : List ℕ). l ∷ marked_lines rest) (append_assoc before (b ∷ []) line)

pub marked_split : (line : List ℕ) (lines : List (List ℕ)) (rest : List ℕ)
    → marked (line ∷ lines) ++ rest ≡ 43 ∷ line ++ 10 ∷ (marked lines ++ rest)
marked_split line lines rest = ap (λ (l : List ℕ). 43 ∷ l) (append_assoc line (10 ∷ marked lines) rest)

-- whole marked lines, and then whatever the rest stands for
pub lines_marked : (lines : List (List ℕ)) (rest : List ℕ) → HaveNoNewline lines
    → marked_lines (marked lines ++ rest) ≡ lines ++ marked_lines rest
lines_marked [] rest whole = refl
lines_marked (line ∷ lines) rest whole =
    ap marked_lines (marked_split line lines rest) ∙ rest_of_line line (marked lines ++ rest) [] whole.0
    ∙ ap (λ (ls : List (List ℕ)). line ∷ ls) (lines_marked lines rest whole.1)

pub marked-append : (lines more : List (List ℕ)) (rest : List ℕ) → marked (lines ++ more) ++ rest ≡ marked lines ++ (marked more ++ rest)
marked-append [] more rest = refl
marked-append (line ∷ lines) more rest =
    marked_split line (lines ++ more) rest ∙ ap (λ (l : List ℕ). 43 ∷ line ++ 10 ∷ l) (marked-append lines more rest)
    ∙ sym (marked_split line lines (marked more ++ rest))

pub whole-append : (lines more : List (List ℕ)) → HaveNoNewline lines → HaveNoNewline more → HaveNoNewline (lines ++ more)
whole-append [] more whole also = also
whole-append (line ∷ lines) more whole also = (whole.0, whole-append lines more whole.1 also)

-- bytes with no newline have no whole line
none_within : (bytes : List ℕ) (place : Option (List ℕ)) → has_newline bytes ≡ false → lines_from place bytes ≡ []
none_within [] place none = refl
none_within (b ∷ bytes) None none =
    let both = or_parts (b == 10) (has_newline bytes) none in
    elim (cases_Bool (b == 43)) [
      | inl is ↦ cond-true (b == 43) _ _ is ∙ none_within bytes (Some []) both.1
      | inr not_mark ↦ cond-false (b == 43) _ _ not_mark
    ]
none_within (b ∷ bytes) (Some line) none =
    let both = or_parts (b == 10) (has_newline bytes) none in
    cond-false (b == 10) _ _ both.0 ∙ none_within bytes (Some (line ++ b ∷ [])) both.1

no_mark : (bytes : List ℕ) → (slice_index bytes 0 == 43) ≡ false → marked_lines bytes ≡ []
no_mark [] not_mark = refl
no_mark (b ∷ bytes) not_mark = cond-false (b == 43) _ _ not_mark

pub shut_lines : (bytes : List ℕ) → IsShut bytes → marked_lines bytes ≡ []
shut_lines bytes (inl not_mark) = no_mark bytes not_mark
shut_lines bytes (inr none) = none_within bytes None none

pub lines_then_shut : (lines : List (List ℕ)) (rest : List ℕ) → HaveNoNewline lines → IsShut rest → marked_lines (marked lines ++ rest) ≡ lines
lines_then_shut lines rest whole shut = lines_marked lines rest whole ∙ ap (λ (ls : List (List ℕ)). lines ++ ls) (shut_lines rest shut)
    ∙ append-nil lines

-- no newline at any place
pub none_has : (bytes : List ℕ) → ((k : ℕ) → k < length bytes → (slice_index bytes k == 10) ≡ true → ⊥) → has_newline bytes ≡ false
none_has [] none = refl
none_has (b ∷ bytes) none = or_from (b == 10) (has_newline bytes) (false_from_ne_true (b == 10) (none 0 (omega arith))) (none_has bytes
    (λ k low. none (suc k) (omega arith)))

split_at : (bytes : List ℕ) (k : ℕ) → k < length bytes → bytes ≡ take k bytes ++ slice_index bytes k ∷ drop (suc k) bytes
split_at [] k low = absurd (omega arith)
split_at (b ∷ bytes) zero low = refl
split_at (b ∷ bytes) (suc k) low = ap (λ (l : List ℕ). b ∷ l) (split_at bytes k (omega arith))

none_before : (bytes : List ℕ) (k : ℕ) → ((j : ℕ) → j < k → (slice_index bytes j == 10) ≡ true → ⊥) → has_newline (take k bytes) ≡ false
none_before bytes zero none = refl
none_before [] (suc k) none = refl
none_before (b ∷ bytes) (suc k) none = or_from (b == 10) (has_newline (take k bytes)) (false_from_ne_true (b == 10) (none 0
    (omega arith))) (none_before bytes k (λ j low. none (suc j) (omega arith)))

length_before : (bytes : List ℕ) (k : ℕ) → k < length bytes → length (take k bytes) ≡ k
length_before [] k low = absurd (omega arith)
length_before (b ∷ bytes) zero low = refl
length_before (b ∷ bytes) (suc k) low = ap suc (length_before bytes k (omega arith))

-- the first newline after a mark ends a marked line
pub first_line : (bytes : List ℕ) (k : ℕ) → k < length bytes → (slice_index bytes 0 == 43) ≡ true → ((j : ℕ) → j < k
    → (slice_index bytes j == 10) ≡ true → ⊥) → (slice_index bytes k == 10) ≡ true → BeginsWithLine bytes (k + 1)
first_line [] k low mark none newline = absurd (omega arith)
first_line (b ∷ bytes) zero low mark none newline = absurd (let is_mark = eqb-true b 43 mark in let is_newline = eqb-true b 10 newline in omega arith)
first_line (b ∷ bytes) (suc k) low mark none newline =
    let is_mark : b ≡ 43 = eqb-true b 43 mark in
    let is_newline : slice_index bytes k ≡ 10 = eqb-true (slice_index bytes k) 10 newline in
    let low_rest : k < length bytes = omega arith in
    record {
      line = take k bytes;
      whole = none_before bytes k (λ j less. none (suc j) (omega arith));
      split = ap (λ (x : ℕ). x ∷ bytes) is_mark ∙ ap (λ (l : List ℕ). 43 ∷ l) (split_at bytes k low_rest)
          ∙ ap (λ (x : ℕ). 43 ∷ take k bytes ++ x ∷ drop (suc k) bytes) is_newline
          ∙ ap (λ (n : ℕ). 43 ∷ take k bytes ++ 10 ∷ drop n (b ∷ bytes)) (let e : suc (suc k) ≡ suc k + 1 = omega arith in e);
      len_is = omega (arith, length_before bytes k low_rest);
      within = omega arith;
    }

text-append : (lines : List (List ℕ)) (line : List ℕ) → text_of (lines ++ line ∷ []) ≡ text_of lines ++ (line ++ 10 ∷ [])
text-append [] line = refl
text-append (l ∷ lines) line = ap (λ (t : List ℕ). l ++ 10 ∷ t) (text-append lines line)
    ∙ sym (append_assoc l (10 ∷ text_of lines) (line ++ 10 ∷ []))

-- the line without its mark
pub line_bytes : (rest : List ℕ) (len : ℕ) → (first : BeginsWithLine rest len) → take (len - 1) (drop 1 rest) ≡ first.line ++ 10 ∷ []
line_bytes rest len first =
    ap (λ (l : List ℕ). take (len - 1) (drop 1 l)) first.split
    ∙ ap (take (len - 1)) (sym (append_assoc first.line (10 ∷ []) (drop len rest)))
    ∙ take_at (first.line ++ 10 ∷ []) (drop len rest) (len - 1) (omega (arith, length-append first.line (10 ∷ []), first.len_is))

-- one line more was read
pub read_more : (bytes rest text : List ℕ) (end len : ℕ) → AreRead bytes rest text end → (first : BeginsWithLine rest len)
    → AreRead bytes (drop len rest) (text ++ (first.line ++ 10 ∷ [])) (end + len)
read_more bytes rest text end len so_far first = record {
  lines = so_far.lines ++ first.line ∷ [];
  whole = whole-append so_far.lines (first.line ∷ []) so_far.whole (first.whole, tt);
  split = so_far.split ∙ ap (λ (l : List ℕ). marked so_far.lines ++ l) (first.split ∙ sym (marked_split first.line [] (drop len rest)))
      ∙ sym (marked-append so_far.lines (first.line ∷ []) (drop len rest));
  end_is =
      omega (
        arith,
        so_far.end_is,
        first.len_is,
        ap length (sym (append-nil (marked (so_far.lines ++ first.line ∷ [])))
            ∙ marked-append so_far.lines (first.line ∷ []) []),
        length-append (marked so_far.lines) (marked (first.line ∷ []) ++ []),
        ap length (marked_split first.line [] []),
        length-append first.line (10 ∷ []),
      );
  text_is = ap (λ (l : List ℕ). l ++ (first.line ++ 10 ∷ [])) so_far.text_is ∙ sym (text-append so_far.lines first.line);
}

pub all_read : (bytes rest text : List ℕ) (end : ℕ) → AreRead bytes rest text end → IsShut rest
    → EndsAt bytes end (marked_lines bytes) × (text ≡ text_of (marked_lines bytes))
all_read bytes rest text end read shut =
    let lines : marked_lines bytes ≡ read.lines = ap marked_lines read.split ∙ lines_then_shut read.lines rest read.whole shut in
    let left : drop end bytes ≡ rest = ap (drop end) read.split ∙ drop_at (marked read.lines) rest end (sym read.end_is) in (
      subst (EndsAt bytes end) (sym lines) (record {
        split = read.split ∙ ap (λ (l : List ℕ). marked read.lines ++ l) (sym left);
        end_is = read.end_is;
        whole = read.whole;
        shut = subst IsShut (sym left) shut;
      }),
      read.text_is ∙ ap text_of (sym lines),
    )

-- the bytes of a batch with one line more
batch_grown : (bytes line : List ℕ) (mark : ℕ) → IsBatch bytes → mark + 1 ≡ length bytes
    → set (bytes ++ (line ++ 10 ∷ 45 ∷ [])) mark 43 ≡ marked (marked_lines bytes ++ line ∷ []) ++ 45 ∷ []
batch_grown bytes line mark batch mark_is =
    let lines = marked_lines bytes in
    let more = line ++ 10 ∷ 45 ∷ [] in
    ap (λ (l : List ℕ). set (l ++ more) mark 43) batch.split
    ∙ ap (λ (l : List ℕ). set l mark 43) (append_assoc (marked lines) (45 ∷ []) more)
    ∙ set_at (marked lines) 45 more 43 mark (omega (arith, ap length batch.split, length-append (marked lines) (45 ∷ [])))
    ∙ ap (λ (l : List ℕ). marked lines ++ l) (sym (marked_split line [] (45 ∷ []))) ∙ sym (marked-append lines (line ∷ []) (45 ∷ []))

-- a batch with one line more
pub batch_more : (bytes line grown : List ℕ) (mark : ℕ) → IsBatch bytes → has_newline line ≡ false → mark + 1 ≡ length bytes
    → grown ≡ set (bytes ++ (line ++ 10 ∷ 45 ∷ [])) mark 43 → IsBatch grown × (marked_lines grown ≡ marked_lines bytes ++ line ∷ [])
batch_more bytes line grown mark batch whole mark_is grown_is =
    let lines = marked_lines bytes ++ line ∷ [] in
    let all_whole = whole-append (marked_lines bytes) (line ∷ []) batch.whole (whole, tt) in
    let same : grown ≡ marked lines ++ 45 ∷ [] = grown_is ∙ batch_grown bytes line mark batch mark_is in
    let is : marked_lines grown ≡ lines = ap marked_lines same ∙ lines_then_shut lines (45 ∷ []) all_whole (inl refl) in
    (record { split = same ∙ ap (λ (ls : List (List ℕ)). marked ls ++ 45 ∷ []) (sym is); whole = subst HaveNoNewline (sym is) all_whole }, is)

none_more : (line : List ℕ) (b : ℕ) → has_newline line ≡ false → (b == 10) ≡ false → has_newline (line ++ b ∷ []) ≡ false
none_more [] b none other = or_from (b == 10) false other refl
none_more (x ∷ line) b none other = let both = or_parts (x == 10) (has_newline line) none in or_from (x == 10) (has_newline (line ++ b ∷ [])) both.0 (none_more line b both.1 other)

abbrev IsWholeSoFar : Option (List ℕ) → Type 0
IsWholeSoFar None = Unit {0}
IsWholeSoFar (Some line) = has_newline line ≡ false

whole_from : (bytes : List ℕ) (place : Option (List ℕ)) → IsWholeSoFar place → HaveNoNewline (lines_from place bytes)
whole_from [] place whole = tt
whole_from (b ∷ bytes) None whole = elim (cases_Bool (b == 43)) [
  | inl mark ↦ subst HaveNoNewline (sym (cond-true (b == 43) (lines_from (Some []) bytes) [] mark)) (whole_from bytes (Some []) refl)
  | inr other ↦ subst HaveNoNewline (sym (cond-false (b == 43) (lines_from (Some []) bytes) [] other)) tt
]
whole_from (b ∷ bytes) (Some line) whole = elim (cases_Bool (b == 10)) [
  | inl newline ↦ subst HaveNoNewline
      (sym (cond-true (b == 10) (line ∷ lines_from None bytes) (lines_from (Some (line ++ b ∷ [])) bytes) newline)) (
        whole,
        whole_from bytes None tt,
      )
  | inr other ↦ subst HaveNoNewline (sym (cond-false (b == 10) (line ∷ lines_from None bytes) (lines_from (Some (line ++ b ∷ [])) bytes) other)) (whole_from bytes (Some (line ++ b ∷ [])) (none_more line b whole other))
]

-- the lines that are read have no newline
pub whole_lines : (bytes : List ℕ) → HaveNoNewline (marked_lines bytes)
whole_lines bytes = whole_from bytes None tt
