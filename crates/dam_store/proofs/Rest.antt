-- What a journal's file stands for while lines are written after the mark `-`, the mark is opened, or the end is repaired.
use Rattle.std.proofs.Common.{◌≡◌, inl, inr, ℕ, zero, suc, ◌+◌, ◌-◌, ◌<◌, ◌≤◌, ◌==◌, nat_lt, replicate, true, false, not, List, [], ◌∷◌, ◌++◌, Some, None, length, take, drop, slice_index, refl, sym, ap, ◌∙◌, subst, arith, append_assoc, length-append, length-drop, append-nil}
use Rattle.std.proofs.lemmas.Bool.{or_parts, or_from, or_cases, not-true, or_left, or_right, both_ways, cases_lt, cases_Bool, cond-true, cond-false, eqb-true, lt-ltb, le-ltb}
use Rattle.std.proofs.lemmas.List.{length-replicate, drop_at, drop_all, take_at, drop-drop, drop_more, take_rest, length-take-le}
use Rattle.sqlite_disk.specs.Disk.{Torn, Holds}
use Rattle.dam_store.specs.Limits.{most_file_bytes}
use Rattle.dam_store.specs.FileLines.{HaveNoNewline, marked, bytes_on_disk, lines_in, with_room, head_line, stands_for, StandsFor, StandsForEither}
use Rattle.dam_store.specs.inside.Shape.{has_newline, is_shut, IsShut, FileLinesEndAt, IsEndedAt, IsAtRest, IsFileAtRest, EndsAt}
use Rattle.dam_store.proofs.Lines.{lines_then_shut, marked-append, whole-append, whole_lines}
use Rattle.dam_store.proofs.Parts.{middle, middle_short, middle_whole, torn_is, written_is}
use Rattle.dam_store.proofs.Unmade.{stands_after_head}

pub lines_on_disk : (lines : List (List ℕ)) (rest : List ℕ) → HaveNoNewline lines → IsShut rest → lines_in (bytes_on_disk lines ++ rest) ≡ lines
lines_on_disk lines rest whole shut = lines_then_shut lines rest whole shut

pub stands_on_disk : (lines : List (List ℕ)) (rest : List ℕ) → HaveNoNewline lines → IsShut rest → length (bytes_on_disk lines) < most_file_bytes
    → length (bytes_on_disk lines ++ rest) ≤ most_file_bytes → StandsFor lines (bytes_on_disk lines ++ rest)
stands_on_disk lines rest whole shut room short =
    stands_after_head (marked lines ++ rest) short ∙ ap with_room (lines_then_shut lines rest whole shut)
    ∙ cond-true (nat_lt (length (bytes_on_disk lines)) most_file_bytes) (Some lines) None (lt-ltb _ _ room)

on_disk-append : (lines more : List (List ℕ)) (rest : List ℕ) → bytes_on_disk (lines ++ more) ++ rest ≡ bytes_on_disk lines ++ (marked more ++ rest)
on_disk-append lines more rest = ap (λ (l : List ℕ). head_line ++ l) (marked-append lines more rest)

shut_byte : (byte : ℕ) (rest : List ℕ) → has_newline rest ≡ false → IsShut (byte ∷ rest)
shut_byte byte rest none = elim (cases_Bool (byte == 43)) [
  | inl mark ↦ let is : byte ≡ 43 = eqb-true byte 43 mark in inr (subst (λ (b : ℕ). has_newline (b ∷ rest) ≡ false) (sym is) none)
  | inr other ↦ inl other
]

shut_short : (bytes rest : List ℕ) → length bytes ≤ 1 → has_newline rest ≡ false → IsShut (bytes ++ rest)
shut_short [] rest short none = inr none
shut_short (byte ∷ []) rest short none = shut_byte byte rest none
shut_short (byte ∷ other ∷ bytes) rest short none = absurd (omega arith)

pub at_rest_from : (lines : List (List ℕ)) (tail file : List ℕ) (end : ℕ) → file ≡ bytes_on_disk lines ++ 45 ∷ tail
    → end ≡ length (bytes_on_disk lines) → HaveNoNewline lines → has_newline tail ≡ false → length file ≤ most_file_bytes → IsAtRest file end lines
at_rest_from lines tail file end is end_is whole last short =
    let rest : drop (end + 1) file ≡ tail = ap (drop (end + 1)) is ∙ sym (drop-drop 1 end (bytes_on_disk lines ++ 45 ∷ tail))
    ∙ ap (drop 1) (drop_at (bytes_on_disk lines) (45 ∷ tail) end (sym end_is)) in
    record {
      split = is ∙ ap (λ (l : List ℕ). bytes_on_disk lines ++ 45 ∷ l) (sym rest);
      end_is = end_is;
      whole = whole;
      last = ap has_newline rest ∙ last;
      short = short;
    }

module _ (file : List ℕ) (end : ℕ) (lines : List (List ℕ)) (r : IsAtRest file end lines) where
  pub rest_lines : lines_in file ≡ lines
  rest_lines = ap lines_in r.split ∙ lines_on_disk lines (45 ∷ drop (end + 1) file) r.whole (inl refl)

  pub rest_length : length file ≡ end + 1 + length (drop (end + 1) file)
  rest_length = omega (arith, ap length r.split, length-append (bytes_on_disk lines) (45 ∷ drop (end + 1) file), r.end_is)

  split_after_mark : file ≡ (bytes_on_disk lines ++ 45 ∷ []) ++ drop (end + 1) file
  split_after_mark = r.split ∙ sym (append_assoc (bytes_on_disk lines) (45 ∷ []) (drop (end + 1) file))

  mark_end_is : end + 1 ≡ length (bytes_on_disk lines ++ 45 ∷ [])
  mark_end_is = omega (arith, length-append (bytes_on_disk lines) (45 ∷ []), r.end_is)

  module _ (n : ℕ) (room : end + 1 + n ≤ most_file_bytes) (c : List ℕ) (torn : Torn (end + 1) n file c) where
    -- as what is torn is after the mark
    moved : Torn (end + 1) n ((bytes_on_disk lines ++ 45 ∷ []) ++ drop (end + 1) file) c
    moved = subst (λ (f : List ℕ). Torn (end + 1) n f c) split_after_mark torn

    -- whatever stands after the mark
    pub staged_torn : StandsFor lines c
    staged_torn =
        let front = bytes_on_disk lines ++ 45 ∷ [] in
        let tail = drop (end + 1) file in
        let rest = middle front tail (end + 1) n c mark_end_is moved ++ drop n tail in
        let is : c ≡ bytes_on_disk lines ++ 45 ∷ rest = torn_is front tail (end + 1) n c mark_end_is moved
        ∙ append_assoc (bytes_on_disk lines) (45 ∷ []) rest in
        subst (StandsFor lines) (sym is)
        (stands_on_disk lines (45 ∷ rest) r.whole (inl refl) (omega (arith, r.end_is))
        (omega (arith, ap length is, torn.no_longer, r.short)))

    pub staged_is : (bytes : List ℕ) → n ≡ length bytes → Holds c (end + 1) bytes
        → c ≡ bytes_on_disk lines ++ 45 ∷ (bytes ++ drop n (drop (end + 1) file))
    staged_is bytes n_is holds =
        written_is (bytes_on_disk lines ++ 45 ∷ []) (drop (end + 1) file) (end + 1) n c mark_end_is moved bytes n_is holds
        ∙ append_assoc (bytes_on_disk lines) (45 ∷ []) (bytes ++ drop n (drop (end + 1) file))

-- lines staged after the mark `-`, which a second write opens
module _ (lines batch : List (List ℕ)) (end : ℕ) (bytes tail file : List ℕ) (end_is : end ≡ length (bytes_on_disk lines)) (whole : HaveNoNewline lines) (also : HaveNoNewline batch) (bytes_are : marked batch ++ 45 ∷ [] ≡ 43 ∷ bytes) (is : file ≡ bytes_on_disk lines ++ 45 ∷ (bytes ++ tail)) (short : length file ≤ most_file_bytes) (c : List ℕ) (torn : Torn end 1 file c) where
  file_length : length file ≡ end + 1 + length (bytes ++ tail)
  file_length = omega (arith, ap length is, length-append (bytes_on_disk lines) (45 ∷ (bytes ++ tail)), end_is)

  moved_mark : Torn end 1 (bytes_on_disk lines ++ 45 ∷ (bytes ++ tail)) c
  moved_mark = subst (λ (f : List ℕ). Torn end 1 f c) is torn

  opened : 43 ∷ (bytes ++ tail) ≡ marked batch ++ 45 ∷ tail
  opened = ap (λ (l : List ℕ). l ++ tail) (sym bytes_are) ∙ append_assoc (marked batch) (45 ∷ []) tail

  both_is : bytes_on_disk lines ++ 43 ∷ (bytes ++ tail) ≡ bytes_on_disk (lines ++ batch) ++ 45 ∷ tail
  both_is = ap (λ (l : List ℕ). bytes_on_disk lines ++ l) opened ∙ sym (on_disk-append lines batch (45 ∷ tail))

  both_length : length (bytes_on_disk (lines ++ batch)) + 1 + length tail ≡ length file
  both_length =
      omega (
        arith,
        ap length (sym both_is),
        length-append (bytes_on_disk (lines ++ batch)) (45 ∷ tail),
        length-append (bytes_on_disk lines) (43 ∷ (bytes ++ tail)),
        file_length,
        end_is,
      )

  either : (mark : List ℕ) → length mark ≡ 1 → length (bytes_on_disk lines ++ (mark ++ (bytes ++ tail))) ≤ most_file_bytes
      → StandsForEither lines batch (bytes_on_disk lines ++ (mark ++ (bytes ++ tail)))
  either [] one fits = absurd (omega arith)
  either (g ∷ h ∷ mark) one fits = absurd (omega arith)
  either (g ∷ []) one fits = elim (cases_Bool (g == 43)) [
    | inl mark ↦
        let is_mark : g ≡ 43 = eqb-true g 43 mark in
        inr (subst (λ (b : ℕ). StandsFor (lines ++ batch) (bytes_on_disk lines ++ b ∷ (bytes ++ tail))) (sym is_mark)
        (subst (StandsFor (lines ++ batch)) (sym both_is)
        (stands_on_disk (lines ++ batch) (45 ∷ tail) (whole-append lines batch whole also) (inl refl) (omega (arith, both_length, short))
        (omega (arith, both_length, short, length-append (bytes_on_disk (lines ++ batch)) (45 ∷ tail))))))
    | inr other ↦ inl (stands_on_disk lines (g ∷ (bytes ++ tail)) whole (inl other) (omega (arith, file_length, short, end_is)) fits)
  ]

  pub opened_torn : StandsForEither lines batch c
  opened_torn =
      let rest = 45 ∷ (bytes ++ tail) in
      let mark = middle (bytes_on_disk lines) rest end 1 c end_is moved_mark in
      let c_is : c ≡ bytes_on_disk lines ++ (mark ++ (bytes ++ tail)) = torn_is (bytes_on_disk lines) rest end 1 c end_is moved_mark in
      subst (StandsForEither lines batch) (sym c_is)
      (either mark (middle_whole (bytes_on_disk lines) rest end 1 c end_is moved_mark (omega arith))
      (omega (arith, ap length c_is, torn.no_longer, short, file_length)))

  pub opened_at_rest : Holds c end (43 ∷ []) → has_newline tail ≡ false → IsAtRest c (end + length bytes) (lines ++ batch)
  opened_at_rest holds last =
      let c_is : c ≡ bytes_on_disk (lines ++ batch) ++ 45 ∷ tail = written_is (bytes_on_disk lines) (45 ∷ (bytes ++ tail)) end 1 c end_is moved_mark (43 ∷ []) refl holds ∙ both_is in
      at_rest_from (lines ++ batch) tail c (end + length bytes) c_is
      (omega (arith, both_length, file_length, length-append bytes tail)) (whole-append lines batch whole also) last
      (omega (arith, torn.no_longer, short, file_length))

-- no newline, then none further on
pub newline_after : (n : ℕ) (bytes : List ℕ) → has_newline bytes ≡ false → has_newline (drop n bytes) ≡ false
newline_after zero bytes none = none
newline_after (suc n) [] none = refl
newline_after (suc n) (b ∷ bytes) none = newline_after n bytes (or_parts (b == 10) (has_newline bytes) none).1

module _ (file : List ℕ) (end : ℕ) (lines : List (List ℕ)) (r : FileLinesEndAt file end lines) where
  pub journal_length : length file ≡ end + length (drop end file)
  journal_length = omega (arith, ap length r.split, length-append (bytes_on_disk lines) (drop end file), r.end_is)

  pub journal_lines : lines_in file ≡ lines
  journal_lines = ap lines_in r.split ∙ lines_on_disk lines (drop end file) r.whole r.shut

  pub journal_stands : end < most_file_bytes → StandsFor lines file
  journal_stands room =
      subst (StandsFor lines) (sym r.split) (stands_on_disk lines (drop end file) r.whole r.shut (omega (arith, r.end_is))
      (omega (arith, ap length r.split, r.short)))

  after_mark_is : drop 1 (drop end file) ≡ drop (end + 1) file
  after_mark_is = drop-drop 1 end file

  module _ (last : has_newline (drop (end + 1) file) ≡ false) where
    -- the mark is there
    pub closed_at_rest : drop end file ≡ 45 ∷ drop (end + 1) file → IsAtRest file end lines
    closed_at_rest minus =
        at_rest_from lines (drop (end + 1) file) file end (r.split ∙ ap (λ (l : List ℕ). bytes_on_disk lines ++ l) minus) r.end_is r.whole last r.short

    module _ (room : end < most_file_bytes) (c : List ℕ) (torn : Torn end 1 file c) where
      moved_end : Torn end 1 (bytes_on_disk lines ++ drop end file) c
      moved_end = subst (λ (f : List ℕ). Torn end 1 f c) r.split torn

      -- while the mark is written
      pub closed_torn : StandsFor lines c
      closed_torn =
          let mark = middle (bytes_on_disk lines) (drop end file) end 1 c r.end_is moved_end in
          let is : c ≡ bytes_on_disk lines ++ (mark ++ drop (end + 1) file) = torn_is (bytes_on_disk lines) (drop end file) end 1 c r.end_is moved_end ∙ ap (λ (l : List ℕ). bytes_on_disk lines ++ (mark ++ l)) after_mark_is in
          subst (StandsFor lines) (sym is)
          (stands_on_disk lines (mark ++ drop (end + 1) file) r.whole (shut_short mark (drop (end + 1) file)
          (middle_short (bytes_on_disk lines) (drop end file) end 1 c r.end_is moved_end) last) (omega (arith, r.end_is))
          (omega (arith, ap length is, torn.no_longer, r.short)))

      pub closed_is : Holds c end (45 ∷ []) → IsAtRest c end lines
      closed_is holds =
          let is : c ≡ bytes_on_disk lines ++ 45 ∷ drop (end + 1) file = written_is (bytes_on_disk lines) (drop end file) end 1 c r.end_is moved_end (45 ∷ []) refl holds ∙ ap (λ (l : List ℕ). bytes_on_disk lines ++ 45 ∷ l) after_mark_is in
          at_rest_from lines (drop (end + 1) file) c end is r.end_is r.whole last (omega (arith, torn.no_longer, r.short))

  -- a newline comes after the end's first byte, which is then no mark
  module _ (within : end < length file) (some : has_newline (drop (end + 1) file) ≡ true) where
    abbrev first : ℕ
    first = slice_index file end

    end_split : drop end file ≡ first ∷ drop (end + 1) file
    end_split = drop_more file end 0 within

    no_mark : (first == 43) ≡ false
    no_mark = elim r.shut [
      | inl other ↦ ap (λ (l : List ℕ). slice_index l 0 == 43) (sym end_split) ∙ other
      | inr none ↦ absurd (both_ways (has_newline (drop (end + 1) file)) (or_parts (first == 10) (has_newline (drop (end + 1) file))
          (ap has_newline (sym end_split) ∙ none)).1 some)
    ]

    blank_front : file ≡ (bytes_on_disk lines ++ first ∷ []) ++ drop (end + 1) file
    blank_front = r.split ∙ ap (λ (l : List ℕ). bytes_on_disk lines ++ l) end_split
        ∙ sym (append_assoc (bytes_on_disk lines) (first ∷ []) (drop (end + 1) file))

    blank_length : end + 1 ≡ length (bytes_on_disk lines ++ first ∷ [])
    blank_length = omega (arith, length-append (bytes_on_disk lines) (first ∷ []), r.end_is)

    blank_take : take (end + 1) file ≡ bytes_on_disk lines ++ first ∷ []
    blank_take = ap (take (end + 1)) blank_front ∙ take_at (bytes_on_disk lines ++ first ∷ []) (drop (end + 1) file) (end + 1) (sym blank_length)

    module _ (n : ℕ) (n_is : end + 1 + n ≡ length file) (c : List ℕ) (torn : Torn (end + 1) n file c) where
      moved_blank : Torn (end + 1) n ((bytes_on_disk lines ++ first ∷ []) ++ drop (end + 1) file) c
      moved_blank = subst (λ (f : List ℕ). Torn (end + 1) n f c) blank_front torn

      -- while the bytes after that byte are blanked
      pub blank_torn : StandsFor lines c
      blank_torn =
          let front = bytes_on_disk lines ++ first ∷ [] in
          let tail = drop (end + 1) file in
          let rest = middle front tail (end + 1) n c blank_length moved_blank ++ drop n tail in
          let is : c ≡ bytes_on_disk lines ++ first ∷ rest = torn_is front tail (end + 1) n c blank_length moved_blank
          ∙ append_assoc (bytes_on_disk lines) (first ∷ []) rest in
          subst (StandsFor lines) (sym is)
          (stands_on_disk lines (first ∷ rest) r.whole (inl no_mark) (omega (arith, r.end_is, r.short))
          (omega (arith, ap length is, torn.no_longer, r.short)))

      pub blank_seen : (blanks : List ℕ) → n ≡ length blanks → Holds c (end + 1) blanks → c ≡ take (end + 1) file ++ blanks
      blank_seen blanks long holds =
          let tail = drop (end + 1) file in
          let front = bytes_on_disk lines ++ first ∷ [] in
          written_is front tail (end + 1) n c blank_length moved_blank blanks long holds
          ∙ ap (λ (l : List ℕ). front ++ (blanks ++ l)) (drop_all n tail (omega (arith, length-drop (end + 1) file)))
          ∙ ap (λ (l : List ℕ). front ++ l) (append-nil blanks) ∙ ap (λ (l : List ℕ). l ++ blanks) (sym blank_take)

    module _ (blanks : List ℕ) where
      blank_split : take (end + 1) file ++ blanks ≡ bytes_on_disk lines ++ first ∷ blanks
      blank_split = ap (λ (l : List ℕ). l ++ blanks) blank_take ∙ append_assoc (bytes_on_disk lines) (first ∷ []) blanks

      blank_end : drop end (take (end + 1) file ++ blanks) ≡ first ∷ blanks
      blank_end = ap (drop end) blank_split ∙ drop_at (bytes_on_disk lines) (first ∷ blanks) end (sym r.end_is)

      pub blank_rest : drop end (take (end + 1) file ++ blanks) ≡ take 1 (drop end file) ++ blanks
      blank_rest = blank_end ∙ ap (λ (l : List ℕ). take 1 l ++ blanks) (sym end_split)

      pub blank_journal : end + 1 + length blanks ≡ length file → FileLinesEndAt (take (end + 1) file ++ blanks) end lines
      blank_journal long = record {
        split = blank_split ∙ ap (λ (l : List ℕ). bytes_on_disk lines ++ l) (sym blank_end);
        end_is = r.end_is;
        whole = r.whole;
        shut = subst IsShut (sym blank_end) (inl no_mark);
        short = omega (arith, ap length blank_split, length-append (bytes_on_disk lines) (first ∷ blanks), r.end_is, r.short);
      }

pub newline_within : (n : ℕ) (bytes : List ℕ) → has_newline (drop n bytes) ≡ true → n < length bytes
newline_within n bytes some = elim (cases_lt n (length bytes)) [
  | inl within ↦ within
  | inr past ↦ absurd (both_ways (has_newline (drop n bytes)) (ap has_newline (drop_all n bytes past)) some)
]

pub no_newline_in : (n byte : ℕ) → (byte == 10) ≡ false → has_newline (replicate n byte) ≡ false
no_newline_in zero byte other = refl
no_newline_in (suc n) byte other = or_from (byte == 10) (has_newline (replicate n byte)) other (no_newline_in n byte other)

pub minus_first : (bytes : List ℕ) → (slice_index bytes 0 == 45) ≡ true → bytes ≡ 45 ∷ drop 1 bytes
minus_first [] minus = absurd (both_ways (0 == 45) refl minus)
minus_first (byte ∷ bytes) minus = ap (λ (b : ℕ). b ∷ bytes) (eqb-true byte 45 minus)

-- of the bytes from the end of the lines on, those after the first
pub after_end : (file rest : List ℕ) (end : ℕ) → drop end file ≡ rest → drop (end + 1) file ≡ drop 1 rest
after_end file rest end same = sym (drop-drop 1 end file) ∙ ap (drop 1) same

-- the bytes from a place on, where blanks were put
pub blanks_are : (bytes new : List ℕ) (at : ℕ) → at ≤ length bytes → new ≡ take at bytes ++ replicate (length bytes - at) 32
    → take (length new - at) (drop at new) ≡ replicate (length bytes - at) 32
blanks_are bytes new at low is = take_rest new at ∙ ap (drop at) is
    ∙ drop_at (take at bytes) (replicate (length bytes - at) 32) at (length-take-le at bytes low)

-- a first line and whole marked lines, as they were read
pub journal_from : (bytes : List ℕ) (end : ℕ) (lines : List (List ℕ)) → bytes ≡ head_line ++ drop (length head_line) bytes
    → length bytes ≤ most_file_bytes → EndsAt (drop (length head_line) bytes) end lines → FileLinesEndAt bytes (length head_line + end) lines
journal_from bytes end lines head short ends =
    let rest : drop (length head_line + end) bytes ≡ drop end (drop (length head_line) bytes) = sym (drop-drop end (length head_line) bytes) in
    record {
      split = head ∙ ap (λ (l : List ℕ). head_line ++ l) (ends.split ∙ ap (λ (l : List ℕ). marked lines ++ l) (sym rest));
      end_is = omega (arith, ends.end_is);
      whole = ends.whole;
      shut = subst IsShut (sym rest) ends.shut;
      short = short;
    }

-- no room for one more byte
pub no_room : (bytes : List ℕ) (end : ℕ) (lines : List (List ℕ)) → FileLinesEndAt bytes end lines → most_file_bytes ≤ end → stands_for bytes ≡ None
no_room bytes end lines r full =
    ap stands_for r.split ∙ stands_after_head (marked lines ++ drop end bytes) (omega (arith, ap length r.split, r.short))
    ∙ ap with_room (lines_then_shut lines (drop end bytes) r.whole r.shut)
    ∙ cond-false (nat_lt (length (bytes_on_disk lines)) most_file_bytes) (Some lines) None (le-ltb (length (bytes_on_disk lines)) most_file_bytes
    (omega (arith, r.end_is)))

pub after_mark : (batch : List (List ℕ)) → (length batch == 0) ≡ false → marked batch ++ 45 ∷ [] ≡ 43 ∷ drop 1 (marked batch ++ 45 ∷ [])
after_mark [] some = absurd (both_ways true some refl)
after_mark (line ∷ batch) some = refl

pub after_mark_some : (batch : List (List ℕ)) → (length batch == 0) ≡ false → 0 < length (drop 1 (marked batch ++ 45 ∷ []))
after_mark_some [] some = absurd (both_ways true some refl)
after_mark_some (line ∷ batch) some = omega (arith, length-append (line ++ 10 ∷ marked batch) (45 ∷ []))

pub rest_from : (file : List ℕ) (end : ℕ) → IsFileAtRest file end → IsAtRest file end (lines_in file)
rest_from file end closed = record { split = closed.split; end_is = closed.end_is; whole = whole_lines (drop (length head_line) file); last = closed.last; short = closed.short }

pub closed_from : (file : List ℕ) (end : ℕ) (lines : List (List ℕ)) → IsAtRest file end lines → IsFileAtRest file end
closed_from file end lines rest =
    let same : lines ≡ lines_in file = sym (rest_lines file end lines rest) in
    record {
      split = rest.split ∙ ap (λ (ls : List (List ℕ)). bytes_on_disk ls ++ 45 ∷ drop (end + 1) file) same;
      end_is = rest.end_is ∙ ap (λ (ls : List (List ℕ)). length (bytes_on_disk ls)) same;
      last = rest.last;
      short = rest.short;
    }

-- lines for which a file has no room with the mark after them
pub no_room_after : (file : List ℕ) (end : ℕ) → IsFileAtRest file end → (batch : List (List ℕ))
    → most_file_bytes ≤ end + length (drop 1 (marked batch ++ 45 ∷ [])) → most_file_bytes ≤ length (bytes_on_disk (lines_in file ++ batch))
no_room_after file end closed batch full =
    let lines = lines_in file in
    let all : length (bytes_on_disk (lines ++ batch)) ≡ length (bytes_on_disk lines) + length (marked batch) =
    omega (
      arith,
      ap length (sym (append-nil (bytes_on_disk (lines ++ batch))) ∙ on_disk-append lines batch []
          ∙ ap (λ (l : List ℕ). bytes_on_disk lines ++ l) (append-nil (marked batch))),
      length-append (bytes_on_disk lines) (marked batch),
    ) in
    omega (arith, all, closed.end_is, length-drop 1 (marked batch ++ 45 ∷ []), length-append (marked batch) (45 ∷ []))

pub journal_of : (file : List ℕ) (end : ℕ) → IsEndedAt file end → FileLinesEndAt file end (lines_in file)
journal_of file end ended = record {
  split = ended.split;
  end_is = ended.end_is;
  whole = whole_lines (drop (length head_line) file);
  shut = shut_from (drop end file) ended.shut;
  short = ended.short;
}
  where
    shut_from : (bytes : List ℕ) → is_shut bytes ≡ true → IsShut bytes
    shut_from bytes shut = elim (or_cases (not (slice_index bytes 0 == 43)) (not (has_newline bytes)) shut) [
      | inl other ↦ inl (not-true (slice_index bytes 0 == 43) other)
      | inr none ↦ inr (not-true (has_newline bytes) none)
    ]

pub ended_of : (file : List ℕ) (end : ℕ) → FileLinesEndAt file end (lines_in file) → end < most_file_bytes → IsEndedAt file end
ended_of file end journal room = record {
  split = journal.split;
  end_is = journal.end_is;
  shut = elim journal.shut [
    | inl other ↦ or_left _ _ (ap not other)
    | inr none ↦ or_right _ _ (ap not none)
  ];
  short = journal.short;
  room = room;
}

-- blanks in place of the bytes after the first
pub blanks_last : (rest new : List ℕ) → has_newline (drop 1 rest) ≡ true → new ≡ take 1 rest ++ replicate (length rest - 1) 32
    → has_newline (drop 1 new) ≡ false
blanks_last rest new some is =
    let past : 1 < length rest = newline_within 1 rest some in
    ap (λ (l : List ℕ). has_newline (drop 1 l)) is
    ∙ ap has_newline (drop_at (take 1 rest) (replicate (length rest - 1) 32) 1 (length-take-le 1 rest (omega arith)))
    ∙ no_newline_in (length rest - 1) 32 refl

-- blanks are written over the bytes after the first of those from the end of the lines on, among which a newline is
module _ (file rest : List ℕ) (end : ℕ) (ended : IsEndedAt file end) (same : drop end file ≡ rest) (some : has_newline (drop 1 rest) ≡ true) where
  abbrev blanks : List ℕ
  blanks = replicate (length rest - 1) 32

  lined : FileLinesEndAt file end (lines_in file)
  lined = journal_of file end ended

  newline : has_newline (drop (end + 1) file) ≡ true
  newline = ap has_newline (after_end file rest end same) ∙ some

  past_one : 1 < length rest
  past_one = newline_within 1 rest some

  length_is : length file ≡ end + length rest
  length_is = omega (arith, journal_length file end (lines_in file) lined, ap length same)

  has_end : end < length file
  has_end = omega (arith, length_is, past_one)

  blanks_long : end + 1 + length blanks ≡ length file
  blanks_long = omega (arith, length-replicate {A = ℕ} (length rest - 1) 32, length_is, past_one)

  module _ (slice : List ℕ) (slice_is : slice ≡ blanks) (c : List ℕ) (torn : Torn (end + 1) (length slice) file c) where
    slice_long : end + 1 + length slice ≡ length file
    slice_long = omega (arith, ap length slice_is, blanks_long)

    pub blanked_torn : StandsFor (lines_in file) c
    blanked_torn = blank_torn file end (lines_in file) lined has_end newline (length slice) slice_long c torn

    module _ (holds : Holds c (end + 1) slice) where
      blanked_is : c ≡ take (end + 1) file ++ blanks
      blanked_is = blank_seen file end (lines_in file) lined has_end newline (length slice) slice_long c torn slice refl holds
          ∙ ap (λ (l : List ℕ). take (end + 1) file ++ l) slice_is

      blanked_journal : FileLinesEndAt c end (lines_in file)
      blanked_journal = subst (λ (l : List ℕ). FileLinesEndAt l end (lines_in file))
          (sym blanked_is) (blank_journal file end (lines_in file) lined has_end newline blanks blanks_long)

      pub blanked_lines : lines_in c ≡ lines_in file
      blanked_lines = journal_lines c end (lines_in file) blanked_journal

      pub blanked_ended : IsEndedAt c end
      blanked_ended = ended_of c end (subst (FileLinesEndAt c end) (sym blanked_lines) blanked_journal) ended.room

      pub blanked_rest : drop end c ≡ take 1 rest ++ blanks
      blanked_rest = ap (drop end) blanked_is ∙ blank_rest file end (lines_in file) lined has_end newline blanks
          ∙ ap (λ (l : List ℕ). take 1 l ++ blanks) same
