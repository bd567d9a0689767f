-- A text has one first fault: a record has one fault at most, and of two faulty records only the first has a journal before it.
use Rattle.std.proofs.Common.{◌≡◌, ℕ, zero, suc, ◌+◌, ◌<◌, ◌≤◌, ◌⊎◌, inl, inr, List, [], ◌∷◌, ◌++◌, length, Some, None, refl, sym, ap, ap₂}
use Rattle.std.proofs.Common.{subst, ◌∙◌, arith}
use Rattle.std.proofs.Math.Nat.{lt_of_not-le}
use Rattle.std.proofs.lemmas.List.{length-append}
use Rattle.dam_results.specs.Limits.{most_bytes}
use Rattle.dam_results.specs.declared.journal_reading.JournalFault.{JournalFault}
use Rattle.dam_results.specs.declared.journal_reading.JournalFault.TheVariants.{TooLong, NotAscii, TooManyRecords, NotDay, FieldCount, BadField}
use Rattle.dam_results.specs.declared.journal_reading.JournalFault.TheVariants.{Memory}
use Rattle.dam_results.specs.Records.{Fields, records_of}
use Rattle.dam_results.specs.Rules.{FieldRule, IsLeastBroken, rules_of}
use Rattle.dam_results.specs.Journal.{first_non_ascii}
use Rattle.dam_results.specs.Faults.{IsRecordFault, HasFault, IsFaultOfRecords, IsJournalFault}
use Rattle.dam_results.proofs.JournalsHaveNoFault.{HasFault-none}

-- one field is the least that breaks its rule
least_broken-one : (rules : List FieldRule) (fields : Fields) (m n : ℕ) → IsLeastBroken rules fields m → IsLeastBroken rules fields n
    → m ≡ n
least_broken-one [] fields m n h k = absurd h
least_broken-one (rule ∷ rules) [] m n h k = absurd h
least_broken-one (rule ∷ rules) (field ∷ fields) zero n h k = absurd h
least_broken-one (rule ∷ rules) (field ∷ fields) (suc zero) zero h k = absurd k
least_broken-one (rule ∷ rules) (field ∷ fields) (suc zero) (suc zero) h k = refl
least_broken-one (rule ∷ rules) (field ∷ fields) (suc zero) (suc (suc n)) h k = absurd (h k.0)
least_broken-one (rule ∷ rules) (field ∷ fields) (suc (suc m)) zero h k = absurd k
least_broken-one (rule ∷ rules) (field ∷ fields) (suc (suc m)) (suc zero) h k = absurd (k h.0)
least_broken-one (rule ∷ rules) (field ∷ fields) (suc (suc m)) (suc (suc n)) h k = ap suc
    (least_broken-one rules fields (suc m) (suc n) h.1 k.1)

-- a record has one fault at most
record_fault-one : (number : ℕ) (row : Fields) (f g : JournalFault) → IsRecordFault number row f → IsRecordFault number row g → f ≡ g
record_fault-one number row TooLong g h k = absurd h
record_fault-one number row (NotAscii offset) g h k = absurd h
record_fault-one number row Memory g h k = absurd h
record_fault-one number row TooManyRecords TooLong h k = absurd k
record_fault-one number row TooManyRecords (NotAscii offset) h k = absurd k
record_fault-one number row TooManyRecords TooManyRecords h k = refl
record_fault-one number row TooManyRecords NotDay h k = let first = k.0 in absurd (omega (arith, h, first))
record_fault-one number row TooManyRecords (FieldCount at) h k = let few = k.0.0 in absurd (omega (arith, h, few))
record_fault-one number row TooManyRecords (BadField at field) h k = let few = k.0.0 in absurd (omega (arith, h, few))
record_fault-one number row TooManyRecords Memory h k = absurd k
record_fault-one number row NotDay TooLong h k = absurd k
record_fault-one number row NotDay (NotAscii offset) h k = absurd k
record_fault-one number row NotDay TooManyRecords h k = let first = h.0 in absurd (omega (arith, k, first))
record_fault-one number row NotDay NotDay h k = refl
record_fault-one number row NotDay (FieldCount at) h k = absurd (h.1 (k.0.1 h.0))
record_fault-one number row NotDay (BadField at field) h k = absurd (h.1 (k.0.1 h.0))
record_fault-one number row NotDay Memory h k = absurd k
record_fault-one number row (FieldCount at) TooLong h k = absurd k
record_fault-one number row (FieldCount at) (NotAscii offset) h k = absurd k
record_fault-one number row (FieldCount at) TooManyRecords h k = let few = h.0.0 in absurd (omega (arith, k, few))
record_fault-one number row (FieldCount at) NotDay h k = absurd (k.1 (h.0.1 k.0))
record_fault-one number row (FieldCount at) (FieldCount other) h k = ap FieldCount (h.1 ∙ sym k.1)
record_fault-one number row (FieldCount at) (BadField other field) h k = absurd (h.2 k.2)
record_fault-one number row (FieldCount at) Memory h k = absurd k
record_fault-one number row (BadField at field) TooLong h k = absurd k
record_fault-one number row (BadField at field) (NotAscii offset) h k = absurd k
record_fault-one number row (BadField at field) TooManyRecords h k = let few = h.0.0 in absurd (omega (arith, k, few))
record_fault-one number row (BadField at field) NotDay h k = absurd (k.1 (h.0.1 k.0))
record_fault-one number row (BadField at field) (FieldCount other) h k = absurd (k.2 h.2)
record_fault-one number row (BadField at field) (BadField other second) h k =
    ap₂ BadField (h.1 ∙ sym k.1) (least_broken-one (rules_of number row) row field second h.3 k.3)
record_fault-one number row (BadField at field) Memory h k = absurd k

-- of two records of a list, one comes before the other
front_splits : (xs ys tail rest : List Fields) (x y : Fields) → xs ++ x ∷ tail ≡ ys ++ y ∷ rest → length xs < length ys →
    (mid : List Fields) × (ys ≡ xs ++ x ∷ mid)
front_splits xs [] tail rest x y e less = absurd (omega (arith, less))
front_splits [] (z ∷ ys) tail rest x y e less = (ys, let first : z ≡ x = cc in cc)
front_splits (w ∷ xs) (z ∷ ys) tail rest x y e less =
    let more = front_splits xs ys tail rest x y (cc) (omega (arith, less)) in
    let first : z ≡ w = cc in
    let others = more.1 in
    (more.0, cc)

-- a list has one record at a place
record_at-one : (xs ys tail rest : List Fields) (x y : Fields) → xs ++ x ∷ tail ≡ ys ++ y ∷ rest → length xs ≡ length ys → x ≡ y
record_at-one [] [] tail rest x y e same = cc
record_at-one [] (z ∷ ys) tail rest x y e same = absurd (omega (arith, same))
record_at-one (w ∷ xs) [] tail rest x y e same = absurd (omega (arith, same))
record_at-one (w ∷ xs) (z ∷ ys) tail rest x y e same = record_at-one xs ys tail rest x y (cc) (omega (arith, same))

-- no faulty record comes before the first one
not_earlier : (rows : List Fields) (f g : JournalFault) (h : HasFault rows f) (k : HasFault rows g) → length h.front < length k.front → ⊥
not_earlier rows f g h k less =
    let split = front_splits h.front k.front h.rest k.rest h.fields k.fields (sym h.parts ∙ k.parts) less in
    elim k.fine [
      | inl none ↦ let empty : length k.front ≡ 0 = ap length none in omega (arith, less, empty)
      | inr fine ↦ HasFault-none k.front f fine.0 fine.1 fine.2
          (record { front = h.front; fields = h.fields; rest = split.0; parts = split.1; fine = h.fine; faulty = h.faulty })
    ]

HasFault-one : (rows : List Fields) (f g : JournalFault) → HasFault rows f → HasFault rows g → f ≡ g
HasFault-one rows f g h k =
    let at_most : length k.front < suc (length h.front) = lt_of_not-le (not_earlier rows f g h k) in
    let at_least : length h.front < suc (length k.front) = lt_of_not-le (not_earlier rows g f k h) in
    let same : length h.front ≡ length k.front = omega (arith, at_most, at_least) in
    let row : h.fields ≡ k.fields = record_at-one h.front k.front h.rest k.rest h.fields k.fields (sym h.parts ∙ k.parts) same in
    let moved : IsRecordFault (length k.front + 1) k.fields f = subst (λ (r : Fields). IsRecordFault (length k.front + 1) r f) row
    (subst (λ (n : ℕ). IsRecordFault (n + 1) h.fields f) same h.faulty) in
    record_fault-one (length k.front + 1) k.fields f g moved k.faulty

HasFault-some : (rows : List Fields) (f : JournalFault) → HasFault rows f → rows ≡ [] → ⊥
HasFault-some rows f h none =
    let parts : length rows ≡ length h.front + length (h.fields ∷ h.rest) = ap length h.parts ∙ length-append h.front (h.fields ∷ h.rest) in
    let empty : length rows ≡ 0 = ap length none in
    omega (arith, parts, empty)

-- the two are the same, or one of them says that memory ran out
abbrev pub AreAlike : JournalFault → JournalFault → Type 0
AreAlike f g = (f ≡ g) ⊎ ((f ≡ Memory) ⊎ (g ≡ Memory))

-- a fault of records: there are none, one of them has it, or memory ran out
data Cause (rows : List Fields) (f : JournalFault) : Type 0 where
  NoRecord : rows ≡ [] → f ≡ NotDay → Cause rows f
  OfRecord : HasFault rows f → Cause rows f
  OfMemory : f ≡ Memory → Cause rows f

cause_of : (rows : List Fields) (f : JournalFault) → IsFaultOfRecords rows f → Cause rows f
cause_of rows TooLong h = OfRecord h
cause_of rows (NotAscii offset) h = OfRecord h
cause_of rows TooManyRecords h = OfRecord h
cause_of rows NotDay (inl none) = NoRecord none refl
cause_of rows NotDay (inr h) = OfRecord h
cause_of rows (FieldCount at) h = OfRecord h
cause_of rows (BadField at field) h = OfRecord h
cause_of rows Memory h = OfMemory refl

causes-alike : (rows : List Fields) (f g : JournalFault) → Cause rows f → Cause rows g → AreAlike f g
causes-alike rows f g (OfMemory memory) k = inr (inl memory)
causes-alike rows f g h (OfMemory memory) = inr (inr memory)
causes-alike rows f g (NoRecord none is) (NoRecord empty too) = inl (is ∙ sym too)
causes-alike rows f g (NoRecord none is) (OfRecord k) = absurd (HasFault-some rows g k none)
causes-alike rows f g (OfRecord h) (NoRecord none is) = absurd (HasFault-some rows f h none)
causes-alike rows f g (OfRecord h) (OfRecord k) = inl (HasFault-one rows f g h k)

-- a fault of a text: it is too long, a byte of it isn't ASCII, or its records have the fault
data Source (text : List ℕ) (f : JournalFault) : Type 0 where
  OfLength : most_bytes < length text → f ≡ TooLong → Source text f
  OfByte : (offset : ℕ) → length text ≤ most_bytes → first_non_ascii text ≡ Some offset → f ≡ NotAscii offset → Source text f
  OfRecords : length text ≤ most_bytes → first_non_ascii text ≡ None → Cause (records_of text) f → Source text f

source_of : (text : List ℕ) (f : JournalFault) → IsJournalFault text f → Source text f
source_of text TooLong h = OfLength h refl
source_of text (NotAscii offset) h = OfByte offset h.0 h.1 refl
source_of text TooManyRecords h = OfRecords h.0 h.1 (cause_of (records_of text) TooManyRecords h.2)
source_of text NotDay h = OfRecords h.0 h.1 (cause_of (records_of text) NotDay h.2)
source_of text (FieldCount at) h = OfRecords h.0 h.1 (cause_of (records_of text) (FieldCount at) h.2)
source_of text (BadField at field) h = OfRecords h.0 h.1 (cause_of (records_of text) (BadField at field) h.2)
source_of text Memory h = OfRecords h.0 h.1 (OfMemory refl)

sources-alike : (text : List ℕ) (f g : JournalFault) → Source text f → Source text g → AreAlike f g
sources-alike text f g (OfLength long is) (OfLength too same) = inl (is ∙ sym same)
sources-alike text f g (OfLength long is) (OfByte offset short high same) = absurd (omega (arith, long, short))
sources-alike text f g (OfLength long is) (OfRecords short low cause) = absurd (omega (arith, long, short))
sources-alike text f g (OfByte offset short high is) (OfLength long same) = absurd (omega (arith, long, short))
sources-alike text f g (OfByte offset short high is) (OfByte other less found same) = let one : offset ≡ other = cc in inl
    (is ∙ ap NotAscii one ∙ sym same)
sources-alike text f g (OfByte offset short high is) (OfRecords less low cause) = absurd (cc)
sources-alike text f g (OfRecords short low cause) (OfLength long same) = absurd (omega (arith, long, short))
sources-alike text f g (OfRecords short low cause) (OfByte offset less high same) = absurd (cc)
sources-alike text f g (OfRecords short low cause) (OfRecords less none other) = causes-alike (records_of text) f g cause other

pub faults-alike : (text : List ℕ) (f g : JournalFault) → IsJournalFault text f → IsJournalFault text g → AreAlike f g
faults-alike text f g h k = sources-alike text f g (source_of text f h) (source_of text g k)
