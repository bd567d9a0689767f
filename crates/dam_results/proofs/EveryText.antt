-- Each text is a journal or has a fault.
use Rattle.std.proofs.Common.{◌≡◌, ◌≢◌, ◌⊎◌, inl, inr, ℕ, suc, ◌+◌, ◌<◌, ◌≤◌, ◌==◌, ◌||◌, Bool, true, false, if◌then◌else◌, List, [], ◌∷◌}
use Rattle.std.proofs.Common.{◌++◌, length, codes, decimal, Option, None, Some, IfSome, refl, sym, subst, ◌∙◌, arith}
use Rattle.std.specs.List.{list_any}
use Rattle.std.specs.Str.{bytes_eq}
use Rattle.std.proofs.lemmas.Bool.{cases_lt, cases_eq, or_from}
use Rattle.std.proofs.lemmas.Bool.Decides.{nat_tests}
use Rattle.std.proofs.lemmas.Slice.Eq.{bytes_eq-Decides}
use Rattle.dam_book.specs.Name.{IsName}
use Rattle.dam_book.specs.Book.{is_day}
use Rattle.dam_book.specs.Fields.{price_text, volumes_text}
use Rattle.dam_book.specs.declared.order.Side.{Side}
use Rattle.dam_book.specs.declared.order.Side.TheVariants.{Buy, Sell}
use Rattle.dam_book.specs.declared.order.Order.TheVariants.{Hour, Block}
use Rattle.dam_book.specs.declared.command.Command.{Command}
use Rattle.dam_book.specs.declared.command.Command.TheVariants.{Submit, Amend, Cancel, Close}
use Rattle.dam_results.specs.Limits.{most_bytes, most_records}
use Rattle.dam_results.specs.declared.journal_reading.JournalFault.{JournalFault}
use Rattle.dam_results.specs.declared.journal_reading.JournalFault.TheVariants.{TooLong, NotAscii, TooManyRecords, NotDay, FieldCount, BadField}
use Rattle.dam_results.specs.declared.journal_reading.JournalFault.TheVariants.{Memory}
use Rattle.dam_results.specs.Records.{Fields, record_of_day, record_of_command, records_of, kind_field, optional_text, side_word}
use Rattle.dam_results.specs.Rules.{FieldRule, OneOf, NameOrEmpty, Obeys, IsLeastBroken, word, day_rules, hour_rules, block_rules}
use Rattle.dam_results.specs.Rules.{amend_rules, cancel_rules, close_rules, command_rules, submit_of, submit_rules}
use Rattle.dam_results.specs.Journal.{AreRecords, IsCommand, ReadsAs, first_non_ascii}
use Rattle.dam_results.specs.Faults.{IsRecordFault, IsFaultOfRecords, IsJournalFault}
use Rattle.dam_results.specs.inside.NineFields.{field_or_empty}
use Rattle.dam_results.proofs.FieldByField.{nine}
use Rattle.dam_results.proofs.Rules.{nine_alike}
use Rattle.dam_results.proofs.FaultFound.{in_first, in_later, Reads, Reads-more, AreRecords-all}
use Rattle.dam_results.proofs.JournalsHaveNoFault.{ObeyAll}
use Rattle.dam_results.proofs.Deciding.{IsDecided, decided_same}
use Rattle.dam_results.proofs.EveryField.{decided_rule}

-- ---- a record that keeps all its rules says something

or_false : (b : Bool) → (b || false) ≡ true → b ≡ true
or_false true is = refl
or_false false is = is

from_word : (text field : List ℕ) → Obeys (word text) field → field ≡ text
from_word text field is = (bytes_eq-Decides field text).0 (or_false (bytes_eq field text) is)

side-of : (field : List ℕ) (b s : Bool) → bytes_eq field (codes "buy") ≡ b → bytes_eq field (codes "sell") ≡ s → (b || (s || false)) ≡ true
    → (side : Side) × (field ≡ side_word side)
side-of field true s buy sell is = (Buy, (bytes_eq-Decides field (codes "buy")).0 buy)
side-of field false true buy sell is = (Sell, (bytes_eq-Decides field (codes "sell")).0 sell)
side-of field false false buy sell is = absurd (cc)

from_side : (field : List ℕ) → Obeys (OneOf (codes "buy" ∷ codes "sell" ∷ [])) field → (side : Side) × (field ≡ side_word side)
from_side field is = side-of field (bytes_eq field (codes "buy")) (bytes_eq field (codes "sell")) refl refl is

from_optional : (field : List ℕ) → Obeys NameOrEmpty field → (name : Option (List ℕ)) × IfSome name IsName × (field ≡ optional_text name)
from_optional field (inl is) = (None, tt, is)
from_optional field (inr is) = (Some field, is, refl)

abbrev SaysDay : Fields → Type 0
SaysDay row = (periods : ℕ) × (is_day periods ≡ true) × (row ≡ record_of_day periods)

abbrev Says : Fields → Type 0
Says row = (command : Command) × IsCommand command × (row ≡ record_of_command command)

module _ (a b c d e f g h i : List ℕ) where
  abbrev given : Fields
  given = a ∷ b ∷ c ∷ d ∷ e ∷ f ∷ g ∷ h ∷ i ∷ []

  says_day : ObeyAll day_rules given → SaysDay given
  says_day k =
      let periods = k.1.0 in (
        periods.0,
        periods.1,
        nine_alike a b c d e f g h i (codes "day") (decimal periods.0) [] [] [] [] [] [] []
            (from_word (codes "day") a k.0) periods.2 k.1.1.0 k.1.1.1.0 k.1.1.1.1.0 k.1.1.1.1.1.0 k.1.1.1.1.1.1.0 k.1.1.1.1.1.1.1.0
            k.1.1.1.1.1.1.1.1.0,
      )

  says_hour : ObeyAll (submit_of hour_rules) given → Says given
  says_hour k =
      let side = from_side e k.1.1.1.1.0 in
      let price = k.1.1.1.1.1.0 in
      let volume = k.1.1.1.1.1.1.0 in
      let command : Command = Submit b c (Hour (record { side = side.0; price = price.0; period = volume.0; qty = volume.1 })) in (
        command,
        (k.1.0, k.1.1.0, record { price = price.1; period = volume.2; qty = volume.3 }),
        nine_alike a b c d e f g h i (codes "submit") b c (codes "hour") (side_word side.0) (price_text price.0)
            (volumes_text ((volume.0, volume.1) ∷ [])) [] []
            (from_word (codes "submit") a k.0) refl refl
            (from_word (codes "hour") d k.1.1.1.0) side.1 price.2 volume.4 k.1.1.1.1.1.1.1.0 k.1.1.1.1.1.1.1.1.0,
      )

  says_block : ObeyAll (submit_of block_rules) given → Says given
  says_block k =
      let side = from_side e k.1.1.1.1.0 in
      let price = k.1.1.1.1.1.0 in
      let volumes = k.1.1.1.1.1.1.0 in
      let parent = from_optional h k.1.1.1.1.1.1.1.0 in
      let group = from_optional i k.1.1.1.1.1.1.1.1.0 in
      let command : Command = Submit b c
      (Block (record { side = side.0; price = price.0; volumes = volumes.0; parent = parent.0; group = group.0 })) in (
        command,
        (k.1.0, k.1.1.0, record { price = price.1; volumes = volumes.1; parent = parent.1; group = group.1 }),
        nine_alike a b c d e f g h i (codes "submit") b c (codes "block") (side_word side.0) (price_text price.0) (volumes_text volumes.0)
            (optional_text parent.0) (optional_text group.0)
            (from_word (codes "submit") a k.0) refl refl (from_word (codes "block") d k.1.1.1.0) side.1 price.2 volumes.2 parent.2 group.2,
      )

  says_amend : ObeyAll amend_rules given → Says given
  says_amend k =
      let price = k.1.1.1.1.1.0 in
      let volumes = k.1.1.1.1.1.1.0 in (
        Amend b c price.0 volumes.0,
        (k.1.0, k.1.1.0, price.1, volumes.1),
        nine_alike a b c d e f g h i (codes "amend") b c [] [] (price_text price.0) (volumes_text volumes.0) [] []
            (from_word (codes "amend") a k.0) refl refl k.1.1.1.0 k.1.1.1.1.0 price.2 volumes.2 k.1.1.1.1.1.1.1.0 k.1.1.1.1.1.1.1.1.0,
      )

  says_cancel : ObeyAll cancel_rules given → Says given
  says_cancel k = (
    Cancel b c,
    (k.1.0, k.1.1.0),
    nine_alike a b c d e f g h i (codes "cancel") b c [] [] [] [] [] []
        (from_word (codes "cancel") a k.0) refl refl k.1.1.1.0 k.1.1.1.1.0 k.1.1.1.1.1.0 k.1.1.1.1.1.1.0 k.1.1.1.1.1.1.1.0
        k.1.1.1.1.1.1.1.1.0,
  )

  says_close : ObeyAll close_rules given → Says given
  says_close k = (
    Close,
    tt,
    nine_alike a b c d e f g h i (codes "close") [] [] [] [] [] [] [] []
        (from_word (codes "close") a k.0) k.1.0 k.1.1.0 k.1.1.1.0 k.1.1.1.1.0 k.1.1.1.1.1.0 k.1.1.1.1.1.1.0 k.1.1.1.1.1.1.1.0
        k.1.1.1.1.1.1.1.1.0,
  )

  by_form : (x y : Bool) → bytes_eq d (codes "hour") ≡ x → bytes_eq d (codes "block") ≡ y
      → ObeyAll (submit_of (if x then hour_rules else if y then block_rules else OneOf (codes "hour" ∷ codes "block" ∷ []) ∷ [])) given
      → Says given
  by_form true y hour block k = says_hour k
  by_form false true hour block k = says_block k
  by_form false false hour block k =
      let none = or_from (bytes_eq d (codes "hour")) (bytes_eq d (codes "block") || false) hour
      (or_from (bytes_eq d (codes "block")) false block refl) in
      let some : list_any (bytes_eq d) (codes "hour" ∷ codes "block" ∷ []) ≡ true = k.1.1.1.0 in
      let both : false ≡ true = sym none ∙ some in
      absurd (cc)

  by_kind : (s m n l : Bool) → bytes_eq a (codes "submit") ≡ s → bytes_eq a (codes "amend") ≡ m → bytes_eq a (codes "cancel") ≡ n
      → bytes_eq a (codes "close") ≡ l
      → ObeyAll (if s then submit_rules given else if m then amend_rules else if n then cancel_rules else if l then close_rules
      else OneOf (codes "submit" ∷ codes "amend" ∷ codes "cancel" ∷ codes "close" ∷ []) ∷ []) given → Says given
  by_kind true m n l submit amend cancel close k = by_form (bytes_eq d (codes "hour")) (bytes_eq d (codes "block")) refl refl k
  by_kind false true n l submit amend cancel close k = says_amend k
  by_kind false false true l submit amend cancel close k = says_cancel k
  by_kind false false false true submit amend cancel close k = says_close k
  by_kind false false false false submit amend cancel close k =
      let none = or_from (bytes_eq a (codes "submit"))
      (bytes_eq a (codes "amend") || (bytes_eq a (codes "cancel") || (bytes_eq a (codes "close") || false))) submit
      (or_from (bytes_eq a (codes "amend")) (bytes_eq a (codes "cancel") || (bytes_eq a (codes "close") || false)) amend
      (or_from (bytes_eq a (codes "cancel")) (bytes_eq a (codes "close") || false) cancel
      (or_from (bytes_eq a (codes "close")) false close refl))) in
      let some : list_any (bytes_eq a) (codes "submit" ∷ codes "amend" ∷ codes "cancel" ∷ codes "close" ∷ []) ≡ true = k.0 in
      let both : false ≡ true = sym none ∙ some in
      absurd (cc)

  says_command : ObeyAll (command_rules given) given → Says given
  says_command k = by_kind (bytes_eq a (codes "submit")) (bytes_eq a (codes "amend")) (bytes_eq a (codes "cancel"))
      (bytes_eq a (codes "close")) refl refl refl refl k

kept-day : (given : Fields) → length given ≡ 9 → ObeyAll day_rules given → SaysDay given
kept-day given len k =
    let is = nine given len in
    subst SaysDay (sym is)
    (says_day (field_or_empty given 0) (field_or_empty given 1) (field_or_empty given 2) (field_or_empty given 3) (field_or_empty given 4)
    (field_or_empty given 5) (field_or_empty given 6) (field_or_empty given 7)
    (field_or_empty given 8) (subst (ObeyAll day_rules) is k))

kept-command : (given : Fields) → length given ≡ 9 → ObeyAll (command_rules given) given → Says given
kept-command given len k =
    let is = nine given len in
    subst Says (sym is)
    (says_command (field_or_empty given 0) (field_or_empty given 1) (field_or_empty given 2) (field_or_empty given 3)
    (field_or_empty given 4) (field_or_empty given 5) (field_or_empty given 6) (field_or_empty given 7)
    (field_or_empty given 8) (subst (λ (r : Fields). ObeyAll (command_rules r) r) is k))

-- ---- a record says something or has a fault

abbrev Broken : List FieldRule → Fields → Type 0
Broken rules fields = (n : ℕ) × IsLeastBroken rules fields (suc n)

one_field : (rule : FieldRule) (rules : List FieldRule) (field : List ℕ) (fields : Fields) → IsDecided (Obeys rule field)
    → ObeyAll rules fields ⊎ Broken rules fields
    → ObeyAll (rule ∷ rules) (field ∷ fields) ⊎ Broken (rule ∷ rules) (field ∷ fields)
one_field rule rules field fields (inr none) rest = inr (0, none)
one_field rule rules field fields (inl is) (inl kept) = inl (is, kept)
one_field rule rules field fields (inl is) (inr broken) = inr (suc broken.0, (is, broken.1))

decided_rules : (rules : List FieldRule) (fields : Fields) → ObeyAll rules fields ⊎ Broken rules fields
decided_rules [] fields = inl tt
decided_rules (rule ∷ rules) [] = inl tt
decided_rules (rule ∷ rules) (field ∷ fields) = one_field rule rules field fields (decided_rule rule field) (decided_rules rules fields)

-- a fault other than that memory ran out
abbrev Faulty : (JournalFault → Type 0) → Type 0
Faulty IsFault = (fault : JournalFault) × IsFault fault × (fault ≢ Memory)

first-rules : (row : Fields) → kind_field row ≡ codes "day" → length row ≡ 9 → ObeyAll day_rules row ⊎ Broken day_rules row → SaysDay row
    ⊎ Faulty (IsRecordFault 1 row)
first-rules row day len (inl kept) = inl (kept-day row len kept)
first-rules row day len (inr broken) = inr (BadField 1 (suc broken.0), ((omega arith, λ one. day), refl, len, broken.1), λ is. cc)

first-length : (row : Fields) → kind_field row ≡ codes "day" → (length row ≡ 9) ⊎ (length row ≡ 9 → ⊥) → SaysDay row ⊎ Faulty
    (IsRecordFault 1 row)
first-length row day (inl len) = first-rules row day len (decided_rules day_rules row)
first-length row day (inr other) = inr (FieldCount 1, ((omega arith, λ one. day), refl, other), λ is. cc)

first-kind : (row : Fields) → IsDecided (kind_field row ≡ codes "day") → SaysDay row ⊎ Faulty (IsRecordFault 1 row)
first-kind row (inl day) = first-length row day (cases_eq (length row) 9)
first-kind row (inr other) = inr (NotDay, (refl, other), λ is. cc)

decided_first : (row : Fields) → SaysDay row ⊎ Faulty (IsRecordFault 1 row)
decided_first row = first-kind row (decided_same (kind_field row) (codes "day"))

abbrev SaysMore : ℕ → Fields → Type 0
SaysMore number row = (number ≤ most_records) × Says row

later-rules : (number : ℕ) (row : Fields) → 1 < number → number ≤ most_records → length row ≡ 9 → ObeyAll (command_rules row) row ⊎ Broken
    (command_rules row) row
    → SaysMore number row ⊎ Faulty (IsRecordFault number row)
later-rules number row later few len (inl kept) = inl (few, kept-command row len kept)
later-rules number row later few len (inr broken) =
    let other : (number == 1) ≡ false = grind (arith, nat_tests, later) in
    let rules : IsLeastBroken (if number == 1 then day_rules else command_rules row) row (suc broken.0) = rw other broken.1 in
    inr (BadField number (suc broken.0), ((few, λ one. absurd (omega (arith, later, one))), refl, len, rules), λ is. cc)

later-length : (number : ℕ) (row : Fields) → 1 < number → number ≤ most_records → (length row ≡ 9) ⊎ (length row ≡ 9 → ⊥)
    → SaysMore number row ⊎ Faulty (IsRecordFault number row)
later-length number row later few (inl len) = later-rules number row later few len (decided_rules (command_rules row) row)
later-length number row later few (inr other) = inr
    (FieldCount number, ((few, λ one. absurd (omega (arith, later, one))), refl, other), λ is. cc)

later-place : (number : ℕ) (row : Fields) → 1 < number → (most_records < number) ⊎ (number ≤ most_records) → SaysMore number row ⊎ Faulty
    (IsRecordFault number row)
later-place number row later (inl many) = inr (TooManyRecords, many, λ is. cc)
later-place number row later (inr few) = later-length number row later few (cases_eq (length row) 9)

decided_later : (number : ℕ) (row : Fields) → 1 < number → SaysMore number row ⊎ Faulty (IsRecordFault number row)
decided_later number row later = later-place number row later (cases_lt most_records number)

-- ---- the records

abbrev Rows : List Fields → ℕ → Type 0
Rows rows periods = ((commands : List Command) × AreRecords (record_of_day periods ∷ rows) periods commands) ⊎ Faulty
    (IsFaultOfRecords (record_of_day periods ∷ rows))

next-row : (rows : List Fields) (periods : ℕ) (commands : List Command) (row : Fields) (more : List Fields) → is_day periods ≡ true
    → Reads rows commands (row ∷ more)
    → SaysMore (length commands + 2) row ⊎ Faulty (IsRecordFault (length commands + 2) row)
    → ((command : Command) → Reads rows (commands ++ command ∷ []) more → Rows rows periods) → Rows rows periods
next-row rows periods commands row more day reads (inl says) rest =
    let said = says.1 in rest said.0 (Reads-more rows commands (row ∷ more) more row said.0 reads refl (says.0, said.1, said.2))
next-row rows periods commands row more day reads (inr faulty) rest = inr
    (faulty.0, in_later rows periods commands (row ∷ more) more row faulty.0 day reads refl faulty.1, faulty.2)

decided_rest : (rows : List Fields) (periods : ℕ) (commands : List Command) (left : List Fields) → is_day periods ≡ true
    → Reads rows commands left → Rows rows periods
decided_rest rows periods commands [] day reads = inl (commands, AreRecords-all rows periods commands [] day reads refl)
decided_rest rows periods commands (row ∷ more) day reads =
    next-row rows periods commands row more day reads (decided_later (length commands + 2) row (omega arith))
    (λ command reads'. decided_rest rows periods (commands ++ command ∷ []) more day reads')

abbrev Records : List Fields → Type 0
Records rows = ((periods : ℕ) × (commands : List Command) × AreRecords rows periods commands) ⊎ Faulty (IsFaultOfRecords rows)

same-day : (row : Fields) (rest : List Fields) (periods : ℕ) → row ≡ record_of_day periods → Rows rest periods → Records (row ∷ rest)
same-day row rest periods is (inl are) = inl (periods, are.0, subst (λ (r : Fields). AreRecords (r ∷ rest) periods are.0) (sym is) are.1)
same-day row rest periods is (inr faulty) = inr
    (faulty.0, subst (λ (r : Fields). IsFaultOfRecords (r ∷ rest) faulty.0) (sym is) faulty.1, faulty.2)

first-row : (row : Fields) (rest : List Fields) → SaysDay row ⊎ Faulty (IsRecordFault 1 row) → Records (row ∷ rest)
first-row row rest (inl day) = same-day row rest day.0 day.2
    (decided_rest rest day.0 [] rest day.1 (record { parts = refl; valid = tt; few = omega arith }))
first-row row rest (inr faulty) = inr (faulty.0, in_first (row ∷ rest) rest row faulty.0 refl faulty.1, faulty.2)

decided_records : (rows : List Fields) → Records rows
decided_records [] = inr (NotDay, inl refl, λ is. cc)
decided_records (row ∷ rest) = first-row row rest (decided_first row)

-- ---- the text

text_fault : (text : List ℕ) (fault : JournalFault) → length text ≤ most_bytes → first_non_ascii text ≡ None → IsFaultOfRecords
    (records_of text) fault → fault ≢ Memory → IsJournalFault text fault
text_fault text TooLong short ascii is other = absurd is.faulty
text_fault text (NotAscii offset) short ascii is other = absurd is.faulty
text_fault text TooManyRecords short ascii is other = (short, ascii, is)
text_fault text NotDay short ascii is other = (short, ascii, is)
text_fault text (FieldCount at) short ascii is other = (short, ascii, is)
text_fault text (BadField at field) short ascii is other = (short, ascii, is)
text_fault text Memory short ascii is other = absurd (other refl)

abbrev Texts : List ℕ → Type 0
Texts text = ((periods : ℕ) × (commands : List Command) × ReadsAs text periods commands) ⊎ Faulty (IsJournalFault text)

by_records : (text : List ℕ) → length text ≤ most_bytes → first_non_ascii text ≡ None → Records (records_of text) → Texts text
by_records text short ascii (inl are) = inl (are.0, are.1, record { short = short; ascii = ascii; records = are.2 })
by_records text short ascii (inr faulty) = inr (faulty.0, text_fault text faulty.0 short ascii faulty.1 faulty.2, faulty.2)

by_bytes : (text : List ℕ) (high : Option ℕ) → length text ≤ most_bytes → first_non_ascii text ≡ high → Texts text
by_bytes text None short is = by_records text short is (decided_records (records_of text))
by_bytes text (Some offset) short is = inr (NotAscii offset, (short, is), λ same. cc)

by_length : (text : List ℕ) → (most_bytes < length text) ⊎ (length text ≤ most_bytes) → Texts text
by_length text (inl long) = inr (TooLong, long, λ is. cc)
by_length text (inr short) = by_bytes text (first_non_ascii text) short refl

pub decided_text : (text : List ℕ) → Texts text
decided_text text = by_length text (cases_lt most_bytes (length text))
