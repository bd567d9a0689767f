-- The first fault of records.
use Rattle.std.proofs.Common.{◌≡◌, ◌⊎◌, ℕ, ◌+◌, ◌≤◌, inl, inr, true, sym, min, List, [], ◌∷◌, ◌++◌, length, map, take}
use Rattle.std.proofs.Common.{Result, Ok, Err, refl, ap, subst, ◌∙◌, arith, append_assoc, append-nil, MatchResult}
use Rattle.std.specs.List.{AllByRecursion}
use Rattle.std.proofs.lemmas.List.{map-append, length-map, length-append, length-take, take_all}
use Rattle.dam_book.specs.Book.{is_day}
use Rattle.dam_book.specs.declared.command.Command.{Command}
use Rattle.dam_results.specs.Limits.{most_records}
use Rattle.dam_results.specs.declared.journal_reading.JournalFault.{JournalFault}
use Rattle.dam_results.specs.declared.journal_reading.JournalFault.TheVariants.{TooLong, NotAscii, TooManyRecords, NotDay, FieldCount, BadField}
use Rattle.dam_results.specs.declared.journal_reading.JournalFault.TheVariants.{Memory}
use Rattle.dam_results.specs.Records.{Fields, record_of_day, record_of_command, kind_field}
use Rattle.dam_results.specs.Journal.{AreRecords, IsCommand}
use Rattle.dam_results.specs.inside.Reader.{most_kept, TakesFirst}
use Rattle.dam_results.specs.Faults.{IsInPlace, IsRecordFault, HasFault, IsFaultOfRecords}

pub IsFaultOfRecords-has : (rows : List Fields) (fault : JournalFault) → HasFault rows fault → IsFaultOfRecords rows fault
IsFaultOfRecords-has rows TooLong h = h
IsFaultOfRecords-has rows (NotAscii offset) h = h
IsFaultOfRecords-has rows TooManyRecords h = h
IsFaultOfRecords-has rows NotDay h = inr h
IsFaultOfRecords-has rows (FieldCount at) h = h
IsFaultOfRecords-has rows (BadField at field) h = h
IsFaultOfRecords-has rows Memory h = tt

-- the first record has that fault
pub in_first : (rows rest : List Fields) (row : Fields) (fault : JournalFault) → rows ≡ row ∷ rest → IsRecordFault 1 row fault
    → IsFaultOfRecords rows fault
in_first rows rest row fault e h = IsFaultOfRecords-has rows fault
    (record { front = []; fields = row; rest = rest; parts = e; fine = inl refl; faulty = h })

-- as many fields as a valid record has are all of them
all_kept : (row kept : Fields) → kept ≡ take most_kept row → length kept ≡ 9 → row ≡ kept
all_kept row kept first nine =
    let size : length kept ≡ min 10 (length row) = ap length first ∙ length-take 10 row in
    sym (first ∙ take_all 10 row (omega arith))

same_kind : (row kept : Fields) → kept ≡ take most_kept row → kind_field kept ≡ kind_field row
same_kind [] kept first = rw first refl
same_kind (f ∷ fs) kept first = rw first refl

in_place : (number : ℕ) (row kept : Fields) → kept ≡ take most_kept row → IsInPlace number kept → IsInPlace number row
in_place number row kept first h = (h.0, λ one. sym (same_kind row kept first) ∙ h.1 one)

-- the fields that are kept of a record show its fault
pub fault_of_row : (number : ℕ) (row kept : Fields) (fault : JournalFault) → kept ≡ take most_kept row → IsRecordFault number kept fault
    → IsRecordFault number row fault
fault_of_row number row kept TooLong first h = h
fault_of_row number row kept (NotAscii offset) first h = h
fault_of_row number row kept TooManyRecords first h = h
fault_of_row number row kept NotDay first h = (h.0, λ is. h.1 (same_kind row kept first ∙ is))
fault_of_row number row kept (FieldCount at) first h =
    let size : length kept ≡ min 10 (length row) = ap length first ∙ length-take 10 row in
    (in_place number row kept first h.0, h.1, λ nine. h.2 (omega (arith, nine)))
fault_of_row number row kept (BadField at field) first h =
    let same : row ≡ kept = all_kept row kept first h.2 in
    rw same h
fault_of_row number row kept Memory first h = h

pub faulty_row : (number : ℕ) (row kept : Fields) (fault : JournalFault) → kept ≡ take most_kept row
    → (fault ≡ Memory) ⊎ IsRecordFault number kept fault → (fault ≡ Memory) ⊎ IsRecordFault number row fault
faulty_row number row kept fault first (inl memory) = inl memory
faulty_row number row kept fault first (inr faulty) = inr (fault_of_row number row kept fault first faulty)

-- the value of the first record, or its fault
pub first_record : (rows rest : List Fields) (kept : Fields) (read : Result ℕ JournalFault) → TakesFirst rows rest kept
    → MatchResult read (λ periods. (is_day periods ≡ true) × (kept ≡ record_of_day periods)) (IsRecordFault 1 kept)
    → MatchResult read (λ periods. (is_day periods ≡ true) × (rows ≡ record_of_day periods ∷ rest)) (IsFaultOfRecords rows)
first_record rows rest kept (Ok periods) h said =
    let whole : h.fields ≡ record_of_day periods = all_kept h.fields kept h.first (ap length said.1) ∙ said.1 in
    (said.0, h.records ∙ ap (λ (r : Fields). r ∷ rest) whole)
first_record rows rest kept (Err fault) h faulty =
    in_first rows rest h.fields fault h.records (fault_of_row 1 h.fields kept fault h.first faulty)

-- the commands read so far of the records after the day, and the records left
pub record Reads (rows : List Fields) (commands : List Command) (rest : List Fields) : Type 0 where
  pub parts : rows ≡ map record_of_command commands ++ rest
  pub valid : AllByRecursion IsCommand commands
  pub few : length commands + 1 ≤ most_records

AllByRecursion-push : (cs : List Command) (c : Command) → AllByRecursion IsCommand cs → IsCommand c → AllByRecursion IsCommand
    (cs ++ c ∷ [])
AllByRecursion-push [] c h k = (k, tt)
AllByRecursion-push (d ∷ cs) c h k = (h.0, AllByRecursion-push cs c h.1 k)

pub Reads-more : (rows : List Fields) (commands : List Command) (rest more : List Fields) (row : Fields) (command : Command)
    → Reads rows commands rest → rest ≡ row ∷ more
    → (length commands + 2 ≤ most_records) × IsCommand command × (row ≡ record_of_command command) → Reads rows (commands ++ command ∷ []) more
Reads-more rows commands rest more row command h e k = record {
  parts = h.parts ∙ rw (e, k.2, map-append, append_assoc) refl;
  valid = AllByRecursion-push commands command h.valid k.1;
  few = let n = k.0 in omega (arith, length-append commands (command ∷ []));
}

-- a later record has that fault
pub in_later : (rows : List Fields) (periods : ℕ) (commands : List Command) (rest more : List Fields) (row : Fields) (fault : JournalFault)
    → is_day periods ≡ true → Reads rows commands rest → rest ≡ row ∷ more
    → IsRecordFault (length commands + 2) row fault → IsFaultOfRecords (record_of_day periods ∷ rows) fault
in_later rows periods commands rest more row fault day h e faulty =
    let front : List Fields = record_of_day periods ∷ map record_of_command commands in
    let len : length (map record_of_command commands) ≡ length commands = length-map commands record_of_command in
    let number : length commands + 2 ≡ length front + 1 = omega arith in
    IsFaultOfRecords-has (record_of_day periods ∷ rows) fault (record {
      front = front;
      fields = row;
      rest = more;
      parts = ap (λ (rs : List Fields). record_of_day periods ∷ rs) (h.parts ∙ ap (λ (rs : List Fields). map record_of_command commands ++ rs) e);
      fine = inr (periods, commands, record { few = let n = h.few in omega arith; day = day; valid = h.valid; written = refl });
      faulty = subst (λ (n : ℕ). IsRecordFault n row fault) number faulty;
    })

-- at the end of the records they are a journal
pub AreRecords-all : (rows : List Fields) (periods : ℕ) (commands : List Command) (rest : List Fields) → is_day periods ≡ true
    → Reads rows commands rest → rest ≡ [] → AreRecords (record_of_day periods ∷ rows) periods commands
AreRecords-all rows periods commands rest day h e =
    let len : length (map record_of_command commands) ≡ length commands = length-map commands record_of_command in
    let all : rows ≡ map record_of_command commands = h.parts ∙ rw (e, append-nil) refl in
    record {
      few = let n = h.few in let m = ap length all in omega arith;
      day = day;
      valid = h.valid;
      written = ap (λ (rs : List Fields). record_of_day periods ∷ rs) all;
    }

-- the commands read so far, `count` of them, made this
pub record ReadsInto {T : Type 0} (MadeOf : ℕ → List Command → T → Type 0) (periods : ℕ) (rows rest : List Fields) (count : ℕ)
    (made : T) : Type 0 where
  pub commands : List Command
  pub reads : Reads rows commands rest
  pub counted : count ≡ length commands
  pub made_of : MadeOf periods commands made

-- one command more
pub ReadsInto-more : {T : Type 0} (MadeOf : ℕ → List Command → T → Type 0) (periods : ℕ) (rows rest more : List Fields) (row : Fields)
    (count next : ℕ) (command : Command) (before after : T)
    → (h : ReadsInto MadeOf periods rows rest count before) → rest ≡ row ∷ more → next ≡ count + 1
    → (next + 1 ≤ most_records) × IsCommand command × (row ≡ record_of_command command)
    → ((commands : List Command) → length commands + 1 ≡ next → MadeOf periods commands before → MadeOf periods
    (commands ++ command ∷ []) after)
    → ReadsInto MadeOf periods rows more next after
ReadsInto-more MadeOf periods rows rest more row count next command before after h first following said takes =
    let n = said.0 in
    let counted = h.counted in
    let commands = h.commands in
    record {
      commands = commands ++ command ∷ [];
      reads = Reads-more rows commands rest more row command h.reads first (omega (arith, n, following, counted), said.1, said.2);
      counted = omega (arith, following, counted, length-append commands (command ∷ []));
      made_of = takes commands (omega (arith, following, counted)) h.made_of;
    }

-- if memory ran out or the next record has a fault, the records have it
pub ReadsInto-fault : {T : Type 0} (MadeOf : ℕ → List Command → T → Type 0) (periods : ℕ) (rows rest more : List Fields) (row : Fields)
    (count number : ℕ) (made : T) (fault : JournalFault)
    → is_day periods ≡ true → ReadsInto MadeOf periods rows rest count made → rest ≡ row ∷ more → number ≡ count + 2 → (fault ≡ Memory)
    ⊎ IsRecordFault number row fault
    → IsFaultOfRecords (record_of_day periods ∷ rows) fault
ReadsInto-fault MadeOf periods rows rest more row count number made fault day h first at (inl memory) = rw memory tt
ReadsInto-fault MadeOf periods rows rest more row count number made fault day h first at (inr faulty) =
    let counted = h.counted in
    let place : number ≡ length h.commands + 2 = omega (arith, at, counted) in
    in_later rows periods h.commands rest more row fault day h.reads first (subst (λ (n : ℕ). IsRecordFault n row fault) place faulty)

-- at the end of the records, the value that was made is the value of the whole journal
pub ReadsInto-all : {T : Type 0} (MadeOf : ℕ → List Command → T → Type 0) (periods : ℕ) (rows rest : List Fields) (count : ℕ) (made : T)
    → is_day periods ≡ true → ReadsInto MadeOf periods rows rest count made
    → rest ≡ [] → (commands : List Command) × AreRecords (record_of_day periods ∷ rows) periods commands × MadeOf periods commands made
ReadsInto-all MadeOf periods rows rest count made day h none =
    (h.commands, AreRecords-all rows periods h.commands rest day h.reads none, h.made_of)
