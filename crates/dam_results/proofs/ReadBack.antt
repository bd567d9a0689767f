-- The written journal, and every text that spells its records, reads as its periods and commands.
use Rattle.std.proofs.Common.{◌≡◌, ℕ, ◌+◌, ◌*◌, ◌≤◌, nat_lt, ltb, true, false, List, [], ◌∷◌, ◌++◌, length, map, None, refl, sym, ap, subst}
use Rattle.std.proofs.Common.{arith, length-append, append_assoc}
use Rattle.std.specs.List.{AllByRecursion, list_any, flat_map, join_with_byte, position_or_len}
use Rattle.std.proofs.lemmas.Bool.Decides.{nat_tests}
use Rattle.std.proofs.lemmas.List.{length-map}
use Rattle.std.proofs.lemmas.List.Folds.{list_any-append}
use Rattle.csv.specs.Writing.{default_writer, needs_byte}
use Rattle.dam_book.specs.Book.{is_day, commands_of}
use Rattle.dam_book.specs.declared.command.Command.{Command}
use Rattle.dam_book.specs.declared.command.Entry.{Entry}
use Rattle.dam_book.specs.Limits.{most_entries}
use Rattle.dam_results.specs.Limits.{most_bytes}
use Rattle.dam_results.specs.Records.{Fields, records_of, record_of_day, record_of_command}
use Rattle.dam_results.specs.Journal.{IsCommand, ReadsAs, first_non_ascii}
use Rattle.dam_results.specs.Spelling.{IsLineEnd, LineFeed, CarriageReturn, Both, IsSpelledField, Bare, Quoted, IsSpelledRecord, One, More}
use Rattle.dam_results.specs.Spelling.{IsSpelled, Nothing, EmptyLine, Record, LastRecord}
use Rattle.dam_results.specs.Written.{record_line, command_line, written, journal_text}
use Rattle.dam_results.proofs.FieldBytes.{HasFieldBytes, AreFields, limits, day_fields, command_fields}
use Rattle.dam_results.proofs.SpelledRecords.{IsPlain, ArePlain, IsPlainRow, ArePlainRows, records_of-spelled}

-- fields with no mark of the format

first_byte : (b : ℕ) (x : List ℕ) → HasFieldBytes (b ∷ x) → (45 ≤ b) × (b ≤ 122) × HasFieldBytes x
first_byte b x h =
    let low : 45 ≤ b = grind (arith, nat_tests) in
    let high : b ≤ 122 = grind (arith, nat_tests) in
    (low, high, grind (arith, nat_tests))

unmarked : (b : ℕ) → 45 ≤ b → b ≤ 122 → needs_byte default_writer b ≡ false
unmarked b low high = grind (arith, nat_tests)

plain : (x : List ℕ) → HasFieldBytes x → IsPlain x
plain [] h = refl
plain (b ∷ x) h = let f = first_byte b x h in let m = unmarked b f.0 f.1 in let more = plain x f.2 in rw (m, more) refl

pub plain_fields : (ns : List ℕ) (xs : Fields) → AreFields ns xs → ArePlain xs
plain_fields [] [] h = tt
plain_fields [] (x ∷ xs) h = absurd h
plain_fields (n ∷ ns) [] h = absurd h
plain_fields (n ∷ ns) (x ∷ xs) h = (plain x h.0.bytes, plain_fields ns xs h.1)

as_many : (ns : List ℕ) (xs : Fields) → AreFields ns xs → length xs ≡ length ns
as_many [] [] h = refl
as_many [] (x ∷ xs) h = absurd h
as_many (n ∷ ns) [] h = absurd h
as_many (n ∷ ns) (x ∷ xs) h = let e = as_many ns xs h.1 in omega arith

plain_row : (row : Fields) → AreFields limits row → IsPlainRow row
unfolding limits
plain_row row h = record { two = let e = as_many limits row h in omega arith; plain = plain_fields limits row h }

abbrev AreRows : List Fields → Type 0
AreRows rows = AllByRecursion (λ (row : Fields). AreFields limits row) rows

plain_rows : (rows : List Fields) → AreRows rows → ArePlainRows rows
plain_rows [] h = tt
plain_rows (row ∷ rows) h = (plain_row row h.0, plain_rows rows h.1)

command_rows : (commands : List Command) → AllByRecursion IsCommand commands → AreRows (map record_of_command commands)
command_rows [] h = tt
command_rows (c ∷ cs) h = (command_fields c h.0, command_rows cs h.1)

journal_rows : (periods : ℕ) (commands : List Command) → is_day periods ≡ true → AllByRecursion IsCommand commands → AreRows
    (record_of_day periods ∷ map record_of_command commands)
journal_rows periods commands day valid = (day_fields periods day, command_rows commands valid)

-- texts of ASCII bytes

abbrev IsLow : List ℕ → Type 0
IsLow x = list_any (nat_lt 127) x ≡ false

IsLow-append : (x y : List ℕ) → IsLow x → IsLow y → IsLow (x ++ y)
IsLow-append x y h g = rw (list_any-append, h, g) refl

low_byte : (b : ℕ) → b ≤ 122 → nat_lt 127 b ≡ false
low_byte b h = grind (arith, nat_tests)

low_field : (x : List ℕ) → HasFieldBytes x → IsLow x
low_field [] h = refl
low_field (b ∷ x) h = let f = first_byte b x h in let m = low_byte b f.1 in let more = low_field x f.2 in rw (m, more) refl

low_spelled_field : (x text : List ℕ) → IsSpelledField x text → HasFieldBytes x → IsLow text
low_spelled_field _ _ (Bare x) h = low_field x h
low_spelled_field _ _ (Quoted x) h = IsLow-append (34 ∷ x) (34 ∷ []) (low_field x h) refl

low_line : (row : Fields) (line : List ℕ) → IsSpelledRecord row line → (ns : List ℕ) → AreFields ns row → IsLow line
low_line _ _ (One x text f) [] h = absurd h
low_line _ _ (One x text f) (n ∷ ns) h = low_spelled_field x text f h.0.bytes
low_line _ _ (More x text xs others f g) [] h = absurd h
low_line _ _ (More x text xs others f g) (n ∷ ns) h = IsLow-append text (44 ∷ others) (low_spelled_field x text f h.0.bytes)
    (low_line xs others g ns h.1)

low_end : (end : List ℕ) → IsLineEnd end → IsLow end
low_end _ LineFeed = refl
low_end _ CarriageReturn = refl
low_end _ Both = refl

low_text : (rows : List Fields) (text : List ℕ) → IsSpelled rows text → AreRows rows → IsLow text
low_text _ _ Nothing h = refl
low_text _ _ (EmptyLine rows end rest e s) h = IsLow-append end rest (low_end end e) (low_text rows rest s h)
low_text _ _ (Record row rows line end rest l e s) h = IsLow-append line (end ++ rest) (low_line row line l limits h.0)
    (IsLow-append end rest (low_end end e) (low_text rows rest s h.1))
low_text _ _ (LastRecord row line l) h = low_line row line l limits h.0

all_low : (x : List ℕ) → IsLow x → position_or_len (nat_lt 127) x ≡ length x
all_low [] h = refl
all_low (b ∷ x) h =
    let m : nat_lt 127 b ≡ false = grind (arith, nat_tests) in
    let e = all_low x (grind (arith, nat_tests)) in
    rw m (omega arith)

not_less : (n : ℕ) → ltb n n ≡ false
not_less n = grind (arith, nat_tests)

pub first_non_ascii-low : (x : List ℕ) → IsLow x → first_non_ascii x ≡ None
first_non_ascii-low x h = rw (all_low x h, not_less (length x)) refl

-- a text that spells a journal's records reads as that journal
pub reads_spelled : (periods : ℕ) (commands : List Command) (text : List ℕ) → is_day periods ≡ true → AllByRecursion IsCommand commands
    → length commands ≤ most_entries
    → length text ≤ most_bytes → IsSpelled (record_of_day periods ∷ map record_of_command commands) text → ReadsAs text periods commands
reads_spelled periods commands text day valid few short spelled =
    let rows : List Fields = record_of_day periods ∷ map record_of_command commands in
    let fields : AreRows rows = journal_rows periods commands day valid in
    let read : records_of text ≡ rows = records_of-spelled rows text spelled (plain_rows rows fields) in
    record {
      short = short;
      ascii = first_non_ascii-low text (low_text rows text spelled fields);
      records = record {
        few = let n = ap length read in let m = length-map commands record_of_command in omega arith;
        day = day;
        valid = valid;
        written = read;
      };
    }

-- the written form spells its records

joined : (x : List ℕ) (xs : Fields) → IsSpelledRecord (x ∷ xs) (join_with_byte 44 (x ∷ xs))
joined x [] = One x x (Bare x)
joined x (y ∷ ys) = More x x (y ∷ ys) (join_with_byte 44 (y ∷ ys)) (Bare x) (joined y ys)

spelled_line : (row : Fields) (rows : List Fields) (rest : List ℕ) → AreFields limits row → IsSpelled rows rest → IsSpelled (row ∷ rows)
    (record_line row ++ rest)
unfolding limits
spelled_line [] rows rest h s = absurd h
spelled_line (x ∷ xs) rows rest h s =
    subst (λ (text : List ℕ). IsSpelled ((x ∷ xs) ∷ rows) text) (sym (append_assoc (join_with_byte 44 (x ∷ xs)) (10 ∷ []) rest))
    (Record (x ∷ xs) rows (join_with_byte 44 (x ∷ xs)) (10 ∷ []) rest (joined x xs) LineFeed s)

spelled_lines : (commands : List Command) → AllByRecursion IsCommand commands → IsSpelled (map record_of_command commands)
    (flat_map command_line commands)
spelled_lines [] h = Nothing
spelled_lines (c ∷ cs) h = spelled_line (record_of_command c) (map record_of_command cs) (flat_map command_line cs) (command_fields c h.0) (spelled_lines cs h.1)

pub spelled_written : (periods : ℕ) (commands : List Command) → is_day periods ≡ true → AllByRecursion IsCommand commands → IsSpelled
    (record_of_day periods ∷ map record_of_command commands) (written periods commands)
spelled_written periods commands day valid = spelled_line (record_of_day periods) (map record_of_command commands) (flat_map command_line commands)
    (day_fields periods day) (spelled_lines commands valid)

-- and is short enough

-- a line's greatest length by those of its fields
abbrev line_limit : List ℕ → ℕ
line_limit [] = 1
line_limit (n ∷ ns) = n + 1 + line_limit ns

line_length : (ns : List ℕ) (xs : Fields) → AreFields ns xs → length (join_with_byte 44 xs) + 1 ≤ line_limit ns
line_length [] [] h = omega arith
line_length [] (x ∷ xs) h = absurd h
line_length (n ∷ ns) [] h = absurd h
line_length (n ∷ []) (x ∷ []) h = let f = h.0.fits in omega arith
line_length (n ∷ m ∷ ns) (x ∷ []) h = absurd h.1
line_length (n ∷ []) (x ∷ y ∷ xs) h = absurd h.1
line_length (n ∷ m ∷ ns) (x ∷ y ∷ xs) h =
    let f = h.0.fits in
    let more = line_length (m ∷ ns) (y ∷ xs) h.1 in
    omega (arith, length-append x (44 ∷ join_with_byte 44 (y ∷ xs)))

abbrev longest_line : ℕ
longest_line = line_limit limits

short_line : (row : Fields) → AreFields limits row → length (record_line row) ≤ longest_line
unfolding limits
short_line row h = let f = line_length limits row h in omega (arith, length-append (join_with_byte 44 row) (10 ∷ []))

short_lines : (commands : List Command) → AllByRecursion IsCommand commands → length
    (flat_map command_line commands) ≤ longest_line * length commands
short_lines [] h = omega arith
short_lines (c ∷ cs) h =
    let first = short_line (record_of_command c) (command_fields c h.0) in
    let more = short_lines cs h.1 in
    omega (arith, length-append (command_line c) (flat_map command_line cs))

short_written : (periods : ℕ) (commands : List Command) → is_day periods ≡ true → AllByRecursion IsCommand commands
    → length commands ≤ most_entries → length (written periods commands) ≤ most_bytes
unfolding limits
short_written periods commands day valid few =
    let first = short_line (record_of_day periods) (day_fields periods day) in
    let more = short_lines commands valid in
    omega (arith, length-append (record_line (record_of_day periods)) (flat_map command_line commands))

pub reads_written : (periods : ℕ) (commands : List Command) → is_day periods ≡ true → AllByRecursion IsCommand commands
    → length commands ≤ most_entries → ReadsAs (written periods commands) periods commands
reads_written periods commands day valid few =
    reads_spelled periods commands (written periods commands) day valid few (short_written periods commands day valid few)
    (spelled_written periods commands day valid)

pub reads_journal_text : (periods : ℕ) (entries : List Entry) → is_day periods ≡ true → AllByRecursion IsCommand (commands_of entries)
    → length entries ≤ most_entries → ReadsAs (journal_text periods entries) periods (commands_of entries)
reads_journal_text periods entries day valid few =
    reads_written periods (commands_of entries) day valid (let m = length-map entries (λ (e : Entry). e.command) in omega arith)
