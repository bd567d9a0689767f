-- The text that a person at a terminal reads about a fault of the input, and about words that name a file or ask for
-- the version.
use Rattle.std.specs.Prelude.{◌≡◌, ◌≢◌, ◌≤◌, ◌+◌, ◌-◌, ◌*◌, ◌%◌, ◌==◌, ◌&&◌, ◌||◌, ℕ, ℤ, pos, nat_le, Bool, true, false, not, List, [], ◌∷◌, ◌++◌}
use Rattle.std.specs.Prelude.{length, take, drop, codes, decimal, Option, None, Some, option_map, unwrap_or, if◌then◌else◌}
use Rattle.std.specs.Fmt.{signed_decimal}
use Rattle.std.specs.List.{list_any}
use Rattle.std.specs.Str.{bytes_eq}
use Rattle.dam_book.specs.Book.{is_day}
use Rattle.dam_book.specs.Limits.{lowest_price, highest_price, greatest_volume, longest_name, longest_participant, most_entries}
use Rattle.dam_results.specs.Limits.{most_bytes}
use Rattle.dam_results.specs.declared.journal_reading.JournalFault.{JournalFault}
use Rattle.dam_results.specs.declared.journal_reading.JournalFault.TheVariants.{BadField, TooLong, TooManyRecords}
use Rattle.dam_cli.specs.declared.advice.Rule.{Rule}
use Rattle.dam_cli.specs.declared.advice.Rule.TheVariants.{Plain, Within}

-- a rule as a person reads it: its text, or one text, the least and the greatest allowed number, and another text
abbrev pub rule_text : Rule → List ℕ
rule_text (Plain text) = text.now
rule_text (Within before least greatest after) =
    before.now ++ (codes " from " ++ (signed_decimal least ++ (codes " to " ++ (signed_decimal greatest ++ after.now))))

-- the text begins with the name of this field of a record: that is `field n `, with n of one digit, whose byte is 48 + n
abbrev pub BeginsWithField : ℕ → List ℕ → Type 0
BeginsWithField field text = take 8 text ≡ codes "field " ++ ((48 + field) ∷ codes " ")

-- for a bad field of a command's record, and for field 2 of the day, the rule begins with the name of that field
abbrev pub NamesItsField : JournalFault → List ℕ → Type 0
NamesItsField (BadField at field) rule = (at ≡ 1 → field ≡ 2) → 1 ≤ field → field ≤ 9 → BeginsWithField field rule
NamesItsField fault rule = Unit {0}

-- whether the byte is a decimal digit
abbrev pub is_digit : ℕ → Bool
is_digit byte = nat_le 48 byte && nat_le byte 57

-- the number, if there is one
abbrev pub this_number : Option ℕ → List ℕ
this_number None = []
this_number (Some number) = number ∷ []

-- the numbers in a text, in its order. If a number stands right before the text, the text's first digits continue it
abbrev pub numbers_after : Option ℕ → List ℕ → List ℕ
numbers_after number [] = this_number number
numbers_after number (byte ∷ rest) =
    if is_digit byte then numbers_after (Some (10 * unwrap_or number 0 + (byte - 48))) rest
    else this_number number ++ numbers_after None rest

-- after the name of its field, the text has the numbers of periods that a day may have, and no other number
abbrev pub ShowsDays : List ℕ → Type 0
ShowsDays text = (periods : ℕ) → list_any (λ number. periods == number) (numbers_after None (drop 8 text)) ≡ is_day periods

-- the rule shows these two as the least and the greatest allowed number
abbrev pub ShowsRange : ℤ → ℤ → Rule → Type 0
ShowsRange least greatest (Plain text) = ⊥
ShowsRange least greatest (Within before shown_least shown_greatest after) = (shown_least ≡ least) × (shown_greatest ≡ greatest)

-- decimal digits, with a comma before each three
abbrev pub with_commas : List ℕ → List ℕ
with_commas [] = []
with_commas (digit ∷ []) = digit ∷ []
with_commas (digit ∷ next ∷ rest) =
    if length (next ∷ rest) % 3 == 0 then digit ∷ 44 ∷ with_commas (next ∷ rest) else digit ∷ with_commas (next ∷ rest)

-- whether the text has this part
abbrev pub has_part : List ℕ → List ℕ → Bool
has_part part [] = false
has_part part (byte ∷ rest) = bytes_eq (take (length part) (byte ∷ rest)) part || has_part part rest

-- the rule has this number between two blanks
abbrev pub HasNumber : ℕ → Rule → Type 0
HasNumber number rule = has_part (codes " " ++ (with_commas (decimal number) ++ codes " ")) (rule_text rule) ≡ true

-- the rule of a bad field in a command's record: for a participant or a name it has their most bytes, and for a price or
-- volumes it shows the limits on them
abbrev pub ShowsLimitsOfField : ℕ → Rule → Type 0
ShowsLimitsOfField field rule = (field ≡ 2 → HasNumber longest_participant rule) × (field ≡ 3 → HasNumber longest_name rule)
    × (field ≡ 6 → ShowsRange lowest_price highest_price rule) × (field ≡ 7 → ShowsRange (pos 1) (pos greatest_volume) rule)

-- for a journal that is too long, the rule has the most bytes or commands; for field 2 of the day, it has the numbers of
-- periods; for a bad field of a command's record, it shows the limits of the field
abbrev pub ShowsItsLimits : JournalFault → Rule → Type 0
ShowsItsLimits TooLong rule = HasNumber most_bytes rule
ShowsItsLimits TooManyRecords rule = HasNumber most_entries rule
ShowsItsLimits (BadField at field) rule =
    (at ≡ 1 → field ≡ 2 → ShowsDays (rule_text rule)) × (at ≢ 1 → ShowsLimitsOfField field rule)
ShowsItsLimits fault rule = Unit {0}

-- whether a word asks for the version
abbrev pub is_version_word : List ℕ → Bool
is_version_word word = bytes_eq word (codes "--version") || bytes_eq word (codes "-V")

-- whether the word is one of the three commands
abbrev pub is_command : List ℕ → Bool
is_command word = bytes_eq word (codes "replay") || (bytes_eq word (codes "clear") || bytes_eq word (codes "day"))

-- whether the word begins with `-`, whose byte is 45
abbrev pub is_option : List ℕ → Bool
is_option [] = false
is_option (byte ∷ rest) = byte == 45

-- whether the option has its number in the same word, after a `=`, whose byte is 61
abbrev pub has_equals_sign : List ℕ → Bool
has_equals_sign word = list_any (λ byte. byte == 61) word

-- the first word that is neither an option nor the number of the option before it. If `is_number` is true, the first
-- word is an option's number and is skipped. An option without `=` has its number in the next word, so that word is
-- skipped too
abbrev pub first_file : Bool → List (List ℕ) → Option (List ℕ)
first_file is_number [] = None
first_file is_number (word ∷ words) =
    if is_number then first_file false words
    else if is_option word then first_file (not (has_equals_sign word)) words
    else Some word

-- the quote on each side of a file's name. A name has it if it is empty or has a blank, unless it has such a quote
-- itself. No other character that a shell reads calls for it. The bytes of a blank and of the quote are 32 and 39
abbrev pub quote_of : List ℕ → List ℕ
quote_of name =
    if (length name == 0 || list_any (λ byte. byte == 32) name)
    && not (list_any (λ byte. byte == 39) name)
    then codes "'"
    else []

-- the command, if the first word is one, and after it the first word that may be a file
abbrev pub command_and_file : List (List ℕ) → Option (List ℕ × List ℕ)
command_and_file [] = None
command_and_file (command ∷ words) =
    if is_command command then option_map (λ file. (command, file)) (first_file false words) else None
