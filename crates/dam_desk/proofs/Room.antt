-- A file has room for the lines of every journal.
use Rattle.std.proofs.Common.{◌≡◌, ℕ, ℤ, pos, negsuc, ◌==◌, ◌+◌, ◌*◌, ◌%◌, ◌<◌, ◌≤◌, ◌^◌, Bool, true, false, if◌then◌else◌, List, [], ◌∷◌, ◌++◌, Option, Some, None, length, refl, ap, arith, length-append, codes}
use Rattle.std.specs.Prelude.{IfSome, decimal}
use Rattle.std.specs.List.{AllByRecursion, flat_map, join_with_byte}
use Rattle.std.proofs.lemmas.Bool.Decides.{nat_tests}
use Rattle.std.proofs.lemmas.Fmt.{decimal_by_steps, length-decimal-le, length_signed_le}
use Rattle.std.proofs.lemmas.Int.{ints}
use Rattle.std.proofs.lemmas.List.{length-map}
use Rattle.dam_book.specs.Book.{is_day}
use Rattle.dam_book.specs.Fields.{pair_text, price_text, volumes_text}
use Rattle.dam_book.specs.Name.{IsName, IsParticipant}
use Rattle.dam_book.specs.Order.{IsOrder}
use Rattle.dam_book.specs.Period.{IsPeriod}
use Rattle.dam_book.specs.Price.{IsPrice}
use Rattle.dam_book.specs.Quantity.{IsQuantity}
use Rattle.dam_book.specs.Volumes.{ArePairs, Pair}
use Rattle.dam_book.specs.declared.command.Command.{Command}
use Rattle.dam_book.specs.declared.command.Command.TheVariants.{Submit, Amend, Cancel, Close}
use Rattle.dam_book.specs.declared.order.Order.{Order}
use Rattle.dam_book.specs.declared.order.Order.TheVariants.{Hour, Block}
use Rattle.dam_book.specs.declared.order.Side.{Side}
use Rattle.dam_book.specs.declared.order.Side.TheVariants.{Buy, Sell}
use Rattle.dam_results.specs.Journal.{IsCommand}
use Rattle.dam_results.specs.Limits.{most_records}
use Rattle.dam_results.specs.Records.{Fields, record_of_day, optional_text, order_fields, record_of_command, side_word}
use Rattle.dam_results.specs.Written.{command_line, record_line}
use Rattle.dam_store.specs.FileLines.{bytes_on_disk, head_line, marked, text_of}
use Rattle.dam_store.specs.Limits.{most_file_bytes}
use Rattle.dam_desk.specs.DeskJournal.{JournalContent, ReadsBack, desk_journal_text}

-- the bytes that a file has for a text: the text's, and a mark for each line feed
abbrev weight : List ℕ → ℕ
weight [] = 0
weight (b ∷ bytes) = (if b == 10 then 2 else 1) + weight bytes

weight_both : (x y : List ℕ) → weight (x ++ y) ≡ weight x + weight y
weight_both [] y = omega arith
weight_both (b ∷ x) y = let more = weight_both x y in omega arith

one_or_two : (test : Bool) → (1 ≤ (if test then 2 else 1)) × ((if test then 2 else 1) ≤ 2)
one_or_two true = (omega arith, omega arith)
one_or_two false = (omega arith, omega arith)

bounds : (x : List ℕ) → (length x ≤ weight x) × (weight x ≤ 2 * length x)
bounds [] = (omega arith, omega arith)
bounds (b ∷ x) = let first = one_or_two (b == 10) in let more = bounds x in (omega (arith, first.0, more.0), omega (arith, first.1, more.1))

digit : (m : ℕ) → m < 10 → weight ((48 + m) ∷ []) ≡ 1
digit m small = let other : ((48 + m) == 10) ≡ false = grind (arith, nat_tests) in rw other refl

number : (n : ℕ) → n < 2 ^ 64 → weight (decimal n) ≡ length (decimal n)
number n small = decimal_by_steps (λ m ds. weight ds ≡ length ds) digit
    (λ m ds l h. omega (arith, h, digit (m % 10) (omega arith), weight_both ds ((48 + m % 10) ∷ []), length-append ds ((48 + m % 10) ∷ [])))
    n small

price : (z : ℤ) → IsPrice z → weight (price_text z) ≤ 14
price (pos n) h =
    let short = length_signed_le 6 (pos n) (omega (arith, ints)) (omega (arith, ints)) in
    omega (arith, short, (bounds (price_text (pos n))).1)
price (negsuc n) h =
    let short = length_signed_le 6 (negsuc n) (omega (arith, ints)) (omega (arith, ints)) in
    omega (arith, short, (bounds (price_text (negsuc n))).1)

pair : (p : Pair) → IsPeriod p.0 → IsQuantity p.1 → weight (pair_text p) ≤ 9
pair p h g =
    let period = length-decimal-le 3 p.0 (omega arith) (omega arith) (omega arith) in
    let volume = length-decimal-le 5 p.1 (omega arith) (omega arith) (omega arith) in
    omega (arith, period, volume, number p.0 (omega arith), number p.1 (omega arith), weight_both (decimal p.0) (58 ∷ decimal p.1))

volumes : (ps : List Pair) → ArePairs ps → weight (volumes_text ps) ≤ 10 * length ps
volumes [] h = omega arith
volumes (p ∷ []) h = omega (arith, pair p h.0 h.1)
volumes (p ∷ q ∷ ps) h =
    omega (arith, pair p h.0 h.1, volumes (q ∷ ps) h.2, weight_both (pair_text p) (59 ∷ volumes_text (q ∷ ps)))

optional : (name : Option (List ℕ)) → IfSome name IsName → weight (optional_text name) ≤ 24
optional None h = omega arith
optional (Some x) h = omega (arith, h.fits, (bounds x).1)

side : (s : Side) → weight (side_word s) ≤ 4
side Buy = omega arith
side Sell = omega arith

-- each field, and the byte after it
abbrev weights : Fields → ℕ
weights [] = 0
weights (x ∷ xs) = weight x + 1 + weights xs

joined : (x : List ℕ) (xs : Fields) → weight (join_with_byte 44 (x ∷ xs)) + 1 ≡ weights (x ∷ xs)
joined x [] = omega arith
joined x (y ∷ ys) = let more = joined y ys in omega (arith, more, weight_both x (44 ∷ join_with_byte 44 (y ∷ ys)))

line_weight : (x : List ℕ) (xs : Fields) → weight (record_line (x ∷ xs)) ≡ weights (x ∷ xs) + 1
line_weight x xs = omega (arith, joined x xs, weight_both (join_with_byte 44 (x ∷ xs)) (10 ∷ []))

names : (who name : List ℕ) → IsParticipant who → IsName name → weight who + weight name ≤ 40
names who name h g = omega (arith, h.fits, g.fits, (bounds who).1, (bounds name).1)

order_weight : (o : Order) → IsOrder o → weights (order_fields o) ≤ 1077
order_weight (Hour o) h = omega (arith, side o.side, price o.price h.price, pair (o.period, o.qty) h.period h.qty)
order_weight (Block o) h =
    let few = h.volumes.fits in
    let given = volumes o.volumes h.volumes.ranges in
    omega (arith, few, given, side o.side, price o.price h.price, optional o.parent h.parent, optional o.group h.group)

abbrev most_weight : ℕ
most_weight = 1127

command : (c : Command) → IsCommand c → weight (command_line c) ≤ most_weight
command (Submit who name order) h =
    let line = line_weight (codes "submit") (who ∷ name ∷ order_fields order) in
    omega (arith, line, names who name h.0 h.1, order_weight order h.2)
command (Amend who name cents pairs) h =
    let line = line_weight (codes "amend") (who ∷ name ∷ [] ∷ [] ∷ price_text cents ∷ volumes_text pairs ∷ [] ∷ [] ∷ []) in
    let few = h.3.fits in
    omega (arith, line, few, names who name h.0 h.1, price cents h.2, volumes pairs h.3.ranges)
command (Cancel who name) h =
    let line = line_weight (codes "cancel") (who ∷ name ∷ [] ∷ [] ∷ [] ∷ [] ∷ [] ∷ [] ∷ []) in
    omega (arith, line, names who name h.0 h.1)
command Close h = omega (arith, line_weight (codes "close") ([] ∷ [] ∷ [] ∷ [] ∷ [] ∷ [] ∷ [] ∷ [] ∷ []))

commands_weight : (commands : List Command) → AllByRecursion IsCommand commands
    → weight (flat_map command_line commands) ≤ most_weight * length commands
commands_weight [] h = omega arith
commands_weight (c ∷ cs) h =
    omega (arith, command c h.0, commands_weight cs h.1, weight_both (command_line c) (flat_map command_line cs))

day_weight : (periods : ℕ) → is_day periods ≡ true → weight (record_line (record_of_day periods)) ≤ most_weight
day_weight periods day =
    let few : periods ≤ 100 = grind (arith, nat_tests) in
    let short = length-decimal-le 3 periods (omega arith) (omega arith) (omega arith) in
    let line = line_weight (codes "day") (decimal periods ∷ [] ∷ [] ∷ [] ∷ [] ∷ [] ∷ [] ∷ [] ∷ []) in
    omega (arith, line, short, number periods (omega arith))

journal_weight : (journal : Option JournalContent) → ReadsBack journal → weight (desk_journal_text journal) ≤ most_weight * most_records
journal_weight None reads = omega arith
journal_weight (Some journal) reads =
    let records = reads.records in
    let first = day_weight journal.periods records.day in
    let more = commands_weight journal.commands records.valid in
    let both = weight_both (record_line (record_of_day journal.periods)) (flat_map command_line journal.commands) in
    omega (arith, first, more, both, ap length records.written, records.few, length-map journal.commands record_of_command)

marked_length : (lines : List (List ℕ)) → length (marked lines) ≤ weight (text_of lines)
marked_length [] = omega arith
marked_length (line ∷ lines) =
    omega (arith, marked_length lines, (bounds line).0, length-append line (10 ∷ marked lines), weight_both line (10 ∷ text_of lines))

pub has_room : (lines : List (List ℕ)) (journal : Option JournalContent) → ReadsBack journal → text_of lines ≡ desk_journal_text journal
    → most_file_bytes ≤ length (bytes_on_disk lines) → ⊥
has_room lines journal reads text full =
    let head : length head_line ≡ 12 = refl in
    omega (arith, head, journal_weight journal reads, marked_length lines, ap weight text, length-append head_line (marked lines))
