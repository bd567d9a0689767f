-- Written records: different commands have different records, and each keeps its rules.
use Rattle.std.proofs.Common.{◌≡◌, ℕ, ℤ, ◌^◌, ◌<◌, true, List, [], ◌∷◌, length, get_or, Option, None, Some, IfSome, map, refl, sym, ap, ◌∙◌, arith}
use Rattle.std.proofs.Common.{decimal}
use Rattle.std.specs.List.{AllByRecursion}
use Rattle.std.proofs.lemmas.Fmt.{decimal_injective}
use Rattle.dam_book.specs.Price.{IsPrice}
use Rattle.dam_book.specs.Volumes.{Pair, IsVolumes}
use Rattle.dam_book.specs.Fields.{price_text, volumes_text}
use Rattle.dam_book.specs.Name.{IsName}
use Rattle.dam_book.specs.Terms.{HourTerms, BlockTerms, IsHourOrder, IsBlockOrder}
use Rattle.dam_book.specs.Order.{IsOrder}
use Rattle.dam_book.specs.Book.{is_day}
use Rattle.dam_book.specs.declared.order.Side.{Side}
use Rattle.dam_book.specs.declared.order.Side.TheVariants.{Buy, Sell}
use Rattle.dam_book.specs.declared.order.Order.{Order}
use Rattle.dam_book.specs.declared.order.Order.TheVariants.{Hour, Block}
use Rattle.dam_book.specs.declared.command.Command.{Command}
use Rattle.dam_book.specs.declared.command.Command.TheVariants.{Submit, Amend, Cancel, Close}
use Rattle.dam_results.specs.Records.{Fields, kind_field, record_of_day, record_of_command, order_fields, optional_text, side_word}
use Rattle.dam_results.specs.Journal.{AreRecords, IsCommand}
use Rattle.dam_results.proofs.Rules.{one_volume, short_day}

-- the facts that are required of the texts of prices and volumes
pub record TextsDiffer : Type 0 where
  pub prices : (p q : ℤ) → IsPrice p → IsPrice q → price_text p ≡ price_text q → p ≡ q
  pub volumes : (v w : List Pair) → IsVolumes v → IsVolumes w → volumes_text v ≡ volumes_text w → v ≡ w

abbrev terms : Side → ℤ → ℕ → ℕ → HourTerms
terms side price period qty = record { side = side; price = price; period = period; qty = qty }

side_word-injective : (a b : Side) → side_word a ≡ side_word b → a ≡ b
side_word-injective Buy Buy e = refl
side_word-injective Buy Sell e = absurd cc
side_word-injective Sell Buy e = absurd cc
side_word-injective Sell Sell e = refl

abbrev first_pair : List Pair → Pair
first_pair [] = (0, 0)
first_pair (p ∷ ps) = p

same_terms : (s t : Side) (p q : ℤ) (i j x y : ℕ) → s ≡ t → p ≡ q → i ≡ j → x ≡ y → terms s p i x ≡ terms t q j y
same_terms s t p q i j x y a b d e = cc

abbrev block_terms : Side → ℤ → List Pair → Option (List ℕ) → Option (List ℕ) → BlockTerms
block_terms side price volumes parent group = record { side = side; price = price; volumes = volumes; parent = parent; group = group }

same_block : (s t : Side) (p q : ℤ) (v w : List Pair) (a b c d : Option (List ℕ)) → s ≡ t → p ≡ q → v ≡ w → a ≡ b → c ≡ d
    → block_terms s p v a c ≡ block_terms t q w b d
same_block s t p q v w a b c d e f g h k = cc

-- a name is not empty, so the text of an optional name says whether there is one
optional_text-injective : (a b : Option (List ℕ)) → IfSome a IsName → IfSome b IsName → optional_text a ≡ optional_text b → a ≡ b
optional_text-injective None None h k e = refl
optional_text-injective None (Some b) h k e = absurd (let n = k.nonempty in let l : length b ≡ 0 = ap length (sym e) in omega arith)
optional_text-injective (Some a) None h k e = absurd (let n = h.nonempty in let l : length a ≡ 0 = ap length e in omega arith)
optional_text-injective (Some a) (Some b) h k e = ap (λ (x : List ℕ). Some x) e

same_hour : TextsDiffer → (o r : HourTerms) → IsHourOrder o → IsHourOrder r → order_fields (Hour o) ≡ order_fields (Hour r) → o ≡ r
same_hour differ o r h k e =
    let sides : side_word o.side ≡ side_word r.side = cc in
    let prices : price_text o.price ≡ price_text r.price = cc in
    let texts : volumes_text ((o.period, o.qty) ∷ []) ≡ volumes_text ((r.period, r.qty) ∷ []) = cc in
    let pairs : (o.period, o.qty) ∷ [] ≡ (r.period, r.qty) ∷ [] =
    differ.volumes _ _ (one_volume o.period o.qty h.period h.qty) (one_volume r.period r.qty k.period k.qty) texts in
    same_terms _ _ _ _ _ _ _ _ (side_word-injective o.side r.side sides) (differ.prices o.price r.price h.price k.price prices)
    (ap (λ (ps : List Pair). (first_pair ps).0) pairs) (ap (λ (ps : List Pair). (first_pair ps).1) pairs)

same_block_order : TextsDiffer → (o r : BlockTerms) → IsBlockOrder o → IsBlockOrder r → order_fields (Block o) ≡ order_fields (Block r)
    → o ≡ r
same_block_order differ o r h k e =
    let sides : side_word o.side ≡ side_word r.side = cc in
    let prices : price_text o.price ≡ price_text r.price = cc in
    let volumes : volumes_text o.volumes ≡ volumes_text r.volumes = cc in
    let parents : optional_text o.parent ≡ optional_text r.parent = cc in
    let groups : optional_text o.group ≡ optional_text r.group = cc in
    same_block _ _ _ _ _ _ _ _ _ _ (side_word-injective o.side r.side sides) (differ.prices o.price r.price h.price k.price prices)
    (differ.volumes o.volumes r.volumes h.volumes k.volumes volumes) (optional_text-injective o.parent r.parent h.parent k.parent parents)
    (optional_text-injective o.group r.group h.group k.group groups)

same_order : TextsDiffer → (o r : Order) → IsOrder o → IsOrder r → order_fields o ≡ order_fields r → o ≡ r
same_order differ (Hour o) (Hour r) h k e = ap (λ (t : HourTerms). Hour t) (same_hour differ o r h k e)
same_order differ (Hour o) (Block r) h k e = absurd cc
same_order differ (Block o) (Hour r) h k e = absurd cc
same_order differ (Block o) (Block r) h k e = ap (λ (t : BlockTerms). Block t) (same_block_order differ o r h k e)

-- the second letter of its kind, which no other kind has
abbrev kind_letter : Fields → ℕ
kind_letter row = get_or (kind_field row) 1 0

record_of_command-injective : TextsDiffer → (c d : Command) → IsCommand c → IsCommand d → record_of_command c ≡ record_of_command d → c ≡ d
record_of_command-injective differ (Submit a m o) (Submit b n r) h k e =
    let who : a ≡ b = cc in
    let name : m ≡ n = cc in
    let fields : order_fields o ≡ order_fields r = cc in
    let same : o ≡ r = same_order differ o r h.2 k.2 fields in
    cc
record_of_command-injective differ (Submit a m o) (Amend b n p v) h k e = absurd (let same : 117 ≡ 109 = ap kind_letter e in omega (arith, same))
record_of_command-injective differ (Submit a m o) (Cancel b n) h k e = absurd (let same : 117 ≡ 97 = ap kind_letter e in omega (arith, same))
record_of_command-injective differ (Submit a m o) Close h k e = absurd (let same : 117 ≡ 108 = ap kind_letter e in omega (arith, same))
record_of_command-injective differ (Amend a m p v) (Submit b n r) h k e = absurd (let same : 109 ≡ 117 = ap kind_letter e in omega (arith, same))
record_of_command-injective differ (Amend a m p v) (Amend b n q w) h k e =
    let who : a ≡ b = cc in
    let name : m ≡ n = cc in
    let prices : price_text p ≡ price_text q = cc in
    let texts : volumes_text v ≡ volumes_text w = cc in
    let price : p ≡ q = differ.prices p q h.2 k.2 prices in
    let volumes : v ≡ w = differ.volumes v w h.3 k.3 texts in
    cc
record_of_command-injective differ (Amend a m p v) (Cancel b n) h k e = absurd (let same : 109 ≡ 97 = ap kind_letter e in omega (arith, same))
record_of_command-injective differ (Amend a m p v) Close h k e = absurd (let same : 109 ≡ 108 = ap kind_letter e in omega (arith, same))
record_of_command-injective differ (Cancel a m) (Submit b n r) h k e = absurd (let same : 97 ≡ 117 = ap kind_letter e in omega (arith, same))
record_of_command-injective differ (Cancel a m) (Amend b n q w) h k e = absurd (let same : 97 ≡ 109 = ap kind_letter e in omega (arith, same))
record_of_command-injective differ (Cancel a m) (Cancel b n) h k e = cc
record_of_command-injective differ (Cancel a m) Close h k e = absurd (let same : 97 ≡ 108 = ap kind_letter e in omega (arith, same))
record_of_command-injective differ Close (Submit b n r) h k e = absurd (let same : 108 ≡ 117 = ap kind_letter e in omega (arith, same))
record_of_command-injective differ Close (Amend b n q w) h k e = absurd (let same : 108 ≡ 109 = ap kind_letter e in omega (arith, same))
record_of_command-injective differ Close (Cancel b n) h k e = absurd (let same : 108 ≡ 97 = ap kind_letter e in omega (arith, same))
record_of_command-injective differ Close Close h k e = refl

rows-injective : TextsDiffer → (cs ds : List Command) → AllByRecursion IsCommand cs → AllByRecursion IsCommand ds
    → map record_of_command cs ≡ map record_of_command ds → cs ≡ ds
rows-injective differ [] [] h k e = refl
rows-injective differ [] (d ∷ ds) h k e = absurd cc
rows-injective differ (c ∷ cs) [] h k e = absurd cc
rows-injective differ (c ∷ cs) (d ∷ ds) h k e =
    let first : c ≡ d = record_of_command-injective differ c d h.0 k.0 (cc) in
    let others : cs ≡ ds = rows-injective differ cs ds h.1 k.1 (cc) in
    cc

small_day : (periods : ℕ) → is_day periods ≡ true → periods < 2 ^ 64
small_day periods day = let short = short_day periods day in omega (arith, short)

-- records are at most one journal
pub AreRecords-one : TextsDiffer → (rows : List Fields) (p q : ℕ) (cs ds : List Command) → AreRecords rows p cs → AreRecords rows q ds →
    (p ≡ q) × (cs ≡ ds)
AreRecords-one differ rows p q cs ds h k =
    let e : record_of_day p ∷ map record_of_command cs ≡ record_of_day q ∷ map record_of_command ds = sym h.written ∙ k.written in
    let texts : decimal p ≡ decimal q = cc in
    (decimal_injective p q (small_day p h.day) (small_day q k.day) texts, rows-injective differ cs ds h.valid k.valid (cc))
