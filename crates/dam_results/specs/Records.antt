-- The records of a text, and the record that each command is written as.
use Rattle.std.specs.Prelude.{ℕ, List, [], ◌∷◌, Option, None, Some, decimal, codes}
use Rattle.csv.specs.Reading.{default_config, records}
use Rattle.dam_book.specs.Fields.{price_text, volumes_text}
use Rattle.dam_book.specs.declared.order.Side.{Side}
use Rattle.dam_book.specs.declared.order.Side.TheVariants.{Buy, Sell}
use Rattle.dam_book.specs.declared.order.Order.{Order}
use Rattle.dam_book.specs.declared.order.Order.TheVariants.{Hour, Block}
use Rattle.dam_book.specs.declared.command.Command.{Command}
use Rattle.dam_book.specs.declared.command.Command.TheVariants.{Submit, Amend, Cancel, Close}

-- a record: its fields, each the list of its bytes
abbrev pub Fields : Type 0
Fields = List (List ℕ)

-- the records of a text, as the reader of comma-separated values has them: with the comma as
-- delimiter, the double quote as quote, no header and any number of fields; CR, LF or both end a
-- record, and an empty line is none
abbrev pub records_of : List ℕ → List Fields
records_of text = records default_config text

-- the first field, which is the kind of the record (never used without a field, as each record has
-- one)
abbrev pub kind_field : Fields → List ℕ
kind_field [] = []
kind_field (f ∷ fs) = f

-- the fourth field, which is the form of the order of a submit
abbrev pub form_field : Fields → List ℕ
form_field (kind ∷ who ∷ name ∷ form ∷ fs) = form
form_field fs = []

-- the record of a day of this many periods
abbrev pub record_of_day : ℕ → Fields
record_of_day periods = codes "day" ∷ decimal periods ∷ [] ∷ [] ∷ [] ∷ [] ∷ [] ∷ [] ∷ [] ∷ []

-- the word of a side
abbrev pub side_word : Side → List ℕ
side_word Buy = codes "buy"
side_word Sell = codes "sell"

-- a name, or the empty field if there is none
abbrev pub optional_text : Option (List ℕ) → List ℕ
optional_text None = []
optional_text (Some name) = name

-- the fields 4 to 9 of a submit: an hourly order has its one period and volume in field 7
abbrev pub order_fields : Order → Fields
order_fields (Hour o) =
    codes "hour" ∷ side_word o.side ∷ price_text o.price ∷ volumes_text ((o.period, o.qty) ∷ [])
    ∷ [] ∷ [] ∷ []
order_fields (Block o) =
    codes "block" ∷ side_word o.side ∷ price_text o.price ∷ volumes_text o.volumes
    ∷ optional_text o.parent ∷ optional_text o.group ∷ []

-- the record of a command
abbrev pub record_of_command : Command → Fields
record_of_command (Submit who name order) = codes "submit" ∷ who ∷ name ∷ order_fields order
record_of_command (Amend who name price volumes) =
    codes "amend" ∷ who ∷ name ∷ [] ∷ [] ∷ price_text price ∷ volumes_text volumes ∷ [] ∷ [] ∷ []
record_of_command (Cancel who name) = codes "cancel" ∷ who ∷ name ∷ [] ∷ [] ∷ [] ∷ [] ∷ [] ∷ [] ∷ []
record_of_command Close = codes "close" ∷ [] ∷ [] ∷ [] ∷ [] ∷ [] ∷ [] ∷ [] ∷ [] ∷ []
