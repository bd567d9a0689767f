-- A command in no more memory than it needs.
use Rattle.std.specs.Prelude.{[], ◌∷◌}
use Rattle.std.specs.Arc.{arc_value}
use Rattle.dam_book.specs.declared.command.Command.{Command}
use Rattle.dam_book.specs.declared.command.Command.TheVariants.{Submit, Amend, Cancel, Close}
use Rattle.dam_book.specs.declared.order.Order.TheVariants.{Hour}
use Rattle.dam_book.specs.declared.packed.Packing.{Packing}
use Rattle.dam_book.specs.declared.packed.Packing.TheVariants.{Hour as PackedHour, Amend as PackedAmend, Cancel as PackedCancel, Close as PackedClose, Whole}

-- the packed command
abbrev pub command_of : {A : Type 0} → Packing A → Command
command_of (PackedHour who name order) = Submit who name (Hour order)
command_of (PackedAmend who name price period volume) = Amend who name price ((period, volume) ∷ [])
command_of (PackedCancel who name) = Cancel who name
command_of PackedClose = Close
command_of (Whole shared) = arc_value shared
