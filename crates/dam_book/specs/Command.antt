-- Who gives a command, whether a journal has room for it, and whether it is a small one.
use Rattle.std.specs.Prelude.{ℕ, ◌-◌, Bool, true, false, nat_le, List, [], ◌∷◌, Option, None, Some, is_some, if◌then◌else◌}
use Rattle.dam_book.specs.declared.command.Command.{Command}
use Rattle.dam_book.specs.declared.command.Command.TheVariants.{Submit, Amend, Cancel, Close}
use Rattle.dam_book.specs.declared.order.Order.TheVariants.{Hour, Block}
use Rattle.dam_book.specs.Limits.{most_entries}

-- who gives the command; a close has no participant
abbrev pub giver : Command → Option (List ℕ)
giver (Submit who name order) = Some who
giver (Amend who name price volumes) = Some who
giver (Cancel who name) = Some who
giver Close = None

-- whether a journal of `entry_count` entries has no room for the command: the last entry is kept for a close
abbrev pub is_journal_full : ℕ → Command → Bool
is_journal_full entry_count c = nat_le (if is_some (giver c) then most_entries - 1 else most_entries) entry_count

-- whether the command has at most one volume: a submit of an hourly order, an amend of one period, a cancel or a close
abbrev pub is_small : Command → Bool
is_small (Submit who name (Hour order)) = true
is_small (Submit who name (Block order)) = false
is_small (Amend who name price (pair ∷ [])) = true
is_small (Amend who name price volumes) = false
is_small (Cancel who name) = true
is_small Close = true
