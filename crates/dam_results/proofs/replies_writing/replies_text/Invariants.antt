-- The text so far is the day's line and the lines of the entries before this one.
use Rattle.std.proofs.Common.{◌≡◌, take}
use Rattle.dam_results.specs.Replies
use Rattle.dam_results.proofs.replies_writing.replies_text.Given as goal

abbrev pub invariant-loop-entry : goal.invariant-loop-entry
invariant-loop-entry g l = l.text.items ≡ Replies.replies_text l.fn.periods (take l.entry-index l.entries)
