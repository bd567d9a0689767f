-- The bytes written so far are the text of the pairs so far.
use Rattle.std.proofs.Common.{◌≡◌, ◌++◌, take}
use Rattle.dam_book.proofs.FieldTexts.{parted}
use Rattle.dam_book.proofs.fields.append_pairs_or_part.Given as goal

abbrev pub invariant-loop-pair : goal.invariant-loop-pair
invariant-loop-pair g l = l.out.items ≡ l.initial.out.items ++ parted (take l.pair-index l.rest)
