-- The commands taken so far are those of the records that the reader gave, and it has the others left.
use Rattle.std.proofs.Common.{◌≡◌, ◌≤◌, ◌+◌, ℕ, true, [], length}
use Rattle.dam_book.specs.Book.{is_day}
use Rattle.dam_results.specs.Limits.{most_records}
use Rattle.dam_results.specs.inside.Reader.{records_left}
use Rattle.dam_results.proofs.FaultFound.{ReadsInto}
use Rattle.dam_results.proofs.journal_reading.take_records.Given as goal

abbrev pub invariant-loop-number : goal.invariant-loop-number
invariant-loop-number g l = record {
  few : l.number + 1 ≤ most_records;
  reads : (periods : ℕ) → is_day periods ≡ true → g.T.FromJournal.made_of periods [] l.initial.made
      → ReadsInto (g.T.FromJournal.made_of) periods (records_left l.initial.records) (records_left l.records) l.number l.made;
}

abbrev pub decreases-loop-number : goal.decreases-loop-number
decreases-loop-number g l = length (records_left l.records)
