use Rattle.std.proofs.Common.{Some, None, ap₂}
use Rattle.dam_book.specs.Book.{run}
use Rattle.dam_results.specs.Replies.{replies_to}
use Rattle.dam_desk.specs.DeskJournal.{desk_journal_text}
use Rattle.dam_desk.proofs.laws.journals_are_unambiguous.Goals as goal

pub returns : goal.returns
returns c None reads = tt
returns c (Some journal) reads =
    let text = desk_journal_text (Some journal) in
    let periods = journal.periods in
    let commands = journal.commands in
    record {
      legal = c.histories_are_runs.ensures.legal periods commands;
      entries = c.histories_are_runs.ensures.commands periods commands;
      one_reading = λ p cs also.
          let same = c.text_is_one_journal.ensures text p periods cs commands also reads in
          (ap₂ replies_to same.0 same.1, ap₂ run same.0 same.1);
    }
