-- The writer gives the text that it has written.
use Rattle.dam_results.proofs.WriterLines.{wrote_text}
use Rattle.dam_results.proofs.journal_writing.JournalWriter.into_text.Goals as goal

pub returns-in-Ok : goal.returns-in-Ok
returns-in-Ok c = λ written wrote. wrote_text _ c.in-Ok.text written wrote c.in-Ok.ensures.ok
