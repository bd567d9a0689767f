-- The commands of the entries so far are written.
use Rattle.dam_results.proofs.WriterLines.{WroteEntries}
use Rattle.dam_results.proofs.journal_writing.journal_text.Given as goal

abbrev pub invariant-loop-entry : goal.invariant-loop-entry
invariant-loop-entry l = WroteEntries l.writer l.fn.periods l.entries l.entry-index
