-- The written text is the text of a journal, and it reads back as its commands.
use Rattle.std.proofs.lemmas.Result.{IfOk-weaker}
use Rattle.dam_results.specs.Written.{journal_text}
use Rattle.dam_results.proofs.ReadBack.{reads_journal_text}
use Rattle.dam_results.proofs.WriterLines.{wrote_all}
use Rattle.dam_results.proofs.journal_writing.journal_text.Goals as goal

pub returns-clause-text : goal.returns-clause-text
returns-clause-text c =
    let all = wrote_all _ _ _ _ c.loop-entry-test.false c.loop-entry.invariant in
    IfOk-weaker c.into_text.result _ _ (λ text is. is (journal_text c.args.periods c.args.entries.now) all.1) c.into_text.ensures

pub returns-clause-reads : goal.returns-clause-reads
returns-clause-reads c =
    let all = wrote_all _ _ _ _ c.loop-entry-test.false c.loop-entry.invariant in
    IfOk-weaker c.into_text.result _ _ (λ text is. rw (is (journal_text c.args.periods c.args.entries.now) all.1)
    (reads_journal_text c.args.periods c.args.entries.now c.begin.ensures.valid all.0 c.requires)) c.into_text.ensures
