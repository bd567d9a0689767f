-- Every text is a journal or has a fault.
use Rattle.dam_results.proofs.EveryText.{decided_text}
use Rattle.dam_results.proofs.laws.text_is_journal_or_faulty.Goals as goal

pub returns : goal.returns
returns c = decided_text
