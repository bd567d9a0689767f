use Rattle.dam_desk.proofs.Meanings.{one_meaning}
use Rattle.dam_desk.proofs.laws.lines_have_one_meaning.Goals as goal

pub returns : goal.returns
returns c = one_meaning c.text_is_one_journal.ensures c.fault_is_no_journal.ensures c.text_has_one_fault.ensures
