-- The laws of the journal that a text reads as.
use Rattle.dam_engines.proofs.Exact.{day-exact}
use Rattle.dam_engines.proofs.laws.day_is_exact.Goals as goal

pub returns : goal.returns
returns c = day-exact (record { one = c.text_is_one_journal.ensures; sound = c.fault_is_no_journal.ensures })
