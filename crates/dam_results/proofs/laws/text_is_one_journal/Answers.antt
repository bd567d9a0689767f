-- Different days and commands are written as different records.
use Rattle.dam_results.specs.Records.{records_of}
use Rattle.dam_results.proofs.RecordsDiffer.{AreRecords-one}
use Rattle.dam_results.proofs.laws.text_is_one_journal.Goals as goal

pub returns : goal.returns
returns c = λ text periods others commands more h k.
    AreRecords-one (record { prices = c.price_texts_differ.ensures; volumes = c.volumes_texts_differ.ensures })
    (records_of text) periods others commands more h.records k.records
