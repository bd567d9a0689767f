-- The devices of a run that ends with a fault which isn't of a device, and of one whose writer failed.
use Rattle.std.proofs.Common.{◌≡◌, ℕ, true, false, List, [], ◌≤◌, ◌+◌, take, Option, Some, None, Result, Ok, Err, OnOk, IfErr, MatchResult, refl, arith}
use Rattle.std.proofs.lemmas.List.{length-take}
use Rattle.dam_device.specs.Device.{SourceState, SinkState, IsFlushedOnce}
use Rattle.dam_engines.specs.declared.fault.RunFault.{RunFault}
use Rattle.dam_engines.specs.declared.fault.RunFault.TheVariants.{Read, Input, TooManyCommands, CloseGiven, TooManyParticipants, StillOpen}
use Rattle.dam_engines.specs.declared.fault.RunFault.TheVariants.{Mismatch, Unfinished, AnswerMissingOrRepeated, Memory, Write}
use Rattle.dam_engines.specs.Device.{GivesAll, GivesFront, HasServed, AreDevicesAfter}
use Rattle.dam_engines.specs.Engine.{most_read, IsWritingFault}
use Rattle.dam_engines.proofs.Cuts.{cut-told}

-- all bytes are some of the first
front-of-all : (old new : Option (List ℕ)) → GivesAll old new → GivesFront old new
front-of-all None new all = record { front = []; few = omega arith; given = tt }
front-of-all (Some given) new all = record { front = take most_read given; few = omega (arith, length-take most_read given); given = all }

-- a fault that isn't a device's, after which neither has failed and nothing is written
pub neither-failed : {R W : Type 0} (Fails : RunFault → Type 0) (reader_old reader_new : SourceState R) (writer : SinkState W)
    → ¬ (Fails Read) → ((written : ℕ) → ¬ (Fails (Write written)))
    → HasServed reader_old reader_new → writer.failed ≡ false
    → (fault : RunFault) → Fails fault → AreDevicesAfter reader_old reader_new writer writer (Err fault)
neither-failed Fails ro rn w no_read no_write read unfailed Read is = absurd (no_read is)
neither-failed Fails ro rn w no_read no_write read unfailed (Input why) is = (read, (unfailed, refl))
neither-failed Fails ro rn w no_read no_write read unfailed TooManyCommands is = (read, (unfailed, refl))
neither-failed Fails ro rn w no_read no_write read unfailed (CloseGiven at) is = (read, (unfailed, refl))
neither-failed Fails ro rn w no_read no_write read unfailed (TooManyParticipants at) is = (read, (unfailed, refl))
neither-failed Fails ro rn w no_read no_write read unfailed StillOpen is = (read, (unfailed, refl))
neither-failed Fails ro rn w no_read no_write read unfailed (Mismatch why) is = (read, (unfailed, refl))
neither-failed Fails ro rn w no_read no_write read unfailed (Unfinished piece visited) is = (read, (unfailed, refl))
neither-failed Fails ro rn w no_read no_write read unfailed (AnswerMissingOrRepeated piece) is = (read, (unfailed, refl))
neither-failed Fails ro rn w no_read no_write read unfailed Memory is = ((read.0, front-of-all ro.unread rn.unread read.1), (unfailed, refl))
neither-failed Fails ro rn w no_read no_write read unfailed (Write count) is = absurd (no_write count is)

-- a run of which the reader gave all, and whose text was then written
pub written-devices : {R W : Type 0} (reader_old reader_new : SourceState R) (writer_old writer_new : SinkState W)
    (old new : Option (List ℕ)) (sent : List ℕ) (result : Result (Unit {0}) RunFault)
    → HasServed reader_old reader_new → IfErr result (IsWritingFault old new sent)
    → OnOk result (IsFlushedOnce writer_old writer_new) → writer_new.flushes ≤ writer_old.flushes + 1
    → MatchResult result (λ _. writer_new.failed ≡ false) (λ _. writer_new.failed ≡ true)
    → AreDevicesAfter reader_old reader_new writer_old writer_new result
written-devices ro rn wo wn old new sent (Ok done) read cut flushed few cause = (read, cause, flushed)
written-devices ro rn wo wn old new sent (Err fault) read cut flushed few cause =
    cut-told (λ why. AreDevicesAfter ro rn wo wn (Err why)) old new sent (λ written. (read, (cause, few))) fault cut
