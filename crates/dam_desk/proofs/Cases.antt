-- Proofs by the cases of a fault.
use Rattle.std.proofs.Common.{◌≡◌, ◌+◌, ◌-◌, ◌^◌, ℕ, min, List, Option}
use Rattle.dam_device.specs.Device.{TakesFront}
use Rattle.dam_store.specs.declared.fault.StoreFault.{StoreFault}
use Rattle.dam_store.specs.declared.fault.StoreFault.TheVariants as store
use Rattle.dam_desk.specs.Faults.{IsWritingFault, fault_after, of_store}
use Rattle.dam_desk.specs.declared.fault.DeskFault.{DeskFault}
use Rattle.dam_desk.specs.declared.fault.DeskFault.TheVariants.{File, OwnOutput, Store, NotAJournal, Respelled, Read, Write, Memory}

-- a store's fault, and the desk's
pub by_store : (P : StoreFault → DeskFault → Type 0) → P store.Memory Memory
    → ((fault : StoreFault) → (fault ≡ store.Memory → ⊥) → P fault (Store fault)) → (fault : StoreFault) → P fault (of_store fault)
by_store P memory other store.Memory = memory
by_store P memory other store.NotAStore = other store.NotAStore (λ same. cc)
by_store P memory other store.TooLong = other store.TooLong (λ same. cc)
by_store P memory other store.Full = other store.Full (λ same. cc)
by_store P memory other store.Broken = other store.Broken (λ same. cc)
by_store P memory other (store.Read error) = other (store.Read error) (λ same. cc)
by_store P memory other (store.Write error) = other (store.Write error) (λ same. cc)
by_store P memory other (store.Sync error) = other (store.Sync error) (λ same. cc)

-- a fault, and that of a longer text
pub by_after : (P : DeskFault → Type 0) (printed : ℕ) → ((written : ℕ) → P (Write written) → P (Write (min (printed + written) (2 ^ 64 - 1))))
    → (fault : DeskFault) → P fault → P (fault_after printed fault)
by_after P printed more (File why) is = is
by_after P printed more OwnOutput is = is
by_after P printed more (Store why) is = is
by_after P printed more (NotAJournal why) is = is
by_after P printed more Respelled is = is
by_after P printed more Read is = is
by_after P printed more (Write written) is = more written is
by_after P printed more Memory is = is

-- a fault of the writer
pub by_writing : (old new : Option (List ℕ)) (text : List ℕ) (P : DeskFault → Type 0)
    → ((written : ℕ) → TakesFront old new written text → P (Write written)) → (fault : DeskFault) → IsWritingFault old new text fault → P fault
by_writing old new text P writes (File why) is = absurd is
by_writing old new text P writes OwnOutput is = absurd is
by_writing old new text P writes (Store why) is = absurd is
by_writing old new text P writes (NotAJournal why) is = absurd is
by_writing old new text P writes Respelled is = absurd is
by_writing old new text P writes Read is = absurd is
by_writing old new text P writes (Write written) is = writes written is
by_writing old new text P writes Memory is = absurd is
