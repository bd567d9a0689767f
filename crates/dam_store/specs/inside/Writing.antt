-- What a call that writes a file leaves, and its faults.
use Rattle.std.specs.Prelude.{◌≡◌, ◌⊎◌, true, not, Result, IfErr, OnOk}
use Rattle.sqlite_disk.specs.Disk.{MoreFaults}
use Rattle.sqlite_disk.specs.declared.Disk.{Ghosts}
use Rattle.dam_store.specs.Faults.{is_failed_sync, is_failed_write, is_failure}
use Rattle.dam_store.specs.declared.fault.StoreFault.{StoreFault}
use Rattle.dam_store.specs.declared.fault.StoreFault.TheVariants.{Memory}

-- The disk counts a fault exactly if a call of it failed. Only a write or a sync can fail, or memory runs out before the first.
-- A sync failed exactly if the disk can't be used any more.
pub record OnlyWrites {D T : Type 0} (g : Ghosts D) (old new : D) (result : Result T StoreFault) : Type 0 where
  pub clean : g.is_clean new ≡ g.is_clean old
  pub faults : OnOk result (g.faults new ≡ g.faults old)
  pub failure : IfErr result (λ fault. is_failure fault ≡ true → MoreFaults (g.faults old) (g.faults new))
  pub failed : IfErr result (λ fault. (is_failed_write fault ≡ true) ⊎ ((fault ≡ Memory) × (new ≡ old)))
  pub usable : IfErr result (λ fault. g.is_usable new ≡ not (is_failed_sync fault))
