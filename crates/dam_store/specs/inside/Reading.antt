-- What a call that only reads a file leaves, and its faults.
use Rattle.std.specs.Prelude.{◌≡◌, true, false, Result, IsTrue, IfErr, OnOk}
use Rattle.sqlite_disk.specs.Disk.{MoreFaults}
use Rattle.sqlite_disk.specs.declared.Disk.{Ghosts}
use Rattle.dam_store.specs.Store.{IsUntouched}
use Rattle.dam_store.specs.Faults.{is_failure, is_refused_file, IsRefused}
use Rattle.dam_store.specs.declared.fault.StoreFault.{StoreFault}

-- The file is untouched. The disk counts a fault exactly if a call of it failed, and a file that is refused has a cause.
pub record OnlyReads {D T : Type 0} (g : Ghosts D) (old new : D) (result : Result T StoreFault) : Type 0 where
  pub untouched : IsUntouched g old new
  pub clean : IsTrue (g.is_clean new) → IsTrue (g.is_clean old)
  pub no_fault : OnOk result (g.faults new ≡ g.faults old)
  pub failure : IfErr result (λ fault. is_failure fault ≡ true → MoreFaults (g.faults old) (g.faults new))
  pub no_failure : IfErr result (λ fault. is_failure fault ≡ false → g.faults new ≡ g.faults old)
  pub refusal : IfErr result (λ fault. is_refused_file fault ≡ true → IsTrue (g.is_clean new) → IsRefused (g.seen old) fault)
