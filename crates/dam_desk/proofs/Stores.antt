-- A desk's store, from one call to the next.
use Rattle.std.proofs.Common.{◌≡◌, ℕ, [], ◌++◌, Result, Ok, Err, IsTrue, false, not, refl, sym, ap, ◌∙◌, append-nil}
use Rattle.std.proofs.lemmas.Result.{on_ok_weaker}
use Rattle.sqlite_disk.specs.declared.Disk.{Ghosts}
use Rattle.dam_store.specs.Store.{disk_of, held_lines, is_broken}
use Rattle.dam_store.specs.declared.store.Store.{Store}
use Rattle.dam_desk.specs.Desk.{IsStoreAfter, KeepsLines}
use Rattle.dam_desk.specs.Faults.{fault_after, is_failed_sync}
use Rattle.dam_desk.specs.declared.fault.DeskFault.{DeskFault}
use Rattle.dam_desk.proofs.Crashes.{grown_more, keeps_first}
use Rattle.dam_desk.proofs.Ends.{sync_after}

-- a store that is ready, and wasn't called
pub store_start : {D T : Type 0} {g : Ghosts D} (store : Store D g) (done : T) → is_broken store ≡ false
    → (IsTrue (g.is_clean (disk_of store)) → KeepsLines (g.may_leave (disk_of store)) (held_lines store))
    → IsTrue (g.is_usable (disk_of store)) → IsStoreAfter store store (Ok done)
store_start store done ready keeps usable = record {
  ready = ready;
  no_fault = refl;
  grown = λ clean. ([], sym (append-nil (held_lines store)));
  clean = refl;
  crash = keeps;
  usable = usable;
}

-- the next call
pub store_then : {D T U : Type 0} {g : Ghosts D} (old mid new : Store D g) {done : T} (result : Result U DeskFault)
    → IsStoreAfter old mid (Ok done) → IsStoreAfter mid new result → IsStoreAfter old new result
store_then {D} {T} {U} {g} old mid new result first then =
    record {
      ready = then.ready;
      no_fault = on_ok_weaker result (λ same. same ∙ first.no_fault) then.no_fault;
      grown = on_ok_weaker result (λ grown clean.
          let before = first.grown (sym then.clean ∙ clean) in
          let more = grown clean in
          (before.0 ++ more.0, grown_more (held_lines old) (held_lines mid) (held_lines new) before.0 more.0 before.1 more.1)) then.grown;
      clean = then.clean ∙ first.clean;
      crash = λ clean.
          let before = first.grown (sym then.clean ∙ clean) in
          keeps_first (g.may_leave (disk_of new)) (held_lines old) (held_lines mid) before.0 before.1 (then.crash clean);
      usable = then.usable;
    }

-- the result of a call, as another
pub store_done : {D T U : Type 0} {g : Ghosts D} (old new : Store D g) {done : T} (other : U) → IsStoreAfter old new (Ok done)
    → IsStoreAfter old new (Ok other)
store_done old new other is = record {
  ready = is.ready;
  no_fault = is.no_fault;
  grown = is.grown;
  clean = is.clean;
  crash = is.crash;
  usable = is.usable;
}

-- the fault, as one of a longer text
pub store_told : {D T U : Type 0} {g : Ghosts D} (old new : Store D g) (printed : ℕ) (fault told : DeskFault) → told ≡ fault_after printed fault
    → IsStoreAfter {T = T} old new (Err fault) → IsStoreAfter {T = U} old new (Err told)
store_told old new printed fault told same is = record {
  ready = tt;
  no_fault = tt;
  grown = tt;
  clean = is.clean;
  crash = is.crash;
  usable = is.usable ∙ ap not (sym (ap is_failed_sync same ∙ sync_after printed fault));
}
