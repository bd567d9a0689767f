-- Why an open desk ends.
use Rattle.std.proofs.Common.{◌≡◌, ◌⊎◌, inl, inr, ℕ, Bool, Result, Ok, Err, IsErrAnd, true, false, refl, sym, subst}
use Rattle.std.proofs.lemmas.Bool.{both_ways, cases_Bool}
use Rattle.sqlite_disk.specs.Disk.{MoreFaults}
use Rattle.dam_store.specs.Faults.{is_failed_write}
use Rattle.dam_store.specs.declared.fault.StoreFault.{StoreFault}
use Rattle.dam_store.specs.declared.fault.StoreFault.TheVariants as store
use Rattle.dam_desk.specs.Faults.{IsEndFault, fault_after, is_failed_sync as desk_failed_sync, is_read, is_write, of_store}
use Rattle.dam_desk.specs.declared.fault.DeskFault.{DeskFault}
use Rattle.dam_desk.proofs.Cases.{by_after}

-- a write or a sync failed, or the lines have no room
abbrev IsAppendFault : Bool → ℕ → ℕ → StoreFault → Type 0
IsAppendFault is_clean before after fault =
    ((is_failed_write fault ≡ true) × MoreFaults before after) ⊎ ((fault ≡ store.Full) × ((is_clean ≡ false) × (after ≡ before)))

append_fault : (is_clean : Bool) (before after : ℕ) (fault : StoreFault) (broken : Bool) → broken ≡ false
    → (is_failed_write fault ≡ true) ⊎ ((fault ≡ store.Full) ⊎ ((fault ≡ store.Broken) × (broken ≡ true)))
    → (is_failed_write fault ≡ true → MoreFaults before after) → (fault ≡ store.Full → (is_clean ≡ false) × (after ≡ before))
    → IsAppendFault is_clean before after fault
append_fault is_clean before after fault broken ready (inl failed) more full = inl (failed, more failed)
append_fault is_clean before after fault broken ready (inr (inl same)) more full = inr (same, full same)
append_fault is_clean before after fault broken ready (inr (inr earlier)) more full = absurd (both_ways broken ready earlier.1)

unless_full : (is_clean : Bool) (before after : ℕ) (fault : StoreFault) → (fault ≡ store.Full → ⊥)
    → IsAppendFault is_clean before after fault → (is_failed_write fault ≡ true) × MoreFaults before after
unless_full is_clean before after fault other (inl failed) = failed
unless_full is_clean before after fault other (inr full) = absurd (other full.0)

end_append : (is_clean : Bool) (before after : ℕ) (fault : StoreFault) → IsAppendFault is_clean before after fault
    → IsEndFault is_clean before after (of_store fault)
end_append is_clean before after store.Memory is =
    absurd (both_ways false refl (unless_full is_clean before after store.Memory (λ same. cc) is).0)
end_append is_clean before after store.NotAStore is = unless_full is_clean before after store.NotAStore (λ same. cc) is
end_append is_clean before after store.TooLong is = unless_full is_clean before after store.TooLong (λ same. cc) is
end_append is_clean before after store.Full (inl failed) = absurd (both_ways false refl failed.0)
end_append is_clean before after store.Full (inr full) = full.1
end_append is_clean before after store.Broken is = unless_full is_clean before after store.Broken (λ same. cc) is
end_append is_clean before after (store.Read error) is = unless_full is_clean before after (store.Read error) (λ same. cc) is
end_append is_clean before after (store.Write error) is = unless_full is_clean before after (store.Write error) (λ same. cc) is
end_append is_clean before after (store.Sync error) is = unless_full is_clean before after (store.Sync error) (λ same. cc) is

pub refuted : (b : Bool) → (b ≡ true → ⊥) → b ≡ false
refuted b never = elim (cases_Bool b) [ inl is ↦ absurd (never is) | inr isnt ↦ isnt ]

-- an append failed
pub end_store : (is_clean : Bool) (before after : ℕ) (fault : StoreFault) (broken : Bool) → broken ≡ false
    → (is_failed_write fault ≡ true) ⊎ ((fault ≡ store.Full) ⊎ ((fault ≡ store.Broken) × (broken ≡ true)))
    → (is_failed_write fault ≡ true → MoreFaults before after) → (fault ≡ store.Full → (is_clean ≡ false) × (after ≡ before))
    → IsEndFault is_clean before after (of_store fault)
end_store is_clean before after fault broken ready kinds more full =
    end_append is_clean before after fault (append_fault is_clean before after fault broken ready kinds more full)

pub end_counts : {is_clean was_clean : Bool} {before after was is : ℕ} (fault : DeskFault) → is_clean ≡ was_clean → before ≡ was → after ≡ is
    → IsEndFault is_clean before after fault → IsEndFault was_clean was is fault
end_counts {is_clean} {was_clean} {before} {after} {was} {is} fault same first then ends =
    subst (λ (b : Bool). IsEndFault b was is fault) same
    (subst (λ (n : ℕ). IsEndFault is_clean n is fault) first (subst (λ (n : ℕ). IsEndFault is_clean before n fault) then ends))

-- a result with this fault
pub err_is : {X : Type 0} (r : Result X DeskFault) (P : Result X DeskFault → Type 0) (fault : DeskFault) → IsErrAnd r (λ why. why ≡ fault)
    → P (Err fault) → P r
err_is (Ok x) P fault same p = absurd same
err_is {X} (Err why) P fault same p = subst (λ (told : DeskFault). P (Err told)) (sym same) p

-- a fault of a longer text is of the same kind
pub end_after : (is_clean : Bool) (before after printed : ℕ) (fault : DeskFault) → IsEndFault is_clean before after fault
    → IsEndFault is_clean before after (fault_after printed fault)
end_after is_clean before after printed fault is = by_after (IsEndFault is_clean before after) printed (λ written same. same) fault is

pub sync_after : (printed : ℕ) (fault : DeskFault) → desk_failed_sync (fault_after printed fault) ≡ desk_failed_sync fault
sync_after printed fault = by_after (λ told. desk_failed_sync told ≡ desk_failed_sync fault) printed (λ written same. same) fault refl

pub read_after : (printed : ℕ) (fault : DeskFault) → is_read (fault_after printed fault) ≡ is_read fault
read_after printed fault = by_after (λ told. is_read told ≡ is_read fault) printed (λ written same. same) fault refl

pub write_after : (printed : ℕ) (fault : DeskFault) → is_write (fault_after printed fault) ≡ is_write fault
write_after printed fault = by_after (λ told. is_write told ≡ is_write fault) printed (λ written same. same) fault refl
