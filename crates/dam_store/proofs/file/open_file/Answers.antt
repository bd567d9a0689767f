use Rattle.std.proofs.Common.{Bool, List, ℕ, [], inl, inr, if◌then◌else◌, sym, subst}
use Rattle.sqlite_disk.specs.Disk.{Only}
use Rattle.sqlite_disk.specs.Events.{Model, replay}
use Rattle.sqlite_disk.specs.History.{MayLeave}
use Rattle.dam_store.proofs.file.open_file.Goals as goal

-- without steps, all that was written is synced
only_synced : (is_mixing : Bool) (bytes : List ℕ) → Only bytes (MayLeave is_mixing bytes bytes [])
only_synced is_mixing bytes file (inl same) = same
only_synced is_mixing bytes file (inr same) = same

-- the file was only settled
pub returns-clause-synced : goal.returns-clause-synced
returns-clause-synced g c =
    let fresh = c.in_ok-files.ensures.fresh.1 in
    let db = g.S.Start.db in
    subst (λ (m : Model). Only db (MayLeave g.S.Start.is_mixing m.seen m.synced m.steps))
    (sym (λ i. replay (if fresh.0 i then g.S.Start.log else db) (fresh.1 i))) (only_synced g.S.Start.is_mixing db)
