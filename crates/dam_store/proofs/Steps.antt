-- What a crash leaves after one write to a file that is known.
use Rattle.std.proofs.Common.{◌≡◌, ℕ, List, ◌∙◌, sym, subst}
use Rattle.sqlite_disk.specs.Disk.{Torn, Follows, Only}
use Rattle.sqlite_disk.specs.declared.Disk.{Ghosts}
use Rattle.dam_store.specs.FileLines.{lines_in, StandsFor}
use Rattle.dam_store.specs.inside.Shape.{IsAtRest}
use Rattle.dam_store.specs.inside.Synced.{IsRepaired}
use Rattle.dam_store.proofs.Rest.{rest_lines, closed_from}

module _ {D : Type 0} (g : Ghosts D) (old new : D) (bytes : List ℕ) (same : g.seen old ≡ bytes) (at n : ℕ) where
  pub crash_step : (P : List ℕ → Type 0) → Only (g.seen old) (g.may_leave old) → Follows (Torn at n) (g.may_leave old) (g.may_leave new)
      → ((c : List ℕ) → Torn at n bytes c → P c) → (file : List ℕ) → g.may_leave new file → P file
  crash_step P only follows each file left =
      let from = follows file left in
      each file (subst (λ (f : List ℕ). Torn at n f file) (only from.0 from.1 ∙ same) from.2)

  pub seen_step : Torn at n (g.seen old) (g.seen new) → Torn at n bytes (g.seen new)
  seen_step torn = subst (λ (f : List ℕ). Torn at n f (g.seen new)) same torn

pub opened_from : {D : Type 0} (g : Ghosts D) (disk : D) (bytes : List ℕ) (end : ℕ) (lines : List (List ℕ))
    → IsAtRest (g.seen disk) end lines → StandsFor lines bytes → IsRepaired g disk bytes end
opened_from g disk bytes end lines rest stands =
    let same : lines ≡ lines_in (g.seen disk) = sym (rest_lines (g.seen disk) end lines rest) in
    record {
      closed = closed_from (g.seen disk) end lines rest;
      stands = subst (λ (ls : List (List ℕ)). StandsFor ls bytes) same stands;
    }
