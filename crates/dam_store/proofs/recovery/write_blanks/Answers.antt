use Rattle.std.proofs.Common.{◌≡◌, List, ℕ, ◌+◌, ◌-◌, ◌<◌, ◌++◌, true, length, take, drop, replicate, refl, sym, ap, ◌∙◌, arith}
use Rattle.dam_store.specs.FileLines.{StandsFor, lines_in}
use Rattle.dam_store.specs.inside.Shape.{has_newline}
use Rattle.dam_store.proofs.Rest.{blanked_torn, blanked_lines, blanked_ended, blanked_rest, blanks_are, blanks_last, newline_within}
use Rattle.dam_store.proofs.Steps.{crash_step}
use Rattle.dam_store.proofs.recovery.write_blanks.Goals as goal

-- the bytes that are written are blanks
slice_is : (rest new : List ℕ) → has_newline (drop 1 rest) ≡ true → new ≡ take 1 rest ++ replicate (length rest - 1) 32
    → take (length new - 1) (drop 1 new) ≡ replicate (length rest - 1) 32
slice_is rest new some is = let past : 1 < length rest = newline_within 1 rest some in blanks_are rest new 1 (omega arith) is

pub returns-in_err-write_and_sync-clause-crash : goal.returns-in_err-write_and_sync-clause-crash
returns-in_err-write_and_sync-clause-crash g c clean file left =
    let rest = c.args.rest.now.items in
    let end = c.args.end in
    let old = sym c.write_and_sync.ensures.clean ∙ clean in
    let seen = g.D.Disk.seen c.args.disk.now in
    let some : has_newline (drop 1 rest) ≡ true = ap (λ (l : List ℕ). has_newline (drop 1 l))
    (sym c.deref.ensures.value) ∙ sym c.has_newline_after.ensures ∙ c.if-not-has_newline_after.false in
    let new = c.deref-2.result.now in
    let slice = take (length new - 1) (drop 1 new) in
    let blanks = slice_is rest new some (c.deref-2.ensures.value ∙ c.in_ok-fill_with_blanks.ensures) in
    crash_step g.D.Disk c.args.disk.now c.write_and_sync.new.disk seen refl (end + 1) (length slice) (StandsFor (lines_in seen)) c.requires.synced.durable c.write_and_sync.ensures.crash
    (blanked_torn seen rest end (c.requires.ended old) (c.requires.same old) some slice blanks) file left

pub returns-clause-crash : goal.returns-clause-crash
returns-clause-crash g c clean file left =
    let rest = c.args.rest.now.items in
    let end = c.args.end in
    let old = sym c.write_and_sync.ensures.clean ∙ clean in
    let seen = g.D.Disk.seen c.args.disk.now in
    let some : has_newline (drop 1 rest) ≡ true = ap (λ (l : List ℕ). has_newline (drop 1 l))
    (sym c.deref.ensures.value) ∙ sym c.has_newline_after.ensures ∙ c.if-not-has_newline_after.false in
    let new = c.deref-2.result.now in
    let slice = take (length new - 1) (drop 1 new) in
    let blanks = slice_is rest new some (c.deref-2.ensures.value ∙ c.in_ok-fill_with_blanks.ensures) in
    crash_step g.D.Disk c.args.disk.now c.write_and_sync.new.disk seen refl (end + 1) (length slice) (StandsFor (lines_in seen)) c.requires.synced.durable c.write_and_sync.ensures.crash
    (blanked_torn seen rest end (c.requires.ended old) (c.requires.same old) some slice blanks) file left

pub returns-clause-lines : goal.returns-clause-lines
returns-clause-lines g c clean =
    let rest = c.args.rest.now.items in
    let end = c.args.end in
    let old = sym c.write_and_sync.ensures.clean ∙ clean in
    let seen = g.D.Disk.seen c.args.disk.now in
    let some : has_newline (drop 1 rest) ≡ true = ap (λ (l : List ℕ). has_newline (drop 1 l))
    (sym c.deref.ensures.value) ∙ sym c.has_newline_after.ensures ∙ c.if-not-has_newline_after.false in
    let new = c.deref-2.result.now in
    let blanks = slice_is rest new some (c.deref-2.ensures.value ∙ c.in_ok-fill_with_blanks.ensures) in
    blanked_lines seen rest end (c.requires.ended old) (c.requires.same old) some (take (length new - 1) (drop 1 new)) blanks (g.D.Disk.seen c.write_and_sync.new.disk) c.write_and_sync.ensures.others c.in_ok-write_and_sync.ensures.written

pub returns-clause-last : goal.returns-clause-last
returns-clause-last g c =
    let rest = c.args.rest.now.items in
    let some : has_newline (drop 1 rest) ≡ true = ap (λ (l : List ℕ). has_newline (drop 1 l))
    (sym c.deref.ensures.value) ∙ sym c.has_newline_after.ensures ∙ c.if-not-has_newline_after.false in
    blanks_last rest c.fill_with_blanks.new.bytes.items some c.in_ok-fill_with_blanks.ensures

pub returns-clause-read : goal.returns-clause-read
returns-clause-read g c =
    let rest = c.args.rest.now.items in
    let end = c.args.end in
    let seen = g.D.Disk.seen c.args.disk.now in
    let now = g.D.Disk.seen c.write_and_sync.new.disk in
    let some : has_newline (drop 1 rest) ≡ true = ap (λ (l : List ℕ). has_newline (drop 1 l))
    (sym c.deref.ensures.value) ∙ sym c.has_newline_after.ensures ∙ c.if-not-has_newline_after.false in
    let new = c.deref-2.result.now in
    let slice = take (length new - 1) (drop 1 new) in
    let blanks = slice_is rest new some (c.deref-2.ensures.value ∙ c.in_ok-fill_with_blanks.ensures) in
    record {
      synced = c.in_ok-write_and_sync.ensures.synced;
      room = c.requires.room;
      ended = λ clean.
          let old = sym c.write_and_sync.ensures.clean ∙ clean in
          blanked_ended seen rest end (c.requires.ended old) (c.requires.same old) some slice blanks now c.write_and_sync.ensures.others c.in_ok-write_and_sync.ensures.written;
      same = λ clean.
          let old = sym c.write_and_sync.ensures.clean ∙ clean in
          blanked_rest seen rest end (c.requires.ended old) (c.requires.same old) some slice blanks now c.write_and_sync.ensures.others c.in_ok-write_and_sync.ensures.written
          ∙ sym c.in_ok-fill_with_blanks.ensures;
    }
