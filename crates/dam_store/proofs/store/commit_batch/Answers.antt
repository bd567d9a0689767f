use Rattle.std.proofs.Common.{◌≡◌, ◌∷◌, ◌++◌, [], List, ℕ, ◌+◌, ◌≤◌, inl, length, drop, refl, sym, ap, ◌∙◌, subst, arith}
use Rattle.dam_store.specs.Limits.{most_file_bytes}
use Rattle.dam_store.specs.FileLines.{marked, bytes_on_disk, lines_in, StandsForEither}
use Rattle.dam_store.specs.inside.Shape.{IsAtRest, IsFileAtRest}
use Rattle.dam_store.proofs.Rest.{staged_torn, staged_is, opened_torn, opened_at_rest, rest_lines, rest_from, closed_from, newline_after, after_mark, after_mark_some}
use Rattle.dam_store.proofs.Steps.{crash_step}
use Rattle.dam_store.proofs.store.commit_batch.Goals as goal

pub returns-in_err-write_and_sync-clause-crash : goal.returns-in_err-write_and_sync-clause-crash
returns-in_err-write_and_sync-clause-crash g c clean file left =
    let old = g.D.Disk.seen c.args.disk.now in
    let end = c.args.end in
    let lines = lines_in old in
    let batch = c.args.batch.now in
    let bytes = c.bytes_after_mark-bytes.result.now in
    let value : bytes ≡ drop 1 (marked batch ++ 45 ∷ []) = c.bytes_after_mark-bytes.ensures.value in
    let fits : end + 1 + length bytes ≤ most_file_bytes = omega (arith, ap length value, c.requires.room) in
    let rest : IsAtRest old end lines = rest_from old end (c.requires.closed (sym c.write_and_sync.ensures.clean ∙ clean)) in
    crash_step g.D.Disk c.args.disk.now c.write_and_sync.new.disk old refl (end + 1) (length bytes) (StandsForEither lines batch) c.requires.synced.durable c.write_and_sync.ensures.crash
    (λ f torn. inl (staged_torn old end lines rest (length bytes) fits f torn)) file left

pub returns-in_err-write_and_sync-2-clause-crash : goal.returns-in_err-write_and_sync-2-clause-crash
returns-in_err-write_and_sync-2-clause-crash g c clean file left =
    let old = g.D.Disk.seen c.args.disk.now in
    let end = c.args.end in
    let lines = lines_in old in
    let batch = c.args.batch.now in
    let bytes = c.bytes_after_mark-bytes.result.now in
    let value : bytes ≡ drop 1 (marked batch ++ 45 ∷ []) = c.bytes_after_mark-bytes.ensures.value in
    let fits : end + 1 + length bytes ≤ most_file_bytes = omega (arith, ap length value, c.requires.room) in
    let clean_then = sym c.write_and_sync-2.ensures.clean ∙ clean in
    let rest : IsAtRest old end lines = rest_from old end (c.requires.closed (sym c.write_and_sync.ensures.clean ∙ clean_then)) in
    let staged = g.D.Disk.seen c.write_and_sync.new.disk in
    let tail = drop (length bytes) (drop (end + 1) old) in
    let is : staged ≡ bytes_on_disk lines ++ 45 ∷ (bytes ++ tail) = staged_is old end lines rest (length bytes) fits staged c.write_and_sync.ensures.others bytes refl c.in_ok-write_and_sync.ensures.written in
    let bytes_are : marked batch ++ 45 ∷ [] ≡ 43 ∷ bytes = after_mark batch c.requires.some ∙ ap (λ (l : List ℕ). 43 ∷ l) (sym value) in
    let short : length staged ≤ most_file_bytes = omega (arith, c.write_and_sync.ensures.others.no_longer, rest.short) in
    let whole = c.bytes_after_mark-bytes.ensures.whole in
    crash_step g.D.Disk c.write_and_sync.new.disk c.write_and_sync-2.new.disk staged refl end 1 (StandsForEither lines batch) c.in_ok-write_and_sync.ensures.synced.durable c.write_and_sync-2.ensures.crash
    (λ f torn. opened_torn lines batch end bytes tail staged rest.end_is rest.whole whole bytes_are is short f torn) file left

pub returns-clause-crash : goal.returns-clause-crash
returns-clause-crash g c clean file left =
    let old = g.D.Disk.seen c.args.disk.now in
    let end = c.args.end in
    let lines = lines_in old in
    let batch = c.args.batch.now in
    let bytes = c.bytes_after_mark-bytes.result.now in
    let value : bytes ≡ drop 1 (marked batch ++ 45 ∷ []) = c.bytes_after_mark-bytes.ensures.value in
    let fits : end + 1 + length bytes ≤ most_file_bytes = omega (arith, ap length value, c.requires.room) in
    let clean_then = sym c.write_and_sync-2.ensures.clean ∙ clean in
    let rest : IsAtRest old end lines = rest_from old end (c.requires.closed (sym c.write_and_sync.ensures.clean ∙ clean_then)) in
    let staged = g.D.Disk.seen c.write_and_sync.new.disk in
    let tail = drop (length bytes) (drop (end + 1) old) in
    let is : staged ≡ bytes_on_disk lines ++ 45 ∷ (bytes ++ tail) = staged_is old end lines rest (length bytes) fits staged c.write_and_sync.ensures.others bytes refl c.in_ok-write_and_sync.ensures.written in
    let bytes_are : marked batch ++ 45 ∷ [] ≡ 43 ∷ bytes = after_mark batch c.requires.some ∙ ap (λ (l : List ℕ). 43 ∷ l) (sym value) in
    let short : length staged ≤ most_file_bytes = omega (arith, c.write_and_sync.ensures.others.no_longer, rest.short) in
    let whole = c.bytes_after_mark-bytes.ensures.whole in
    crash_step g.D.Disk c.write_and_sync.new.disk c.write_and_sync-2.new.disk staged refl end 1 (StandsForEither lines batch) c.in_ok-write_and_sync.ensures.synced.durable c.write_and_sync-2.ensures.crash
    (λ f torn. opened_torn lines batch end bytes tail staged rest.end_is rest.whole whole bytes_are is short f torn) file left

pub returns-clause-lines : goal.returns-clause-lines
returns-clause-lines g c clean =
    let old = g.D.Disk.seen c.args.disk.now in
    let end = c.args.end in
    let lines = lines_in old in
    let batch = c.args.batch.now in
    let bytes = c.bytes_after_mark-bytes.result.now in
    let value : bytes ≡ drop 1 (marked batch ++ 45 ∷ []) = c.bytes_after_mark-bytes.ensures.value in
    let fits : end + 1 + length bytes ≤ most_file_bytes = omega (arith, ap length value, c.requires.room) in
    let clean_then = sym c.write_and_sync-2.ensures.clean ∙ clean in
    let rest : IsAtRest old end lines = rest_from old end (c.requires.closed (sym c.write_and_sync.ensures.clean ∙ clean_then)) in
    let staged = g.D.Disk.seen c.write_and_sync.new.disk in
    let tail = drop (length bytes) (drop (end + 1) old) in
    let is : staged ≡ bytes_on_disk lines ++ 45 ∷ (bytes ++ tail) = staged_is old end lines rest (length bytes) fits staged c.write_and_sync.ensures.others bytes refl c.in_ok-write_and_sync.ensures.written in
    let bytes_are : marked batch ++ 45 ∷ [] ≡ 43 ∷ bytes = after_mark batch c.requires.some ∙ ap (λ (l : List ℕ). 43 ∷ l) (sym value) in
    let short : length staged ≤ most_file_bytes = omega (arith, c.write_and_sync.ensures.others.no_longer, rest.short) in
    let whole = c.bytes_after_mark-bytes.ensures.whole in
    let new = g.D.Disk.seen c.write_and_sync-2.new.disk in
    let last = newline_after (length bytes) (drop (end + 1) old) rest.last in
    let opened : IsAtRest new (end + length bytes) (lines ++ batch) = opened_at_rest lines batch end bytes tail staged rest.end_is rest.whole whole bytes_are is short new c.write_and_sync-2.ensures.others c.in_ok-write_and_sync-2.ensures.written last in
    rest_lines new (end + length bytes) (lines ++ batch) opened

pub returns-clause-closed : goal.returns-clause-closed
returns-clause-closed g c clean =
    let old = g.D.Disk.seen c.args.disk.now in
    let end = c.args.end in
    let lines = lines_in old in
    let batch = c.args.batch.now in
    let bytes = c.bytes_after_mark-bytes.result.now in
    let value : bytes ≡ drop 1 (marked batch ++ 45 ∷ []) = c.bytes_after_mark-bytes.ensures.value in
    let fits : end + 1 + length bytes ≤ most_file_bytes = omega (arith, ap length value, c.requires.room) in
    let clean_then = sym c.write_and_sync-2.ensures.clean ∙ clean in
    let rest : IsAtRest old end lines = rest_from old end (c.requires.closed (sym c.write_and_sync.ensures.clean ∙ clean_then)) in
    let staged = g.D.Disk.seen c.write_and_sync.new.disk in
    let tail = drop (length bytes) (drop (end + 1) old) in
    let is : staged ≡ bytes_on_disk lines ++ 45 ∷ (bytes ++ tail) = staged_is old end lines rest (length bytes) fits staged c.write_and_sync.ensures.others bytes refl c.in_ok-write_and_sync.ensures.written in
    let bytes_are : marked batch ++ 45 ∷ [] ≡ 43 ∷ bytes = after_mark batch c.requires.some ∙ ap (λ (l : List ℕ). 43 ∷ l) (sym value) in
    let short : length staged ≤ most_file_bytes = omega (arith, c.write_and_sync.ensures.others.no_longer, rest.short) in
    let whole = c.bytes_after_mark-bytes.ensures.whole in
    let new = g.D.Disk.seen c.write_and_sync-2.new.disk in
    let last = newline_after (length bytes) (drop (end + 1) old) rest.last in
    let opened : IsAtRest new (end + length bytes) (lines ++ batch) = opened_at_rest lines batch end bytes tail staged rest.end_is rest.whole whole bytes_are is short new c.write_and_sync-2.ensures.others c.in_ok-write_and_sync-2.ensures.written last in
    subst (λ (l : List ℕ). IsFileAtRest new (end + length l)) value (closed_from new (end + length bytes) (lines ++ batch) opened)

pub write_and_sync-requires-clause-some : goal.write_and_sync-requires-clause-some
write_and_sync-requires-clause-some g c = let some = after_mark_some c.args.batch.now c.requires.some in omega (
  arith,
  ap length c.bytes_after_mark-bytes.ensures.value,
  some,
)
