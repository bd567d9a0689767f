-- The loop ends when the text is as long as it may be, or when the reader has no more.
use Rattle.std.proofs.Common.{◌≡◌, ◌≤◌, ◌<◌, ◌++◌, length, take, arith}
use Rattle.std.proofs.lemmas.List.{length-take, length-append}
use Rattle.std.proofs.lemmas.Result.{err_from_is_err_and}
use Rattle.std.proofs.KnownBytes.{Consumes-trans}
use Rattle.dam_engines.specs.Engine.{most_read}
use Rattle.dam_engines.proofs.Readings.{read-most, read-all, read-nothing, gives-all}
use Rattle.dam_engines.proofs.input.read_input.Goals as goal
use Rattle.dam_engines.proofs.input.read_input.Goals.{else-loop-chunk-test, then-loop-chunk-test+in-Ok+then-count-eq0}

pub returns-clause-text : goal.returns-clause-text
returns-clause-text g c = elim c.loop-chunk-test.branch [
  | else-loop-chunk-test w ↦
      let full : length c.loop-chunk.text.items ≡ most_read = omega (arith, c.loop-chunk.invariant.within) in
      read-most _ _ _ most_read c.loop-chunk.invariant.taken full
  | then-loop-chunk-test+in-Ok+then-count-eq0 w ↦
      let room : 0 < length w.read.new.buf = omega
      (arith, w.read.auto.buf, length-take w.min-room.result c.loop-chunk.chunk, c.loop-chunk.invariant.chunk) in
      let last = w.in-Ok.ensures.bytes in
      let taken = read-nothing _ _ _ _ _ w.in-Ok.count c.loop-chunk.invariant.taken last.0 w.if-count-eq0.true in
      read-all _ _ _ most_read taken (last.1 w.if-count-eq0.true room) c.loop-chunk.invariant.within
]

pub returns-clause-cause : goal.returns-clause-cause
returns-clause-cause g c = elim c.loop-chunk-test.branch [
  | else-loop-chunk-test w ↦
      rw w.reader-is (c.loop-chunk.invariant.failed, gives-all _ _ _ c.loop-chunk.invariant.taken (returns-clause-text g c))
  | then-loop-chunk-test+in-Ok+then-count-eq0 w ↦
      let taken = read-nothing _ _ _ _ _ w.in-Ok.count c.loop-chunk.invariant.taken w.in-Ok.ensures.bytes.0 w.if-count-eq0.true in
      rw w.reader-is (w.in-Ok.ensures.cause, gives-all _ _ _ taken (returns-clause-text g c))
]

pub returns-in_err-extend_from_slice-clause-cause : goal.returns-in_err-extend_from_slice-clause-cause
returns-in_err-extend_from_slice-clause-cause g c =
    let p = err_from_is_err_and c.from_residual.result c.from_residual.ensures.1 in
    let room : length c.read.new.buf ≤ c.min-room.result = omega
    (arith, c.read.auto.buf, length-take c.min-room.result c.loop-chunk.chunk) in
    let more = take c.in-Ok.count c.read.new.buf in
    let few = length-take c.in-Ok.count c.read.new.buf in
    let both = length-append c.loop-chunk.text.items more in
    rw (p.1, p.2) (
      c.in-Ok.ensures.cause,
      record {
        front = c.loop-chunk.text.items ++ more;
        few = omega (arith, both, few, room, c.min-room.ensures, c.len-in-loop-chunk.ensures, c.loop-chunk.invariant.within);
        given = Consumes-trans _ _ _ _ _ c.loop-chunk.invariant.taken c.in-Ok.ensures.bytes.0;
      },
    )
