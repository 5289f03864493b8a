-- A write takes the front of the bytes that are left.
use Rattle.std.proofs.Common.{◌+◌, drop, ap, ◌∙◌}
use Rattle.std.proofs.KnownBytes.{Appends-trans}
use Rattle.std.proofs.Math.Seq.{take-add}
use Rattle.std.proofs.lemmas.List.{drop-drop, take_rest}
use Rattle.qz_io.proofs.writing.write_bytes.Goals as goal

pub loop-rest-preserved : goal.loop-rest-preserved
loop-rest-preserved g c =
    let (n, gone, appended) = c.loop-rest.invariant in
    let count = c.in_ok-count.count in
    let taken = rw gone at c.in_ok-count.ensures.bytes in
    (n + count, take_rest c.loop-rest.rest.now count ∙ ap (drop count) gone ∙ drop-drop count n c.args.bytes.now, rw (take-add n count c.args.bytes.now) (Appends-trans _ _ _ _ _ appended taken))
