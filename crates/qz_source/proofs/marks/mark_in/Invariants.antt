-- The rows from here on say what all of them do.
use Rattle.std.proofs.Common.{◌≡◌, map, drop}
use Rattle.qz_source.specs.Marks.{mark_in, row_of}
use Rattle.qz_source.proofs.marks.mark_in.Given as goal

abbrev pub invariant-loop-spelling : goal.invariant-loop-spelling
invariant-loop-spelling l = mark_in (map row_of (drop l.spelling-index l.rows)) l.text ≡ mark_in (map row_of l.rows) l.text
