use Rattle.std.proofs.Common.{length}
use Rattle.qz_phrases.specs.Reading.{upcoming}
use Rattle.qz_reader.proofs.Prototypes.{FileSoFar}
use Rattle.qz_reader.proofs.files.file.Given as goal

abbrev pub invariant-loop-protos : goal.invariant-loop-protos
invariant-loop-protos l = FileSoFar l.room l.initial.cursor l.protos l.cursor

abbrev pub decreases-loop-protos : goal.decreases-loop-protos
decreases-loop-protos l = length (upcoming l.cursor)
