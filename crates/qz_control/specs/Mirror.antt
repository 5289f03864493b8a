-- The mirror of a statement: each form's line.
use Rattle.std.specs.Prelude.{false, true}
use Rattle.qz_syntax.specs.declared.statements.Stmt.{Stmt}
use Rattle.qz_syntax.specs.declared.statements.Stmt.TheOpen.{Stmt-F}
use Rattle.qz_syntax.specs.declared.statements.Stmt.TheFolds.{fold-Stmt}
use Rattle.qz_meaning.specs.Scenes.{Scene}
use Rattle.qz_meaning.specs.Behaviors.{idle}
use Rattle.qz_meaning.specs.Simple.{assignment, pause}
use Rattle.qz_meaning.specs.Sequences.{sequence}
use Rattle.qz_meaning.specs.Parallels.{parallel}
use Rattle.qz_meaning.specs.Choices.{choice}
use Rattle.qz_meaning.specs.Loops.{loop}
use Rattle.qz_meaning.specs.Aborts.{abort}
use Rattle.qz_meaning.specs.Suspends.{suspend}
use Rattle.qz_meaning.specs.Scopes.{scope}
use Rattle.qz_meaning.specs.Landings.{landing}
use Rattle.qz_control.specs.Mirrors.{Mirror, walks, passing_mirror, pause_mirror, scope_mirror}
use Rattle.qz_control.specs.MemberMirrors.{sequence_mirror, parallel_mirror, choice_mirror}
use Rattle.qz_control.specs.BodyMirrors.{loop_mirror, abort_mirror, suspension_mirror}

-- one statement, with the mirror of each part in its place; calls, and bodies put in for them, do nothing yet
abbrev pub node_mirror : Scene → Stmt-F Mirror → Mirror
node_mirror scene Stmt-F.Nothing = passing_mirror (idle landing)
node_mirror scene (Stmt-F.Assign target value) = passing_mirror (assignment scene landing false target value)
node_mirror scene (Stmt-F.Delayed target value) = passing_mirror (assignment scene landing true target value)
node_mirror scene (Stmt-F.Pause place) = pause_mirror place (pause landing place)
node_mirror scene (Stmt-F.Seq parts) = sequence_mirror parts (sequence landing (walks parts))
node_mirror scene (Stmt-F.Par parts) = parallel_mirror parts (parallel landing (walks parts))
node_mirror scene (Stmt-F.If condition first second) =
    choice_mirror scene condition first second (choice scene landing condition first.walk second.walk)
node_mirror scene (Stmt-F.Loop number body condition) =
    loop_mirror scene number body condition (loop scene landing number body.walk condition)
node_mirror scene (Stmt-F.Abort kind body condition) =
    abort_mirror scene kind body condition (abort scene landing kind body.walk condition)
node_mirror scene (Stmt-F.Suspend kind hold body condition) =
    suspension_mirror scene kind hold body condition (suspend scene landing kind hold body.walk condition)
node_mirror scene (Stmt-F.Scope locals body) = scope_mirror locals body (scope landing locals body.walk)
node_mirror scene (Stmt-F.Call number proto arguments) = passing_mirror (idle landing)
node_mirror scene (Stmt-F.Bind bindings body) = passing_mirror (idle landing)

abbrev pub mirror_of : Scene → Stmt → Mirror
mirror_of scene = fold-Stmt Mirror (node_mirror scene)
