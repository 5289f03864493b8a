-- The walk over a statement: each form's line.
use Rattle.std.specs.Prelude.{ℕ, true, false}
use Rattle.qz_syntax.specs.declared.statements.Stmt.{Stmt}
use Rattle.qz_syntax.specs.declared.statements.Stmt.TheOpen.{Stmt-F}
use Rattle.qz_syntax.specs.declared.statements.Stmt.TheFolds.{fold-Stmt}
use Rattle.qz_meaning.specs.Scenes.{Scene}
use Rattle.qz_meaning.specs.Accounts.{Account}
use Rattle.qz_meaning.specs.Layouts.{Layout, bare}
use Rattle.qz_meaning.specs.Behaviors.{Behavior, idle}
use Rattle.qz_meaning.specs.Simple.{assignment, pause, pause_layout}
use Rattle.qz_meaning.specs.Sequences.{sequence, sequence_layout}
use Rattle.qz_meaning.specs.Parallels.{parallel, parallel_layout}
use Rattle.qz_meaning.specs.Choices.{choice, choice_layout}
use Rattle.qz_meaning.specs.Loops.{loop, loop_layout}
use Rattle.qz_meaning.specs.Aborts.{abort, body_layout}
use Rattle.qz_meaning.specs.Suspends.{suspend, suspend_layout}
use Rattle.qz_meaning.specs.Scopes.{scope, scope_layout}
use Rattle.qz_meaning.specs.Calls.{Calls, bound_body}

-- one statement, with the behavior of each part in its place
abbrev pub node_behavior : {D T : Type 0} → Scene → Account D T → Calls D T → Stmt-F (Behavior D T) → Behavior D T
node_behavior scene acc calls Stmt-F.Nothing = idle acc
node_behavior scene acc calls (Stmt-F.Assign target value) = assignment scene acc false target value
node_behavior scene acc calls (Stmt-F.Delayed target value) = assignment scene acc true target value
node_behavior scene acc calls (Stmt-F.Pause place) = pause acc place
node_behavior scene acc calls (Stmt-F.Seq parts) = sequence acc parts
node_behavior scene acc calls (Stmt-F.Par parts) = parallel acc parts
node_behavior scene acc calls (Stmt-F.If condition first second) = choice scene acc condition first second
node_behavior scene acc calls (Stmt-F.Loop number body condition) = loop scene acc number body condition
node_behavior scene acc calls (Stmt-F.Abort kind body condition) = abort scene acc kind body condition
node_behavior scene acc calls (Stmt-F.Suspend kind hold body condition) = suspend scene acc kind hold body condition
node_behavior scene acc calls (Stmt-F.Scope locals body) = scope acc locals body
node_behavior scene acc calls (Stmt-F.Call number proto arguments) = calls number arguments
node_behavior scene acc calls (Stmt-F.Bind bindings body) = bound_body scene bindings body

-- what a statement does, where its calls do so
abbrev pub behavior : {D T : Type 0} → Scene → Account D T → Calls D T → Stmt → Behavior D T
behavior {D = D} {T = T} scene acc calls = fold-Stmt (Behavior D T) (node_behavior scene acc calls)

-- one statement, with the layout of each part in its place
abbrev pub node_layout : (ℕ → Layout) → Stmt-F Layout → Layout
node_layout calls Stmt-F.Nothing = bare
node_layout calls (Stmt-F.Assign target value) = bare
node_layout calls (Stmt-F.Delayed target value) = bare
node_layout calls (Stmt-F.Pause place) = pause_layout place
node_layout calls (Stmt-F.Seq parts) = sequence_layout parts
node_layout calls (Stmt-F.Par parts) = parallel_layout parts
node_layout calls (Stmt-F.If condition first second) = choice_layout first second
node_layout calls (Stmt-F.Loop number body condition) = loop_layout number body
node_layout calls (Stmt-F.Abort kind body condition) = body_layout body
node_layout calls (Stmt-F.Suspend kind hold body condition) = suspend_layout hold body
node_layout calls (Stmt-F.Scope locals body) = scope_layout locals body
node_layout calls (Stmt-F.Call number proto arguments) = calls number
node_layout calls (Stmt-F.Bind bindings body) = body

-- the layout of a statement, where its calls have these
abbrev pub layout : (ℕ → Layout) → Stmt → Layout
layout calls = fold-Stmt Layout (node_layout calls)
