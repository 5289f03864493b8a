-- The marks that a local's instances have.
use Rattle.std.specs.Prelude.{ℕ, List, [], ◌∷◌, map, Option, Some, None, unwrap_or, if◌then◌else◌}
use Rattle.std.specs.Option.{option_map, option_or}
use Rattle.qz_syntax.specs.declared.statements.Stmt.{Stmt}
use Rattle.qz_syntax.specs.declared.statements.Stmt.TheOpen.{Stmt-F}
use Rattle.qz_syntax.specs.declared.statements.Stmt.TheFolds.{fold-Stmt}
use Rattle.qz_syntax.specs.declared.modules.Module.{Module}
use Rattle.qz_syntax.specs.Numbers.{contains}
use Rattle.qz_syntax.specs.declared.places.Mark.{Mark}
use Rattle.qz_syntax.specs.declared.places.Mark.TheVariants as mark

-- the first of some answers that is one
abbrev pub first_some : List (Option (List ℕ)) → Option (List ℕ)
first_some [] = None
first_some (answer ∷ rest) = option_or answer (first_some rest)

-- one statement, in which a local's scope is sought
abbrev pub node_loops_round : ℕ → Stmt-F (Option (List ℕ)) → Option (List ℕ)
node_loops_round local Stmt-F.Nothing = None
node_loops_round local (Stmt-F.Assign target value) = None
node_loops_round local (Stmt-F.Delayed target value) = None
node_loops_round local (Stmt-F.Pause place) = None
node_loops_round local (Stmt-F.Seq parts) = first_some parts
node_loops_round local (Stmt-F.Par parts) = first_some parts
node_loops_round local (Stmt-F.If condition first second) = option_or first second
node_loops_round local (Stmt-F.Loop number body condition) = option_map (λ inner. number ∷ inner) body
node_loops_round local (Stmt-F.Abort kind body condition) = body
node_loops_round local (Stmt-F.Suspend kind hold body condition) = body
node_loops_round local (Stmt-F.Scope locals body) = if contains locals local then Some [] else body
node_loops_round local (Stmt-F.Call number proto arguments) = None
node_loops_round local (Stmt-F.Bind bindings body) = body

-- the loops round the scope that declares a local, from the outermost in; `None`: no scope does
abbrev pub loops_round : ℕ → Stmt → Option (List ℕ)
loops_round local = fold-Stmt (Option (List ℕ)) (node_loops_round local)

-- mark zero, and then the mark of each loop round the local
abbrev pub marks_of_local : Module → ℕ → List Mark
marks_of_local m local = mark.Zero ∷ map mark.Loop (unwrap_or (loops_round local m.body) [])
