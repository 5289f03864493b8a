-- What is said of loops and of endings is one thing.
use Rattle.std.proofs.Common.{◌≡◌, Bool, List, refl}
use Rattle.qz_syntax.specs.declared.statements.Stmt.{Stmt}
use Rattle.qz_syntax.specs.declared.statements.Stmt.TheFolds.{fold-Stmt}
use Rattle.qz_syntax.specs.Endings.{Ending, node_ending, node_may_end, may_end_of}
use Rattle.qz_syntax.proofs.Fusion.{fusion}

-- the loops are looked for with what `may_end_of` says of their bodies
pub ending-may_end : (callees : List Bool) (s : Stmt) → (fold-Stmt Ending (node_ending callees) s).may_end ≡ may_end_of callees s
ending-may_end callees = fusion Ending Bool (node_ending callees) (node_may_end callees) (λ ending. ending.may_end) (λ node. refl)
