-- The registers of a statement's places are among so many.
use Rattle.std.specs.Prelude.{ℕ, Bool, true, ◌&&◌, nat_lt, List, map}
use Rattle.std.specs.Option.{option_to_list}
use Rattle.std.specs.List.{list_all}
use Rattle.qz_syntax.specs.declared.statements.Stmt.{Stmt}
use Rattle.qz_syntax.specs.declared.statements.Stmt.TheOpen.{Stmt-F}
use Rattle.qz_syntax.specs.declared.statements.Stmt.TheFolds.{fold-Stmt}

-- one statement, given whether its parts' places are
abbrev pub node_rests_below : ℕ → Stmt-F Bool → Bool
node_rests_below registers Stmt-F.Nothing = true
node_rests_below registers (Stmt-F.Assign target value) = true
node_rests_below registers (Stmt-F.Delayed target value) = true
node_rests_below registers (Stmt-F.Pause place) = nat_lt place registers
node_rests_below registers (Stmt-F.Seq parts) = list_all (λ part. part) parts
node_rests_below registers (Stmt-F.Par parts) = list_all (λ part. part) parts
node_rests_below registers (Stmt-F.If condition first second) = first && second
node_rests_below registers (Stmt-F.Loop number body condition) = body
node_rests_below registers (Stmt-F.Abort kind body condition) = body
node_rests_below registers (Stmt-F.Suspend kind hold body condition) = list_all (λ place. nat_lt place registers) (option_to_list hold) && body
node_rests_below registers (Stmt-F.Scope locals body) = body
node_rests_below registers (Stmt-F.Call number proto arguments) = true
node_rests_below registers (Stmt-F.Bind bindings body) = body

abbrev pub rests_below : ℕ → Stmt → Bool
rests_below registers = fold-Stmt Bool (node_rests_below registers)

abbrev pub all_rest_below : ℕ → List Stmt → Bool
all_rest_below registers parts = list_all (λ part. part) (map (rests_below registers) parts)
