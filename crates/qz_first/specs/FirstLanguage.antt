-- The core trees of the first language: nothing, `emit` of an output, pause, sequences and endless loops.
use Rattle.std.specs.Prelude.{ℕ, ◌≡◌, Bool, true, false, ◌&&◌, IsTrue, nat_lt, length}
use Rattle.std.specs.List.{list_all, range_with_len}
use Rattle.qz_values.specs.Types.{is_bool}
use Rattle.qz_syntax.specs.declared.declarations.Class.TheVariants.{Event, Mem}
use Rattle.qz_syntax.specs.declared.declarations.Dir.TheVariants as dir
use Rattle.qz_syntax.specs.declared.declarations.Formal.{Formal}
use Rattle.qz_syntax.specs.declared.expressions.Var.{Var}
use Rattle.qz_syntax.specs.declared.expressions.Var.TheVariants as var
use Rattle.qz_syntax.specs.declared.statements.Stmt.{Stmt}
use Rattle.qz_syntax.specs.declared.statements.Stmt.TheOpen.{Stmt-F}
use Rattle.qz_syntax.specs.declared.statements.Stmt.TheFolds.{fold-Stmt}
use Rattle.qz_syntax.specs.declared.modules.Module.{Module}
use Rattle.qz_syntax.specs.Numbers.{places_of}
use Rattle.qz_syntax.specs.DoubleNames.{formal_names, are_distinct}
use Rattle.qz_first.specs.Mirror.{bit_of}

-- an output by its number
abbrev pub is_output : ℕ → Var → Bool
is_output outputs (var.Formal n) = nat_lt n outputs
is_output outputs (var.Local n) = false
is_output outputs (var.Bound n) = false

-- one statement, given how many outputs there are
abbrev pub node_is_first : ℕ → Stmt-F Bool → Bool
node_is_first outputs Stmt-F.Nothing = true
node_is_first outputs (Stmt-F.Assign target value) = is_output outputs target && bit_of value
node_is_first outputs (Stmt-F.Delayed target value) = false
node_is_first outputs (Stmt-F.Pause place) = true
node_is_first outputs (Stmt-F.Seq parts) = list_all (λ part. part) parts
node_is_first outputs (Stmt-F.Par parts) = false
node_is_first outputs (Stmt-F.If condition first second) = false
node_is_first outputs (Stmt-F.Loop number body condition) = body && bit_of condition
node_is_first outputs (Stmt-F.Abort kind body condition) = false
node_is_first outputs (Stmt-F.Suspend kind hold body condition) = false
node_is_first outputs (Stmt-F.Scope locals body) = false
node_is_first outputs (Stmt-F.Call number proto arguments) = false
node_is_first outputs (Stmt-F.Bind bindings body) = false

abbrev pub is_first : ℕ → Stmt → Bool
is_first outputs = fold-Stmt Bool (node_is_first outputs)

-- an event output of type bool
abbrev pub is_event_output : Formal → Bool
is_event_output formal =
    elim formal.class [ Event ↦ elim formal.dir [ dir.Out ↦ is_bool formal.ty | dir.In ↦ false ] | Mem ↦ false ]

-- a module of the first language, as it is read: its outputs, whose names differ, and its body with numbered
-- places
pub record IsFirst (m : Module) : Type 0 where
  pub formals : IsTrue (list_all (λ (formal : Formal). is_event_output formal) m.formals)
  pub names : IsTrue (are_distinct (formal_names m.formals))
  pub body : IsTrue (is_first (length m.formals) m.body)
  pub places : places_of m.body ≡ range_with_len 0 (length m.labels)
