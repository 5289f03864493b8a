-- What a call asks for.
use Rattle.std.specs.Prelude.{ℕ, ◌+◌, ◌<◌, Bool, cond, not, ◌&&◌, ◌||◌}
use Rattle.qz_dd.specs.declared.call.Call.{Call}
use Rattle.qz_dd.specs.declared.call.Task.{Task}
use Rattle.qz_dd.specs.declared.call.Task.TheVariants.{And, Or, Xor, Choose}
use Rattle.qz_dd.specs.declared.call.DdOp.{DdOp}
use Rattle.qz_dd.specs.declared.call.DdOp.TheVariants as op

abbrev pub combined : Task → Bool → Bool → Bool → Bool
combined And a b c = a && b
combined Or a b c = a || b
combined Xor a b c = cond a (not b) b
combined Choose a b c = cond a b c

-- the call's value, from the values of numbers
abbrev pub call_value : (ℕ → Bool) → Call → Bool
call_value known call = combined call.task (known call.a.0) (known call.b.0) (known call.c.0)

-- some operand is no constant
abbrev pub IsUndecided : Call → Type 0
IsUndecided call = call.a.0 < 2 → call.b.0 < 2 → call.c.0 < 2 → ⊥

abbrev pub size : Call → ℕ
size call = call.a.0 + call.b.0 + call.c.0

-- what an operation gives
abbrev pub op_value : DdOp → Bool → Bool → Bool
op_value op.And a b = a && b
op_value op.Or a b = a || b
op_value op.Xor a b = cond a (not b) b
