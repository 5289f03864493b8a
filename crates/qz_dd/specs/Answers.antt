-- The answers to calls, and the calls that wait.
use Rattle.std.specs.Prelude.{ℕ, zero, suc, ◌+◌, ◌-◌, ◌*◌, ◌<◌, ◌≤◌, ◌≡◌, ◌⊎◌, Bool, true, false, cond, List, [], ◌∷◌, Some, IfSome, is_some, slice_index_or}
use Rattle.std.specs.Option.{IfNone}
use Rattle.indexmap.specs.IndexMap.{IndexMap, get}
use Rattle.qz_dd.specs.declared.node.DdId.{DdId}
use Rattle.qz_dd.specs.declared.call.Call.{Call}
use Rattle.qz_dd.specs.declared.table.Table.{Table}
use Rattle.qz_dd.specs.declared.work.Frame.{Frame}
use Rattle.qz_dd.specs.declared.work.Work.{Work}
use Rattle.qz_dd.specs.contracts.call.CallPartialEq.TheImpl.{eq-value}
use Rattle.qz_dd.specs.Calls.{call_value, size, IsUndecided}
use Rattle.qz_dd.specs.Tables.{count, value_in, level_in}

abbrev pub called : Table → Call → List Bool → Bool
called table call bits = call_value (λ d. value_in table d bits) call

-- the operands are numbers of the table
pub record Has (table : Table) (call : Call) : Type 0 where
  pub a : call.a.0 < count table
  pub b : call.b.0 < count table
  pub c : call.c.0 < count table

-- the number is the call's function, and reads no variable before its operands do
pub record IsAnswer (table : Table) (call : Call) (d : DdId) : Type 0 where
  pub below : d.0 < count table
  pub later : (v : ℕ) → v ≤ level_in table call.a.0 → v ≤ level_in table call.b.0 → v ≤ level_in table call.c.0 → v ≤ level_in table d.0
  pub value : (bits : List Bool) → value_in table d.0 bits ≡ called table call bits

-- each kept answer is right
pub record AreRight {S : Type 0} (table : Table) (results : IndexMap Call DdId S) : Type 0 where
  pub has : (call : Call) (d : DdId) → get (eq-value).it results call ≡ Some d → Has table call
  pub right : (call : Call) (d : DdId) → get (eq-value).it results call ≡ Some d → IsAnswer table call d

-- the first variable of the operands
pub record IsTop (table : Table) (var : ℕ) (call : Call) : Type 0 where
  pub variable : var < table.vars
  pub a : var ≤ level_in table call.a.0
  pub b : var ≤ level_in table call.b.0
  pub c : var ≤ level_in table call.c.0
  pub reached : (level_in table call.a.0 ≡ var) ⊎ ((level_in table call.b.0 ≡ var) ⊎ (level_in table call.c.0 ≡ var))

-- the call's cofactor at this value of the variable
pub record IsCofactorCall (table : Table) (var : ℕ) (side : Bool) (call cofactor : Call) : Type 0 where
  pub has : Has table cofactor
  pub a : var < level_in table cofactor.a.0
  pub b : var < level_in table cofactor.b.0
  pub c : var < level_in table cofactor.c.0
  pub value : (bits : List Bool) → slice_index_or bits var false ≡ side → called table cofactor bits ≡ called table call bits
  pub less : size cofactor < size call

-- the low result, where it is there
pub record IsLow (table : Table) (var : ℕ) (call : Call) (d : DdId) : Type 0 where
  pub below : d.0 < count table
  pub later : var < level_in table d.0
  pub value : (bits : List Bool) → slice_index_or bits var false ≡ false → value_in table d.0 bits ≡ called table call bits

-- the high result
pub record IsHigh (table : Table) (var : ℕ) (call : Call) (d : DdId) : Type 0 where
  pub below : d.0 < count table
  pub later : var < level_in table d.0
  pub value : (bits : List Bool) → slice_index_or bits var false ≡ true → value_in table d.0 bits ≡ called table call bits

-- a frame that waits for this call
pub record Awaits (table : Table) (frame : Frame) (call : Call) : Type 0 where
  pub has : Has table frame.call
  pub top : IsTop table frame.var frame.call
  pub low : IfSome frame.low (IsLow table frame.var frame.call)
  pub cofactor : IsCofactorCall table frame.var (is_some frame.low) frame.call call

-- each frame's call is what the one below it waits for, the first asked and the last waiting for this call
abbrev pub Chained : Table → Call → List Frame → Call → Type 0
Chained table asked [] call = asked ≡ call
Chained table asked (frame ∷ frames) call = (frame.call ≡ asked) × ((next : Call) × Awaits table frame next × Chained table next frames call)

pub record OnWay (table : Table) (asked : Call) (work : Work) : Type 0 where
  pub chained : Chained table asked work.waiting.items work.call
  pub has : Has table work.call
  pub answered : IfSome work.answer (IsAnswer table work.call)
  pub undecided : IfNone work.answer (IsUndecided work.call)

-- at most so many steps for a call of this size
abbrev pub steps : ℕ → ℕ
steps zero = 1
steps (suc n) = 2 * steps n + 3

abbrev pub frame_steps : Frame → ℕ
frame_steps frame = cond (is_some frame.low) 1 (steps (size frame.call - 1) + 2)

abbrev pub all_steps : List Frame → ℕ
all_steps [] = 0
all_steps (frame ∷ frames) = frame_steps frame + all_steps frames

abbrev pub steps_left : Work → ℕ
steps_left work = all_steps work.waiting.items + cond (is_some work.answer) 0 (steps (size work.call))
