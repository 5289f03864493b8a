-- What a statement of the first language does, as plain bits: which outputs are driven and where control
-- rests next, given for each place whether control rests there.
--
-- It mirrors the walk for nets: members in which control doesn't rest give bits that are false.
use Rattle.std.specs.Prelude.{ℕ, Bool, true, false, ◌==◌, ◌&&◌, ◌||◌, not, List, [], ◌∷◌, ◌++◌}
use Rattle.qz_values.specs.Values.{is_yes}
use Rattle.qz_syntax.specs.declared.expressions.Expr.{Expr}
use Rattle.qz_syntax.specs.declared.expressions.Expr.TheOpen.{Expr-F}
use Rattle.qz_syntax.specs.declared.expressions.Expr.TheFolds.{fold-Expr}
use Rattle.qz_syntax.specs.declared.expressions.Var.{Var}
use Rattle.qz_syntax.specs.declared.expressions.Var.TheVariants as var
use Rattle.qz_syntax.specs.declared.statements.Stmt.{Stmt}
use Rattle.qz_syntax.specs.declared.statements.Stmt.TheOpen.{Stmt-F}
use Rattle.qz_syntax.specs.declared.statements.Stmt.TheFolds.{fold-Stmt}

-- numbers of outputs or of places, each with whether it is driven or entered
abbrev pub Bits : Type 0
Bits = List (ℕ × Bool)

-- whether control rests at each place
abbrev pub Control : Type 0
Control = ℕ → Bool

pub record Mirror : Type 0 where
  -- control rests in it
  pub inside : Control → Bool
  -- started, it ends in the same step
  pub at_once : Bool
  -- control rests in it, and resumed it ends
  pub ended : Control → Bool
  -- the outputs that a start drives, and the places that it enters, where it is started
  pub start : Bool → Bits
  pub enter : Bool → Bits
  -- the outputs that a resume drives where it may act, and the places where control rests after it
  pub resume : Control → Bool → Bits
  pub move : Control → Bits

-- ends at once, does nothing and is never resumed
abbrev pub idle_mirror : Mirror
idle_mirror = record {
  inside = λ control. false;
  at_once = true;
  ended = λ control. false;
  start = λ g. [];
  enter = λ g. [];
  resume = λ control act. [];
  move = λ control. [];
}

-- what a literal is
abbrev pub node_bit : Expr-F Bool → Bool
node_bit (Expr-F.Lit value) = is_yes value
node_bit other = false

abbrev pub bit_of : Expr → Bool
bit_of = fold-Expr Bool node_bit

-- an output is driven where the guard holds and the value is true
abbrev pub driven : Var → Expr → Bool → Bits
driven (var.Formal output) value g = (output, g && bit_of value) ∷ []
driven (var.Local local) value g = []
driven (var.Bound argument) value g = []

abbrev pub pause_mirror : ℕ → Mirror
pause_mirror place = record idle_mirror {
  inside = λ control. control place;
  at_once = false;
  ended = λ control. control place;
  enter = λ g. (place, g) ∷ [];
}

abbrev pub any_inside : List Mirror → Control → Bool
any_inside [] control = false
any_inside (part ∷ parts) control = part.inside control || any_inside parts control

abbrev pub all_at_once : List Mirror → Bool
all_at_once [] = true
all_at_once (part ∷ parts) = part.at_once && all_at_once parts

-- started one after the other, each where all before it end at once
abbrev pub start_all : List Mirror → Bool → Bits
start_all [] g = []
start_all (part ∷ parts) g = part.start g ++ start_all parts (g && part.at_once)

abbrev pub enter_all : List Mirror → Bool → Bits
enter_all [] g = []
enter_all (part ∷ parts) g = part.enter g ++ enter_all parts (g && part.at_once)

-- the ends so far, and then those up to and with a member
abbrev pub ended_after : Mirror → Control → Bool → Bool
ended_after part control so_far = (so_far && part.at_once) || part.ended control

abbrev pub ended_all : List Mirror → Control → Bool → Bool
ended_all [] control so_far = so_far
ended_all (part ∷ parts) control so_far = ended_all parts control (ended_after part control so_far)

-- each is resumed, and started where all since the one inside end
abbrev pub resume_all : List Mirror → Control → Bool → Bool → Bits
resume_all [] control act so_far = []
resume_all (part ∷ parts) control act so_far =
    part.resume control act ++ (part.start (act && so_far) ++ resume_all parts control act (ended_after part control so_far))

abbrev pub move_all : List Mirror → Control → Bool → Bits
move_all [] control so_far = []
move_all (part ∷ parts) control so_far =
    part.move control ++ (part.enter so_far ++ move_all parts control (ended_after part control so_far))

abbrev pub sequence_mirror : List Mirror → Mirror
sequence_mirror parts = record {
  inside = λ control. any_inside parts control;
  at_once = all_at_once parts;
  ended = λ control. ended_all parts control false;
  start = λ g. start_all parts g;
  enter = λ g. enter_all parts g;
  resume = λ control act. resume_all parts control act false;
  move = λ control. move_all parts control false;
}

-- resumed, the body ends and the condition holds
abbrev pub turns_by : Mirror → Expr → Control → Bool
turns_by body condition control = body.ended control && bit_of condition

abbrev pub loop_mirror : Mirror → Expr → Mirror
loop_mirror body condition = record {
  inside = λ control. body.inside control;
  at_once = false;
  ended = λ control. body.ended control && not (bit_of condition);
  start = λ g. body.start g;
  enter = λ g. body.enter g;
  resume = λ control act. body.resume control act ++ body.start (act && turns_by body condition control);
  move = λ control. body.move control ++ body.enter (turns_by body condition control);
}

-- one statement, with the mirrors of its parts; the forms outside of the first language have none
abbrev pub node_mirror : Stmt-F Mirror → Mirror
node_mirror Stmt-F.Nothing = idle_mirror
node_mirror (Stmt-F.Assign target value) = record idle_mirror { start = λ g. driven target value g }
node_mirror (Stmt-F.Delayed target value) = idle_mirror
node_mirror (Stmt-F.Pause place) = pause_mirror place
node_mirror (Stmt-F.Seq parts) = sequence_mirror parts
node_mirror (Stmt-F.Par parts) = idle_mirror
node_mirror (Stmt-F.If condition first second) = idle_mirror
node_mirror (Stmt-F.Loop number body condition) = loop_mirror body condition
node_mirror (Stmt-F.Abort kind body condition) = idle_mirror
node_mirror (Stmt-F.Suspend kind hold body condition) = idle_mirror
node_mirror (Stmt-F.Scope locals body) = idle_mirror
node_mirror (Stmt-F.Call number proto arguments) = idle_mirror
node_mirror (Stmt-F.Bind bindings body) = idle_mirror

abbrev pub mirror_of : Stmt → Mirror
mirror_of = fold-Stmt Mirror node_mirror

-- whether some entry with this number is true
abbrev pub is_driven : Bits → ℕ → Bool
is_driven [] number = false
is_driven (entry ∷ entries) number = ((entry.0 == number) && entry.1) || is_driven entries number
