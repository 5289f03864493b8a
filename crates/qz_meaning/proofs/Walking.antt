-- What each form of statement does and how control can rest in it, as equations to rewrite by.
use Rattle.std.proofs.Common.{◌≡◌, ℕ, List, Option, true, false, map, sym, ap, ◌∙◌}
use Rattle.qz_syntax.specs.declared.expressions.Var.{Var}
use Rattle.qz_syntax.specs.declared.expressions.Expr.{Expr}
use Rattle.qz_syntax.specs.declared.statements.Kind.{Kind}
use Rattle.qz_syntax.specs.declared.statements.Arg.{Arg}
use Rattle.qz_syntax.specs.declared.statements.Binding.{Binding}
use Rattle.qz_syntax.specs.declared.statements.Stmt.{Stmt}
use Rattle.qz_syntax.specs.declared.statements.Stmt.TheOpen.{Stmt-F}
use Rattle.qz_syntax.specs.declared.statements.Stmt.TheFolds.{fold-roll-Stmt}
use Rattle.qz_syntax.specs.declared.statements.Stmt.TheVariants.{Nothing, Assign, Delayed, Pause, Seq, Par, If, Loop, Abort, Suspend, Scope, Call, Bind, rolls-Nothing, rolls-Assign, rolls-Delayed, rolls-Pause, rolls-Seq, rolls-Par, rolls-If, rolls-Loop, rolls-Abort, rolls-Suspend, rolls-Scope, rolls-Call, rolls-Bind}
use Rattle.qz_meaning.specs.Scenes.{Scene}
use Rattle.qz_meaning.specs.Accounts.{Account}
use Rattle.qz_meaning.specs.Layouts.{Layout, bare}
use Rattle.qz_meaning.specs.Behaviors.{Behavior, idle}
use Rattle.qz_meaning.specs.Simple.{assignment, pause, pause_layout}
use Rattle.qz_meaning.specs.Sequences.{sequence, sequence_layout}
use Rattle.qz_meaning.specs.Parallels.{parallel, parallel_layout}
use Rattle.qz_meaning.specs.Choices.{choice, choice_layout}
use Rattle.qz_meaning.specs.Loops.{loop, loop_layout}
use Rattle.qz_meaning.specs.Aborts.{abort, body_layout}
use Rattle.qz_meaning.specs.Suspends.{suspend, suspend_layout}
use Rattle.qz_meaning.specs.Scopes.{scope, scope_layout}
use Rattle.qz_meaning.specs.Calls.{Calls, bound_body}
use Rattle.qz_meaning.specs.Walks.{node_behavior, behavior, node_layout, layout}

module _ {D T : Type 0} (scene : Scene) (acc : Account D T) (calls : Calls D T) where
  pub behavior-Nothing : behavior scene acc calls Nothing ≡ idle acc
  behavior-Nothing =
      ap (behavior scene acc calls) (sym rolls-Nothing) ∙ fold-roll-Stmt (Behavior D T) (node_behavior scene acc calls) Stmt-F.Nothing

  pub behavior-Assign : (x : Var) (e : Expr) → behavior scene acc calls (Assign x e) ≡ assignment scene acc false x e
  behavior-Assign x e =
      ap (behavior scene acc calls) (sym (rolls-Assign x e)) ∙ fold-roll-Stmt (Behavior D T) (node_behavior scene acc calls) (Stmt-F.Assign x e)

  pub behavior-Delayed : (x : Var) (e : Expr) → behavior scene acc calls (Delayed x e) ≡ assignment scene acc true x e
  behavior-Delayed x e =
      ap (behavior scene acc calls) (sym (rolls-Delayed x e)) ∙ fold-roll-Stmt (Behavior D T) (node_behavior scene acc calls) (Stmt-F.Delayed x e)

  pub behavior-Pause : (place : ℕ) → behavior scene acc calls (Pause place) ≡ pause acc place
  behavior-Pause place =
      ap (behavior scene acc calls) (sym (rolls-Pause place)) ∙ fold-roll-Stmt (Behavior D T) (node_behavior scene acc calls) (Stmt-F.Pause place)

  pub behavior-Seq : (parts : List Stmt) → behavior scene acc calls (Seq parts) ≡ sequence acc (map (behavior scene acc calls) parts)
  behavior-Seq parts =
      ap (behavior scene acc calls) (sym (rolls-Seq parts)) ∙ fold-roll-Stmt (Behavior D T) (node_behavior scene acc calls) (Stmt-F.Seq parts)

  pub behavior-Par : (parts : List Stmt) → behavior scene acc calls (Par parts) ≡ parallel acc (map (behavior scene acc calls) parts)
  behavior-Par parts =
      ap (behavior scene acc calls) (sym (rolls-Par parts)) ∙ fold-roll-Stmt (Behavior D T) (node_behavior scene acc calls) (Stmt-F.Par parts)

  pub behavior-If : (e : Expr) (s t : Stmt) → behavior scene acc calls (If e s t) ≡ choice scene acc e (behavior scene acc calls s) (behavior scene acc calls t)
  behavior-If e s t =
      ap (behavior scene acc calls) (sym (rolls-If e s t)) ∙ fold-roll-Stmt (Behavior D T) (node_behavior scene acc calls) (Stmt-F.If e s t)

  pub behavior-Loop : (number : ℕ) (s : Stmt) (e : Expr) → behavior scene acc calls (Loop number s e) ≡ loop scene acc number (behavior scene acc calls s) e
  behavior-Loop number s e =
      ap (behavior scene acc calls) (sym (rolls-Loop number s e)) ∙ fold-roll-Stmt (Behavior D T) (node_behavior scene acc calls) (Stmt-F.Loop number s e)

  pub behavior-Abort : (kind : Kind) (s : Stmt) (e : Expr) → behavior scene acc calls (Abort kind s e) ≡ abort scene acc kind (behavior scene acc calls s) e
  behavior-Abort kind s e =
      ap (behavior scene acc calls) (sym (rolls-Abort kind s e)) ∙ fold-roll-Stmt (Behavior D T) (node_behavior scene acc calls) (Stmt-F.Abort kind s e)

  pub behavior-Suspend : (kind : Kind) (hold : Option ℕ) (s : Stmt) (e : Expr) → behavior scene acc calls (Suspend kind hold s e) ≡ suspend scene acc kind hold (behavior scene acc calls s) e
  behavior-Suspend kind hold s e =
      ap (behavior scene acc calls) (sym (rolls-Suspend kind hold s e)) ∙ fold-roll-Stmt (Behavior D T) (node_behavior scene acc calls) (Stmt-F.Suspend kind hold s e)

  pub behavior-Scope : (locals : List ℕ) (s : Stmt) → behavior scene acc calls (Scope locals s) ≡ scope acc locals (behavior scene acc calls s)
  behavior-Scope locals s =
      ap (behavior scene acc calls) (sym (rolls-Scope locals s)) ∙ fold-roll-Stmt (Behavior D T) (node_behavior scene acc calls) (Stmt-F.Scope locals s)

  pub behavior-Call : (number proto : ℕ) (arguments : List Arg) → behavior scene acc calls (Call number proto arguments) ≡ calls number arguments
  behavior-Call number proto arguments =
      ap (behavior scene acc calls) (sym (rolls-Call number proto arguments)) ∙ fold-roll-Stmt (Behavior D T) (node_behavior scene acc calls) (Stmt-F.Call number proto arguments)

  pub behavior-Bind : (bindings : List Binding) (s : Stmt) → behavior scene acc calls (Bind bindings s) ≡ bound_body scene bindings (behavior scene acc calls s)
  behavior-Bind bindings s =
      ap (behavior scene acc calls) (sym (rolls-Bind bindings s)) ∙ fold-roll-Stmt (Behavior D T) (node_behavior scene acc calls) (Stmt-F.Bind bindings s)

-- all of them, to rewrite by
pub ruleset walking = (behavior-Nothing, behavior-Assign, behavior-Delayed, behavior-Pause, behavior-Seq, behavior-Par, behavior-If, behavior-Loop, behavior-Abort, behavior-Suspend, behavior-Scope, behavior-Call, behavior-Bind)

module _ (calls : ℕ → Layout) where
  pub layout-Nothing : layout calls Nothing ≡ bare
  layout-Nothing = ap (layout calls) (sym rolls-Nothing) ∙ fold-roll-Stmt Layout (node_layout calls) Stmt-F.Nothing

  pub layout-Assign : (x : Var) (e : Expr) → layout calls (Assign x e) ≡ bare
  layout-Assign x e = ap (layout calls) (sym (rolls-Assign x e)) ∙ fold-roll-Stmt Layout (node_layout calls) (Stmt-F.Assign x e)

  pub layout-Delayed : (x : Var) (e : Expr) → layout calls (Delayed x e) ≡ bare
  layout-Delayed x e = ap (layout calls) (sym (rolls-Delayed x e)) ∙ fold-roll-Stmt Layout (node_layout calls) (Stmt-F.Delayed x e)

  pub layout-Pause : (place : ℕ) → layout calls (Pause place) ≡ pause_layout place
  layout-Pause place = ap (layout calls) (sym (rolls-Pause place)) ∙ fold-roll-Stmt Layout (node_layout calls) (Stmt-F.Pause place)

  pub layout-Seq : (parts : List Stmt) → layout calls (Seq parts) ≡ sequence_layout (map (layout calls) parts)
  layout-Seq parts = ap (layout calls) (sym (rolls-Seq parts)) ∙ fold-roll-Stmt Layout (node_layout calls) (Stmt-F.Seq parts)

  pub layout-Par : (parts : List Stmt) → layout calls (Par parts) ≡ parallel_layout (map (layout calls) parts)
  layout-Par parts = ap (layout calls) (sym (rolls-Par parts)) ∙ fold-roll-Stmt Layout (node_layout calls) (Stmt-F.Par parts)

  pub layout-If : (e : Expr) (s t : Stmt) → layout calls (If e s t) ≡ choice_layout (layout calls s) (layout calls t)
  layout-If e s t = ap (layout calls) (sym (rolls-If e s t)) ∙ fold-roll-Stmt Layout (node_layout calls) (Stmt-F.If e s t)

  pub layout-Loop : (number : ℕ) (s : Stmt) (e : Expr) → layout calls (Loop number s e) ≡ loop_layout number (layout calls s)
  layout-Loop number s e = ap (layout calls) (sym (rolls-Loop number s e)) ∙ fold-roll-Stmt Layout (node_layout calls) (Stmt-F.Loop number s e)

  pub layout-Abort : (kind : Kind) (s : Stmt) (e : Expr) → layout calls (Abort kind s e) ≡ body_layout (layout calls s)
  layout-Abort kind s e = ap (layout calls) (sym (rolls-Abort kind s e)) ∙ fold-roll-Stmt Layout (node_layout calls) (Stmt-F.Abort kind s e)

  pub layout-Suspend : (kind : Kind) (hold : Option ℕ) (s : Stmt) (e : Expr) → layout calls (Suspend kind hold s e) ≡ suspend_layout hold (layout calls s)
  layout-Suspend kind hold s e = ap (layout calls) (sym (rolls-Suspend kind hold s e)) ∙ fold-roll-Stmt Layout (node_layout calls) (Stmt-F.Suspend kind hold s e)

  pub layout-Scope : (locals : List ℕ) (s : Stmt) → layout calls (Scope locals s) ≡ scope_layout locals (layout calls s)
  layout-Scope locals s = ap (layout calls) (sym (rolls-Scope locals s)) ∙ fold-roll-Stmt Layout (node_layout calls) (Stmt-F.Scope locals s)

  pub layout-Call : (number proto : ℕ) (arguments : List Arg) → layout calls (Call number proto arguments) ≡ calls number
  layout-Call number proto arguments = ap (layout calls) (sym (rolls-Call number proto arguments)) ∙ fold-roll-Stmt Layout (node_layout calls) (Stmt-F.Call number proto arguments)

  pub layout-Bind : (bindings : List Binding) (s : Stmt) → layout calls (Bind bindings s) ≡ layout calls s
  layout-Bind bindings s = ap (layout calls) (sym (rolls-Bind bindings s)) ∙ fold-roll-Stmt Layout (node_layout calls) (Stmt-F.Bind bindings s)

-- all of them, to rewrite by
pub ruleset laying = (layout-Nothing, layout-Assign, layout-Delayed, layout-Pause, layout-Seq, layout-Par, layout-If, layout-Loop, layout-Abort, layout-Suspend, layout-Scope, layout-Call, layout-Bind)
