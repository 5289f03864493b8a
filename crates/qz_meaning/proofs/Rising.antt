-- Walks are monotone: what is known more of the instances makes more known of what is done.
use Rattle.std.proofs.Common.{◌≡◌, ℕ, zero, suc, ◌+◌, Bool, true, false, List, [], ◌∷◌, ◌++◌, map, drop, Option, Some, None, refl, sym, ap, subst, subst₂}
use Rattle.std.specs.Prelude.{◌==◌, if◌then◌else◌}
use Rattle.std.specs.List.{flat_map, AllZip}
use Rattle.qz_values.specs.declared.Know.{Know}
use Rattle.qz_values.specs.declared.Know.TheVariants.{Known}
use Rattle.qz_values.specs.declared.Op1.TheVariants.{Not}
use Rattle.qz_values.specs.declared.Op2.TheVariants.{And, Or}
use Rattle.qz_values.specs.Values.{yes}
use Rattle.qz_values.specs.Knowledge.{both, either, opposite}
use Rattle.qz_values.specs.Order.{Below}
use Rattle.qz_values.proofs.Monotone.{monotone1, monotone2, monotone_choose, monotone_bit, monotone_slice, monotone_concat}
use Rattle.qz_syntax.specs.declared.expressions.Var.{Var}
use Rattle.qz_syntax.specs.declared.expressions.Var.TheVariants as var
use Rattle.qz_syntax.specs.declared.expressions.Expr.{Expr, map-Expr}
use Rattle.qz_syntax.specs.declared.expressions.Expr.TheOpen.{Expr-F}
use Rattle.qz_syntax.specs.declared.expressions.Expr.TheFolds.{fold-roll-Expr, ind-Expr}
use Rattle.qz_syntax.specs.declared.statements.Kind.{Kind}
use Rattle.qz_syntax.specs.declared.statements.Binding.{Binding}
use Rattle.qz_syntax.specs.declared.statements.Stmt.{Stmt, map-Stmt}
use Rattle.qz_syntax.specs.declared.statements.Stmt.TheOpen.{Stmt-F}
use Rattle.qz_syntax.specs.declared.statements.Stmt.TheFolds.{fold-roll-Stmt, ind-Stmt}
use Rattle.qz_syntax.specs.declared.places.Mark.{Mark}
use Rattle.qz_syntax.specs.declared.places.Mark.TheVariants as mark
use Rattle.qz_syntax.specs.declared.places.Residual.{Residual}
use Rattle.qz_syntax.specs.Numbers.{contains}
use Rattle.qz_meaning.specs.Instances.{local_instance}
use Rattle.qz_meaning.specs.Scenes.{Scene, Context, with_locals, instance_here}
use Rattle.qz_meaning.specs.Expressions.{known_here, node_value, value_here, bound_by, with_bindings}
use Rattle.qz_meaning.specs.Residuals.{inner, member_of, branches_of, side_of, is_held}
use Rattle.qz_meaning.specs.Accounts.{Account}
use Rattle.qz_meaning.specs.Behaviors.{Behavior, idle}
use Rattle.qz_meaning.specs.Simple.{assignment, pause}
use Rattle.qz_meaning.specs.Sequences.{start_in_turn, ends_of_all, member, sequence}
use Rattle.qz_meaning.specs.Parallels.{resting, ended_of_all, parallel}
use Rattle.qz_meaning.specs.Choices.{choice}
use Rattle.qz_meaning.specs.Loops.{loop}
use Rattle.qz_meaning.specs.Aborts.{body_guard, start_guard, abort}
use Rattle.qz_meaning.specs.Suspends.{suspend, ends_on_start}
use Rattle.qz_meaning.specs.Scopes.{scope}
use Rattle.qz_meaning.specs.Calls.{Calls, bound_body}
use Rattle.qz_meaning.specs.Walks.{node_behavior, behavior}
use Rattle.qz_meaning.specs.Rising.{SceneBelow, ContextBelow, Rises, ListsRising, CallsRise}

both_up : (a b c d : Know) → Below a b → Below c d → Below (both a c) (both b d)
both_up a b c d p q = monotone2 And a b c d p q

either_up : (a b c d : Know) → Below a b → Below c d → Below (either a c) (either b d)
either_up a b c d p q = monotone2 Or a b c d p q

opposite_up : (a b : Know) → Below a b → Below (opposite a) (opposite b)
opposite_up a b p = monotone1 Not a b p

if_up : (c : Bool) (x y v w : Know) → Below x y → Below v w → Below (if c then x else v) (if c then y else w)
if_up true x y v w p q = p
if_up false x y v w p q = q

pub zip-append : {A B : Type 0} (R : A → B → Type 0) (xs vs : List A) (ys ws : List B) → AllZip R xs ys → AllZip R vs ws → AllZip R (xs ++ vs) (ys ++ ws)
zip-append R [] vs [] ws p q = q
zip-append R [] vs (y ∷ ys) ws p q = absurd p
zip-append R (x ∷ xs) vs [] ws p q = absurd p
zip-append R (x ∷ xs) vs (y ∷ ys) ws p q = (p.0, zip-append R xs vs ys ws p.1 q)

zip-drop : {A B : Type 0} (R : A → B → Type 0) (xs : List A) (ys : List B) (n : ℕ) → AllZip R xs ys → AllZip R (drop n xs) (drop n ys)
zip-drop R xs ys zero p = p
zip-drop R [] [] (suc n) p = tt
zip-drop R [] (y ∷ ys) (suc n) p = absurd p
zip-drop R (x ∷ xs) [] (suc n) p = absurd p
zip-drop R (x ∷ xs) (y ∷ ys) (suc n) p = zip-drop R xs ys n p.1

zip-if : {A B : Type 0} (R : A → B → Type 0) (c : Bool) (xs vs : List A) (ys ws : List B) → AllZip R xs ys → AllZip R vs ws
    → AllZip R (if c then xs else vs) (if c then ys else ws)
zip-if R true xs vs ys ws p q = p
zip-if R false xs vs ys ws p q = q

module _ (s t : Scene) (up : SceneBelow s t) where
  pub same_instance : (c d : Context) → ContextBelow c d → (x : Var) → instance_here c x ≡ instance_here d x
  same_instance c d k (var.Formal n) = refl
  same_instance c d k (var.Local n) = ap (local_instance n) (k.marks n)
  same_instance c d k (var.Bound n) = refl

  known_up : (c d : Context) → ContextBelow c d → (x : Var) → Below (known_here s c x) (known_here t d x)
  known_up c d k (var.Formal n) = up _
  known_up c d k (var.Local n) = subst (λ i. Below (s (instance_here c (var.Local n))) (t i)) (same_instance c d k (var.Local n)) (up _)
  known_up c d k (var.Bound n) = k.bound n

  module _ (c d : Context) (k : ContextBelow c d) where
    abbrev Valued : Type 0
    Valued = (e : Expr) × Below (value_here s c e) (value_here t d e)

    abbrev AtNode : Expr-F Expr → Type 0
    AtNode x = Below (node_value s c (map-Expr Expr Know (value_here s c) x)) (node_value t d (map-Expr Expr Know (value_here t d) x))

    node_up : (node : Expr-F Valued) → AtNode (map-Expr Valued Expr (λ e. e.0) node)
    node_up (Expr-F.Lit value) = refl
    node_up (Expr-F.Var x) = known_up c d k x
    node_up (Expr-F.Un op a) = monotone1 op _ _ a.1
    node_up (Expr-F.Bin op a b) = monotone2 op _ _ _ _ a.1 b.1
    node_up (Expr-F.Choose i a b) = monotone_choose _ _ _ _ _ _ i.1 a.1 b.1
    node_up (Expr-F.Bit a index) = monotone_bit index _ _ a.1
    node_up (Expr-F.Slice a high low) = monotone_slice high low _ _ a.1
    node_up (Expr-F.Concat a b) = monotone_concat _ _ _ _ a.1 b.1

    -- no expression is known less
    pub values_up : (e : Expr) → Below (value_here s c e) (value_here t d e)
    values_up = ind-Expr (λ e. Below (value_here s c e) (value_here t d e)) (λ x y is.
        subst₂ Below (sym (fold-roll-Expr Know (node_value s c) x)) (sym (fold-roll-Expr Know (node_value t d) x)) (subst AtNode is (node_up y)))

  locals_up : (c d : Context) (locals : List ℕ) (m : Mark) → ContextBelow c d → ContextBelow (with_locals c locals m) (with_locals d locals m)
  locals_up c d locals m k = record { marks = λ n. ap (λ i. if contains locals n then m else i) (k.marks n); bound = k.bound }

  bound_up : (c d : Context) → ContextBelow c d → (bindings : List Binding) (n : ℕ) → Below (bound_by s c bindings n) (bound_by t d bindings n)
  bound_up c d k [] n = k.bound n
  bound_up c d k (binding ∷ bindings) n = if_up (binding.number == n) _ _ _ _ (values_up c d k binding.value) (bound_up c d k bindings n)

  bindings_up : (c d : Context) (bindings : List Binding) → ContextBelow c d → ContextBelow (with_bindings s c bindings) (with_bindings t d bindings)
  bindings_up c d bindings k = record { marks = k.marks; bound = bound_up c d k bindings }

  body_guard_up : (kind : Kind) (v w g h : Know) → Below v w → Below g h → Below (body_guard kind v g) (body_guard kind w h)
  body_guard_up kind v w g h p q = if_up kind.weak _ _ _ _ q (both_up _ _ _ _ q (opposite_up _ _ p))

  start_guard_up : (kind : Kind) (v w g h : Know) → Below v w → Below g h → Below (start_guard kind v g) (start_guard kind w h)
  start_guard_up kind v w g h p q = if_up kind.immediate _ _ _ _ (body_guard_up kind v w g h p q) q

  module _ (D T : Type 0) (R : D → D → Type 0) (acc acc₂ : Account D T) (listed : ListsRising R acc acc₂) where
    abbrev B : Type 0
    B = Behavior D T

    pub up_idle : Rises R (idle acc) (idle acc₂)
    up_idle = record {
      ends = λ c d m k. refl;
      start = λ c d g h m k p. tt;
      ended = λ c d r k. refl;
      resume = λ c d r g h k p. tt;
    }

    up_assignment : (delayed : Bool) (x : Var) (e : Expr) → Rises R (assignment s acc delayed x e) (assignment t acc₂ delayed x e)
    up_assignment delayed x e = record {
      ends = λ c d m k. refl;
      start = λ c d g h m k p.
          (listed _ _ record { target = same_instance c d k x; delayed = refl; guard = p; value = values_up c d k e }, tt);
      ended = λ c d r k. refl;
      resume = λ c d r g h k p. tt;
    }

    up_pause : (place : ℕ) → Rises R (pause acc place) (pause acc₂ place)
    up_pause place = record {
      ends = λ c d m k. refl;
      start = λ c d g h m k p. tt;
      ended = λ c d r k. refl;
      resume = λ c d r g h k p. tt;
    }

    start_up : (xs ys : List B) → AllZip (Rises R) xs ys → (c d : Context) (g h : Know) (m : Mark) → ContextBelow c d → Below g h
        → AllZip R (start_in_turn c xs g m) (start_in_turn d ys h m)
    start_up [] [] u c d g h m k p = tt
    start_up [] (y ∷ ys) u c d g h m k p = absurd u
    start_up (x ∷ xs) [] u c d g h m k p = absurd u
    start_up (x ∷ xs) (y ∷ ys) u c d g h m k p =
        zip-append R _ _ _ _ (u.0.start c d g h m k p) (start_up xs ys u.1 c d _ _ m k (both_up _ _ _ _ p (u.0.ends c d m k)))

    ends_up : (xs ys : List B) → AllZip (Rises R) xs ys → (c d : Context) (g h : Know) (m : Mark) → ContextBelow c d → Below g h
        → Below (ends_of_all c xs g m) (ends_of_all d ys h m)
    ends_up [] [] u c d g h m k p = p
    ends_up [] (y ∷ ys) u c d g h m k p = absurd u
    ends_up (x ∷ xs) [] u c d g h m k p = absurd u
    ends_up (x ∷ xs) (y ∷ ys) u c d g h m k p = ends_up xs ys u.1 c d _ _ m k (both_up _ _ _ _ p (u.0.ends c d m k))

    member_up : (xs ys : List B) (n : ℕ) → AllZip (Rises R) xs ys → Rises R (member (idle acc) xs n) (member (idle acc₂) ys n)
    member_up [] [] n u = up_idle
    member_up [] (y ∷ ys) n u = absurd u
    member_up (x ∷ xs) [] n u = absurd u
    member_up (x ∷ xs) (y ∷ ys) zero u = u.0
    member_up (x ∷ xs) (y ∷ ys) (suc n) u = member_up xs ys n u.1

    up_sequence : (xs ys : List B) → AllZip (Rises R) xs ys → Rises R (sequence acc xs) (sequence acc₂ ys)
    up_sequence xs ys u = record {
      ends = λ c d m k. ends_up xs ys u c d (Known yes) (Known yes) m k refl;
      start = λ c d g h m k p. start_up xs ys u c d g h m k p;
      ended = λ c d r k.
          ends_up _ _ (zip-drop (Rises R) xs ys (member_of r + 1) u) c d _ _ mark.Zero k ((member_up xs ys (member_of r) u).ended c d (inner r) k);
      resume = λ c d r g h k p.
          let own = member_up xs ys (member_of r) u in
          zip-append R _ _ _ _ (own.resume c d (inner r) g h k p)
          (start_up _ _ (zip-drop (Rises R) xs ys (member_of r + 1) u) c d _ _ mark.Zero k (both_up _ _ _ _ p (own.ended c d (inner r) k)));
    }

    start_each : (xs ys : List B) → AllZip (Rises R) xs ys → (c d : Context) (g h : Know) (m : Mark) → ContextBelow c d → Below g h
        → AllZip R (flat_map (λ (part : B). part.start c g m) xs) (flat_map (λ (part : B). part.start d h m) ys)
    start_each [] [] u c d g h m k p = tt
    start_each [] (y ∷ ys) u c d g h m k p = absurd u
    start_each (x ∷ xs) [] u c d g h m k p = absurd u
    start_each (x ∷ xs) (y ∷ ys) u c d g h m k p = zip-append R _ _ _ _ (u.0.start c d g h m k p) (start_each xs ys u.1 c d g h m k p)

    resume_each : (xs ys : List B) (branches : List (Option Residual)) → AllZip (Rises R) xs ys → (c d : Context) (g h : Know) → ContextBelow c d → Below g h
        → AllZip R (flat_map (λ (one : B × Residual). one.0.resume c one.1 g) (resting xs branches)) (flat_map (λ (one : B × Residual). one.0.resume d one.1 h) (resting ys branches))
    resume_each [] [] branches u c d g h k p = tt
    resume_each [] (y ∷ ys) branches u c d g h k p = absurd u
    resume_each (x ∷ xs) [] branches u c d g h k p = absurd u
    resume_each (x ∷ xs) (y ∷ ys) [] u c d g h k p = tt
    resume_each (x ∷ xs) (y ∷ ys) (None ∷ branches) u c d g h k p = resume_each xs ys branches u.1 c d g h k p
    resume_each (x ∷ xs) (y ∷ ys) (Some r ∷ branches) u c d g h k p =
        zip-append R _ _ _ _ (u.0.resume c d r g h k p) (resume_each xs ys branches u.1 c d g h k p)

    ended_each : (xs ys : List B) (branches : List (Option Residual)) → AllZip (Rises R) xs ys → (c d : Context) (g h : Know) → ContextBelow c d → Below g h
        → Below (ended_of_all c (resting xs branches) g) (ended_of_all d (resting ys branches) h)
    ended_each [] [] branches u c d g h k p = p
    ended_each [] (y ∷ ys) branches u c d g h k p = absurd u
    ended_each (x ∷ xs) [] branches u c d g h k p = absurd u
    ended_each (x ∷ xs) (y ∷ ys) [] u c d g h k p = p
    ended_each (x ∷ xs) (y ∷ ys) (None ∷ branches) u c d g h k p = ended_each xs ys branches u.1 c d g h k p
    ended_each (x ∷ xs) (y ∷ ys) (Some r ∷ branches) u c d g h k p =
        ended_each xs ys branches u.1 c d _ _ k (both_up _ _ _ _ p (u.0.ended c d r k))

    up_parallel : (xs ys : List B) → AllZip (Rises R) xs ys → Rises R (parallel acc xs) (parallel acc₂ ys)
    up_parallel xs ys u = record {
      ends = λ c d m k. ends_up xs ys u c d (Known yes) (Known yes) m k refl;
      start = λ c d g h m k p. start_each xs ys u c d g h m k p;
      ended = λ c d r k. ended_each xs ys (branches_of r) u c d (Known yes) (Known yes) k refl;
      resume = λ c d r g h k p. resume_each xs ys (branches_of r) u c d g h k p;
    }

    up_if : (side : Bool) (a b v w : B) → Rises R a b → Rises R v w → Rises R (if side then a else v) (if side then b else w)
    up_if true a b v w x y = x
    up_if false a b v w x y = y

    up_choice : (e : Expr) (a b v w : B) → Rises R a b → Rises R v w → Rises R (choice s acc e a v) (choice t acc₂ e b w)
    up_choice e a b v w x y = record {
      ends = λ c d m k.
          let value = values_up c d k e in
          either_up _ _ _ _ (both_up _ _ _ _ value (x.ends c d m k)) (both_up _ _ _ _ (opposite_up _ _ value) (y.ends c d m k));
      start = λ c d g h m k p.
          let value = values_up c d k e in
          zip-append R _ _ _ _ (x.start c d _ _ m k (both_up _ _ _ _ p value)) (y.start c d _ _ m k (both_up _ _ _ _ p (opposite_up _ _ value)));
      ended = λ c d r k. (up_if (side_of r) a b v w x y).ended c d (inner r) k;
      resume = λ c d r g h k p. (up_if (side_of r) a b v w x y).resume c d (inner r) g h k p;
    }

    up_loop : (number : ℕ) (e : Expr) (a b : B) → Rises R a b → Rises R (loop s acc number a e) (loop t acc₂ number b e)
    up_loop number e a b x = record {
      ends = λ c d m k. refl;
      start = λ c d g h m k p. x.start c d g h m k p;
      ended = λ c d r k. both_up _ _ _ _ (x.ended c d (inner r) k) (opposite_up _ _ (values_up c d k e));
      resume = λ c d r g h k p.
          zip-append R _ _ _ _ (x.resume c d (inner r) g h k p)
          (x.start c d _ _ (mark.Loop number) k (both_up _ _ _ _ (both_up _ _ _ _ p (x.ended c d (inner r) k)) (values_up c d k e)));
    }

    up_abort : (kind : Kind) (e : Expr) (a b : B) → Rises R a b → Rises R (abort s acc kind a e) (abort t acc₂ kind b e)
    up_abort kind e a b x = record {
      ends = λ c d m k. if_up kind.immediate _ _ _ _ (either_up _ _ _ _ (values_up c d k e) (x.ends c d m k)) (x.ends c d m k);
      start = λ c d g h m k p. x.start c d _ _ m k (start_guard_up kind _ _ g h (values_up c d k e) p);
      ended = λ c d r k. either_up _ _ _ _ (values_up c d k e) (x.ended c d (inner r) k);
      resume = λ c d r g h k p. x.resume c d (inner r) _ _ k (body_guard_up kind _ _ g h (values_up c d k e) p);
    }

    up_suspend : (kind : Kind) (hold : Option ℕ) (e : Expr) (a b : B) → Rises R a b → Rises R (suspend s acc kind hold a e) (suspend t acc₂ kind hold b e)
    up_suspend kind hold e a b x = record {
      ends = λ c d m k. on_start c d m k;
      start = λ c d g h m k p. x.start c d _ _ m k (start_guard_up kind _ _ g h (values_up c d k e) p);
      ended = λ c d r k.
          if_up (is_held r) _ _ _ _ (on_start c d mark.Zero k) (both_up _ _ _ _ (opposite_up _ _ (values_up c d k e)) (x.ended c d (inner r) k));
      resume = λ c d r g h k p.
          zip-if R (is_held r) _ _ _ _ (x.start c d _ _ mark.Zero k (start_guard_up kind _ _ g h (values_up c d k e) p))
          (x.resume c d (inner r) _ _ k (body_guard_up kind _ _ g h (values_up c d k e) p));
    } where
      on_start : (c d : Context) (m : Mark) → ContextBelow c d → Below (ends_on_start s kind a e c m) (ends_on_start t kind b e d m)
      on_start c d m k = if_up kind.immediate _ _ _ _ (both_up _ _ _ _ (opposite_up _ _ (values_up c d k e)) (x.ends c d m k)) (x.ends c d m k)

    up_scope : (locals : List ℕ) (a b : B) → Rises R a b → Rises R (scope acc locals a) (scope acc₂ locals b)
    up_scope locals a b x = record {
      ends = λ c d m k. x.ends _ _ m (locals_up c d locals m k);
      start = λ c d g h m k p. x.start _ _ g h m (locals_up c d locals m k) p;
      ended = λ c d r k. x.ended _ _ (inner r) (locals_up c d locals mark.Zero k);
      resume = λ c d r g h k p. x.resume _ _ (inner r) g h (locals_up c d locals mark.Zero k) p;
    }

    up_bound : (bindings : List Binding) (a b : B) → Rises R a b → Rises R (bound_body s bindings a) (bound_body t bindings b)
    up_bound bindings a b x = record {
      ends = λ c d m k. x.ends _ _ m (bindings_up c d bindings k);
      start = λ c d g h m k p. x.start _ _ g h m (bindings_up c d bindings k) p;
      ended = λ c d r k. x.ended _ _ r (bindings_up c d bindings k);
      resume = λ c d r g h k p. x.resume _ _ r g h (bindings_up c d bindings k) p;
    }

    module _ (calls calls₂ : Calls D T) (called : CallsRise R calls calls₂) where
      abbrev F : Stmt → B
      F = behavior s acc calls

      abbrev G : Stmt → B
      G = behavior t acc₂ calls₂

      abbrev Raised : Type 0
      Raised = (e : Stmt) × Rises R (F e) (G e)

      all_up : (parts : List Raised) → AllZip (Rises R) (map F (map (λ (e : Raised). e.0) parts)) (map G (map (λ (e : Raised). e.0) parts))
      all_up [] = tt
      all_up (e ∷ parts) = (e.1, all_up parts)

      abbrev AtStmt : Stmt-F Stmt → Type 0
      AtStmt x = Rises R (node_behavior s acc calls (map-Stmt Stmt B F x)) (node_behavior t acc₂ calls₂ (map-Stmt Stmt B G x))

      at_stmt : (node : Stmt-F Raised) → AtStmt (map-Stmt Raised Stmt (λ e. e.0) node)
      at_stmt Stmt-F.Nothing = up_idle
      at_stmt (Stmt-F.Assign target value) = up_assignment false target value
      at_stmt (Stmt-F.Delayed target value) = up_assignment true target value
      at_stmt (Stmt-F.Pause place) = up_pause place
      at_stmt (Stmt-F.Seq parts) = up_sequence _ _ (all_up parts)
      at_stmt (Stmt-F.Par parts) = up_parallel _ _ (all_up parts)
      at_stmt (Stmt-F.If condition first second) = up_choice condition _ _ _ _ first.1 second.1
      at_stmt (Stmt-F.Loop number body condition) = up_loop number condition _ _ body.1
      at_stmt (Stmt-F.Abort kind body condition) = up_abort kind condition _ _ body.1
      at_stmt (Stmt-F.Suspend kind hold body condition) = up_suspend kind hold condition _ _ body.1
      at_stmt (Stmt-F.Scope locals body) = up_scope locals _ _ body.1
      at_stmt (Stmt-F.Call number proto arguments) = called number arguments
      at_stmt (Stmt-F.Bind bindings body) = up_bound bindings _ _ body.1

      -- for every statement
      pub walks_rise : (e : Stmt) → Rises R (F e) (G e)
      walks_rise = ind-Stmt (λ e. Rises R (F e) (G e)) (λ x y is.
          subst₂ (Rises R) (sym (fold-roll-Stmt B (node_behavior s acc calls) x)) (sym (fold-roll-Stmt B (node_behavior t acc₂ calls₂) x))
          (subst AtStmt is (at_stmt y)))
