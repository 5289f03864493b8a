-- A fold over the shape of a statement is a fold over the statement.
use Rattle.std.proofs.Common.{◌≡◌, ℕ, ◌+◌, List, [], ◌∷◌, map, Option, Some, None, refl, sym, ap, ap₂, subst, ◌∙◌}
use Rattle.qz_syntax.specs.declared.statements.Stmt.{Stmt, map-Stmt}
use Rattle.qz_syntax.specs.declared.statements.Stmt.TheOpen.{Stmt-F}
use Rattle.qz_syntax.specs.declared.statements.Stmt.TheFolds.{fold-Stmt, fold-roll-Stmt, ind-Stmt}
use Rattle.qz_system.specs.declared.shape.Shape.{Shape}
use Rattle.qz_system.specs.declared.shape.Shape.TheOpen.{Shape-F}
use Rattle.qz_system.specs.declared.shape.Shape.TheFolds.{fold-Shape, fold-roll-Shape}
use Rattle.qz_system.specs.declared.shape.Shape.TheVariants as shape
use Rattle.qz_closing.specs.ShapesOf.{suspend_shape, node_shape, shape_of}

-- a suspend, with its hold place if it has one
abbrev pub through_suspend : {A : Type 0} → (Shape-F A → A) → Option ℕ → A → A
through_suspend f None body = f (Shape-F.Body body)
through_suspend f (Some hold) body = f (Shape-F.Hold hold body)

-- one statement, as the fold takes its shape
abbrev pub through : {A : Type 0} → ℕ → (Shape-F A → A) → Stmt-F A → A
through outputs f Stmt-F.Nothing = f Shape-F.Leaf
through outputs f (Stmt-F.Assign target value) = f Shape-F.Leaf
through outputs f (Stmt-F.Delayed target value) = f Shape-F.Leaf
through outputs f (Stmt-F.Pause place) = f (Shape-F.Place place)
through outputs f (Stmt-F.Seq parts) = f (Shape-F.Seq parts)
through outputs f (Stmt-F.Par parts) = f (Shape-F.Par parts)
through outputs f (Stmt-F.If condition first second) = f (Shape-F.If first second)
through outputs f (Stmt-F.Loop number body condition) = f (Shape-F.Body body)
through outputs f (Stmt-F.Abort kind body condition) = f (Shape-F.Body body)
through outputs f (Stmt-F.Suspend kind hold body condition) = through_suspend f hold body
through outputs f (Stmt-F.Scope locals body) = f (Shape-F.Scope (map (λ n. outputs + n) locals) body)
through outputs f (Stmt-F.Call number proto arguments) = f Shape-F.Leaf
through outputs f (Stmt-F.Bind bindings body) = body

module _ {A : Type 0} (outputs : ℕ) (f : Shape-F A → A) where
  abbrev over : Shape → A
  over = fold-Shape A f

  abbrev S : Stmt → Shape
  S = shape_of outputs

  abbrev G : Stmt → A
  G = fold-Stmt A (through outputs f)

  over_leaf : over shape.Leaf ≡ f Shape-F.Leaf
  over_leaf = ap over (sym shape.rolls-Leaf) ∙ fold-roll-Shape A f Shape-F.Leaf

  over_body : (x : Shape) → over (shape.Body x) ≡ f (Shape-F.Body (over x))
  over_body x = ap over (sym (shape.rolls-Body x)) ∙ fold-roll-Shape A f (Shape-F.Body x)

  abbrev Claimed : Type 0
  Claimed = (s : Stmt) × (over (S s) ≡ G s)

  abbrev names : List Claimed → List Stmt
  names parts = map (λ (e : Claimed). e.0) parts

  all_over : (parts : List Claimed) → map over (map S (names parts)) ≡ map G (names parts)
  all_over [] = refl
  all_over (e ∷ parts) = ap₂ (λ (x : A) (xs : List A). x ∷ xs) e.1 (all_over parts)

  over_suspend : (hold : Option ℕ) (x : Shape) (y : A) → over x ≡ y → over (suspend_shape hold x) ≡ through_suspend f hold y
  over_suspend None x y e = over_body x ∙ ap (λ (i : A). f (Shape-F.Body i)) e
  over_suspend (Some hold) x y e =
      ap over (sym (shape.rolls-Hold hold x)) ∙ fold-roll-Shape A f (Shape-F.Hold hold x) ∙ ap (λ (i : A). f (Shape-F.Hold hold i)) e

  abbrev AtNode : Stmt-F Stmt → Type 0
  AtNode x = over (node_shape outputs (map-Stmt Stmt Shape S x)) ≡ through outputs f (map-Stmt Stmt A G x)

  at_node : (node : Stmt-F Claimed) → AtNode (map-Stmt Claimed Stmt (λ e. e.0) node)
  at_node Stmt-F.Nothing = over_leaf
  at_node (Stmt-F.Assign target value) = over_leaf
  at_node (Stmt-F.Delayed target value) = over_leaf
  at_node (Stmt-F.Pause place) = ap over (sym (shape.rolls-Place place)) ∙ fold-roll-Shape A f (Shape-F.Place place)
  at_node (Stmt-F.Seq parts) =
      ap over (sym (shape.rolls-Seq (map S (names parts)))) ∙ fold-roll-Shape A f (Shape-F.Seq (map S (names parts)))
      ∙ ap (λ (xs : List A). f (Shape-F.Seq xs)) (all_over parts)
  at_node (Stmt-F.Par parts) =
      ap over (sym (shape.rolls-Par (map S (names parts)))) ∙ fold-roll-Shape A f (Shape-F.Par (map S (names parts)))
      ∙ ap (λ (xs : List A). f (Shape-F.Par xs)) (all_over parts)
  at_node (Stmt-F.If condition first second) =
      ap over (sym (shape.rolls-If (S first.0) (S second.0))) ∙ fold-roll-Shape A f (Shape-F.If (S first.0) (S second.0))
      ∙ ap₂ (λ (x y : A). f (Shape-F.If x y)) first.1 second.1
  at_node (Stmt-F.Loop number body condition) = over_body (S body.0) ∙ ap (λ (x : A). f (Shape-F.Body x)) body.1
  at_node (Stmt-F.Abort kind body condition) = over_body (S body.0) ∙ ap (λ (x : A). f (Shape-F.Body x)) body.1
  at_node (Stmt-F.Suspend kind hold body condition) = over_suspend hold (S body.0) (G body.0) body.1
  at_node (Stmt-F.Scope locals body) =
      ap over (sym (shape.rolls-Scope (map (λ n. outputs + n) locals) (S body.0)))
      ∙ fold-roll-Shape A f (Shape-F.Scope (map (λ n. outputs + n) locals) (S body.0))
      ∙ ap (λ (x : A). f (Shape-F.Scope (map (λ n. outputs + n) locals) x)) body.1
  at_node (Stmt-F.Call number proto arguments) = over_leaf
  at_node (Stmt-F.Bind bindings body) = body.1

  pub fold_through : (s : Stmt) → over (S s) ≡ G s
  fold_through = ind-Stmt (λ s. over (S s) ≡ G s) (λ x y is.
      ap over (fold-roll-Stmt Shape (node_shape outputs) x) ∙ subst AtNode is (at_node y) ∙ sym (fold-roll-Stmt A (through outputs f) x))
