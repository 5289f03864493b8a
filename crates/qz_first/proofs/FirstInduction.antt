-- Induction over the statements of the first language.
use Rattle.std.proofs.Common.{◌≡◌, ℕ, Bool, true, nat_lt, List, [], ◌∷◌, map, sym, subst, ◌∙◌}
use Rattle.std.specs.List.{list_all, AllByRecursion}
use Rattle.std.proofs.lemmas.Bool.{and_parts, false≢true}
use Rattle.qz_syntax.specs.declared.expressions.Var.TheVariants as var
use Rattle.qz_syntax.specs.declared.expressions.Expr.{Expr}
use Rattle.qz_syntax.specs.declared.statements.Stmt.{Stmt, map-Stmt, roll-Stmt}
use Rattle.qz_syntax.specs.declared.statements.Stmt.TheOpen.{Stmt-F}
use Rattle.qz_syntax.specs.declared.statements.Stmt.TheFolds.{fold-roll-Stmt, ind-Stmt}
use Rattle.qz_syntax.specs.declared.statements.Stmt.TheVariants as stmt
use Rattle.qz_first.specs.Mirror.{bit_of}
use Rattle.qz_first.specs.FirstLanguage.{node_is_first, is_first}

module _ (outputs : ℕ) (Claim : Stmt → Type 0)
    (nothing : Claim stmt.Nothing)
    (emit : (n : ℕ) (value : Expr) → nat_lt n outputs ≡ true → bit_of value ≡ true → Claim (stmt.Assign (var.Formal n) value))
    (pause : (place : ℕ) → Claim (stmt.Pause place))
    (seq : (parts : List Stmt) → AllByRecursion Claim parts → Claim (stmt.Seq parts))
    (loop : (number : ℕ) (body : Stmt) (condition : Expr) → bit_of condition ≡ true → Claim body → Claim (stmt.Loop number body condition)) where
  -- a statement for which the claim stands, where it is of the first language
  abbrev Proved : Type 0
  Proved = (s : Stmt) × (is_first outputs s ≡ true → Claim s)

  abbrev bare : Stmt-F Proved → Stmt-F Stmt
  bare node = map-Stmt Proved Stmt (λ e. e.0) node

  all_parts : (parts : List Proved) → list_all (λ part. part) (map (is_first outputs) (map (λ (e : Proved). e.0) parts)) ≡ true
      → AllByRecursion Claim (map (λ (e : Proved). e.0) parts)
  all_parts [] h = tt
  all_parts (e ∷ parts) h = let both = and_parts _ _ h in (e.1 both.0, all_parts parts both.1)

  at_node : (node : Stmt-F Proved) → node_is_first outputs (map-Stmt Stmt Bool (is_first outputs) (bare node)) ≡ true → Claim (roll-Stmt (bare node))
  at_node Stmt-F.Nothing h = rw stmt.rolls-Nothing nothing
  at_node (Stmt-F.Assign (var.Formal n) value) h =
      let both = and_parts _ _ h in rw (stmt.rolls-Assign (var.Formal n) value) (emit n value both.0 both.1)
  at_node (Stmt-F.Assign (var.Local n) value) h = absurd (false≢true h)
  at_node (Stmt-F.Assign (var.Bound n) value) h = absurd (false≢true h)
  at_node (Stmt-F.Delayed target value) h = absurd (false≢true h)
  at_node (Stmt-F.Pause place) h = rw (stmt.rolls-Pause place) (pause place)
  at_node (Stmt-F.Seq parts) h = rw (stmt.rolls-Seq (map (λ (e : Proved). e.0) parts)) (seq (map (λ (e : Proved). e.0) parts) (all_parts parts h))
  at_node (Stmt-F.Par parts) h = absurd (false≢true h)
  at_node (Stmt-F.If condition first second) h = absurd (false≢true h)
  at_node (Stmt-F.Loop number body condition) h =
      let both = and_parts _ _ h in
      rw (stmt.rolls-Loop number body.0 condition) (loop number body.0 condition both.1 (body.1 both.0))
  at_node (Stmt-F.Abort kind body condition) h = absurd (false≢true h)
  at_node (Stmt-F.Suspend kind hold body condition) h = absurd (false≢true h)
  at_node (Stmt-F.Scope locals body) h = absurd (false≢true h)
  at_node (Stmt-F.Call number proto arguments) h = absurd (false≢true h)
  at_node (Stmt-F.Bind bindings body) h = absurd (false≢true h)

  pub first_induction : (s : Stmt) → is_first outputs s ≡ true → Claim s
  first_induction = ind-Stmt (λ s. is_first outputs s ≡ true → Claim s) (λ x y is.
      subst (λ z. is_first outputs (roll-Stmt z) ≡ true → Claim (roll-Stmt z)) is
      (λ h. at_node y (sym (fold-roll-Stmt Bool (node_is_first outputs) (bare y)) ∙ h)))
