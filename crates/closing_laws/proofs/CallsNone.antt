-- A module without prototypes has no calls.
use Rattle.std.proofs.Common.{◌≡◌, ℕ, Bool, true, List, [], ◌∷◌, ◌++◌, map, refl, sym, ap, ap₂, subst, ◌∙◌}
use Rattle.std.specs.List.{list_all, concat}
use Rattle.std.proofs.lemmas.Bool.{false≢true, and_parts}
use Rattle.qz_syntax.specs.declared.statements.Stmt.{Stmt, map-Stmt}
use Rattle.qz_syntax.specs.declared.statements.Stmt.TheOpen.{Stmt-F}
use Rattle.qz_syntax.specs.declared.statements.Stmt.TheFolds.{fold-roll-Stmt, ind-Stmt}
use Rattle.qz_syntax.specs.declared.modules.Module.{Module}
use Rattle.qz_syntax.specs.Numbers.{parts_of, own_calls, calls_of}
use Rattle.qz_syntax.specs.Typing.{Sight}
use Rattle.qz_syntax.specs.Sound.{types_bound, in_scope, with_bound, node_is_sound, is_sound}
use Rattle.qz_syntax.specs.WellFormed.{declared_by}

module _ (m : Module) where
  abbrev S : Stmt → Sight → Bool
  S = is_sound (declared_by [] m)

  abbrev Claimed : Type 0
  Claimed = (s : Stmt) × ((sight : Sight) → S s sight ≡ true → calls_of s ≡ [])

  abbrev names : List Claimed → List Stmt
  names parts = map (λ (e : Claimed). e.0) parts

  all_none : (parts : List Claimed) (sight : Sight) → list_all (λ (part : Sight → Bool). part sight) (map S (names parts)) ≡ true → concat (map calls_of (names parts)) ≡ []
  all_none [] sight h = refl
  all_none (e ∷ parts) sight h =
      let two = and_parts _ _ h in ap₂ (λ (x y : List ℕ). x ++ y) (e.1 sight two.0) (all_none parts sight two.1)

  abbrev node_calls : Stmt-F (List ℕ) → List ℕ
  node_calls node = own_calls node ++ concat (parts_of node)

  abbrev AtNode : Stmt-F Stmt → Type 0
  AtNode x =
      (sight : Sight) → node_is_sound (declared_by [] m) (map-Stmt Stmt (Sight → Bool) S x) sight ≡ true
      → node_calls (map-Stmt Stmt (List ℕ) calls_of x) ≡ []

  at_node : (node : Stmt-F Claimed) → AtNode (map-Stmt Claimed Stmt (λ e. e.0) node)
  at_node Stmt-F.Nothing sight h = refl
  at_node (Stmt-F.Assign target value) sight h = refl
  at_node (Stmt-F.Delayed target value) sight h = refl
  at_node (Stmt-F.Pause place) sight h = refl
  at_node (Stmt-F.Seq parts) sight h = all_none parts sight (and_parts _ _ h).1
  at_node (Stmt-F.Par parts) sight h = all_none parts sight (and_parts _ _ h).1
  at_node (Stmt-F.If condition first second) sight h =
      let sides = and_parts _ _ (and_parts _ _ h).1 in ap₂ (λ (x y : List ℕ). x ++ (y ++ [])) (first.1 sight sides.0) (second.1 sight sides.1)
  at_node (Stmt-F.Loop number body condition) sight h = ap (λ (x : List ℕ). x ++ []) (body.1 sight (and_parts _ _ h).1)
  at_node (Stmt-F.Abort kind body condition) sight h = ap (λ (x : List ℕ). x ++ []) (body.1 sight (and_parts _ _ h).1)
  at_node (Stmt-F.Suspend kind hold body condition) sight h = ap (λ (x : List ℕ). x ++ []) (body.1 sight (and_parts _ _ (and_parts _ _ h).1).1)
  at_node (Stmt-F.Scope locals body) sight h = ap (λ (x : List ℕ). x ++ []) (body.1 (in_scope sight locals) (and_parts _ _ h).1)
  at_node (Stmt-F.Call number proto arguments) sight h = absurd (false≢true h)
  at_node (Stmt-F.Bind bindings body) sight h =
      ap (λ (x : List ℕ). x ++ []) (body.1 (with_bound sight (types_bound (declared_by [] m) sight bindings)) (and_parts _ _ h).1)

  pub calls_none : (s : Stmt) (sight : Sight) → S s sight ≡ true → calls_of s ≡ []
  calls_none = ind-Stmt (λ s. (sight : Sight) → S s sight ≡ true → calls_of s ≡ []) (λ x y is sight h.
      fold-roll-Stmt (List ℕ) node_calls x
      ∙ subst AtNode is (at_node y) sight (ap (λ i. i sight) (sym (fold-roll-Stmt (Sight → Bool) (node_is_sound (declared_by [] m)) x)) ∙ h))
