-- The loops round a local are loops of the body, each as often as there.
use Rattle.std.proofs.Common.{ℕ, ◌≤◌, Bool, true, false, List, [], ◌∷◌, ◌++◌, map, Option, Some, None, sym, subst, subst₂, arith}
use Rattle.std.specs.Prelude.{if◌then◌else◌, unwrap_or}
use Rattle.std.specs.Option.{option_map, option_or}
use Rattle.std.specs.List.{concat}
use Rattle.qz_syntax.specs.declared.statements.Stmt.{Stmt, map-Stmt}
use Rattle.qz_syntax.specs.declared.statements.Stmt.TheOpen.{Stmt-F}
use Rattle.qz_syntax.specs.declared.statements.Stmt.TheFolds.{fold-roll-Stmt, ind-Stmt}
use Rattle.qz_syntax.specs.Numbers.{parts_of, own_loops, loops_of, contains}
use Rattle.qz_syntax.specs.Marks.{first_some, node_loops_round, loops_round}
use Rattle.qz_meaning.specs.Programs.{times}
use Rattle.qz_meaning.proofs.MetOnce.{times-append}

-- the loops of an answer, each no oftener than in a list
abbrev pub Within : Option (List ℕ) → List ℕ → Type 0
Within answer loops = (q : ℕ) → times q (unwrap_or answer []) ≤ times q loops

none : (loops : List ℕ) → Within None loops
none loops q = omega arith

either : (a b : Option (List ℕ)) (xs ys : List ℕ) → Within a xs → Within b ys → Within (option_or a b) (xs ++ ys)
either (Some inner) b xs ys h k q = let all = times-append q xs ys in let one = h q in omega (arith, all, one)
either None b xs ys h k q = let all = times-append q xs ys in let two = k q in omega (arith, all, two)

only : (a : Option (List ℕ)) (xs : List ℕ) → Within a xs → Within a (xs ++ [])
only a xs h q = let all = times-append q xs [] in let one = h q in omega (arith, all, one)

in_loop : (number : ℕ) (a : Option (List ℕ)) (xs : List ℕ) → Within a xs → Within (option_map (λ inner. number ∷ inner) a) (number ∷ (xs ++ []))
in_loop number (Some inner) xs h q = let one = only (Some inner) xs h q in omega (arith, one)
in_loop number None xs h q = omega arith

in_scope : (b : Bool) (a : Option (List ℕ)) (xs : List ℕ) → Within a xs → Within (if b then Some [] else a) (xs ++ [])
in_scope true a xs h q = omega arith
in_scope false a xs h q = only a xs h q

module _ (local : ℕ) where
  abbrev Claimed : Type 0
  Claimed = (s : Stmt) × Within (loops_round local s) (loops_of s)

  abbrev names : List Claimed → List Stmt
  names parts = map (λ (e : Claimed). e.0) parts

  in_parts : (parts : List Claimed) → Within (first_some (map (loops_round local) (names parts))) (concat (map loops_of (names parts)))
  in_parts [] = none []
  in_parts (e ∷ parts) =
      either (loops_round local e.0) (first_some (map (loops_round local) (names parts))) (loops_of e.0) (concat (map loops_of (names parts))) e.1 (in_parts parts)

  abbrev node_loops : Stmt-F (List ℕ) → List ℕ
  node_loops node = own_loops node ++ concat (parts_of node)

  abbrev AtNode : Stmt-F Stmt → Type 0
  AtNode x = Within (node_loops_round local (map-Stmt Stmt (Option (List ℕ)) (loops_round local) x)) (node_loops (map-Stmt Stmt (List ℕ) loops_of x))

  at_node : (node : Stmt-F Claimed) → AtNode (map-Stmt Claimed Stmt (λ e. e.0) node)
  at_node Stmt-F.Nothing = none []
  at_node (Stmt-F.Assign target value) = none []
  at_node (Stmt-F.Delayed target value) = none []
  at_node (Stmt-F.Pause place) = none []
  at_node (Stmt-F.Seq parts) = in_parts parts
  at_node (Stmt-F.Par parts) = in_parts parts
  at_node (Stmt-F.If condition first second) =
      either (loops_round local first.0) (loops_round local second.0) (loops_of first.0) (loops_of second.0 ++ []) first.1
      (only (loops_round local second.0) (loops_of second.0) second.1)
  at_node (Stmt-F.Loop number body condition) = in_loop number (loops_round local body.0) (loops_of body.0) body.1
  at_node (Stmt-F.Abort kind body condition) = only (loops_round local body.0) (loops_of body.0) body.1
  at_node (Stmt-F.Suspend kind hold body condition) = only (loops_round local body.0) (loops_of body.0) body.1
  at_node (Stmt-F.Scope locals body) = in_scope (contains locals local) (loops_round local body.0) (loops_of body.0) body.1
  at_node (Stmt-F.Call number proto arguments) = none []
  at_node (Stmt-F.Bind bindings body) = only (loops_round local body.0) (loops_of body.0) body.1

  pub round_within : (s : Stmt) → Within (loops_round local s) (loops_of s)
  round_within = ind-Stmt (λ s. Within (loops_round local s) (loops_of s)) (λ x y is.
      subst₂ Within (sym (fold-roll-Stmt (Option (List ℕ)) (node_loops_round local) x)) (sym (fold-roll-Stmt (List ℕ) node_loops x))
      (subst AtNode is (at_node y)))
