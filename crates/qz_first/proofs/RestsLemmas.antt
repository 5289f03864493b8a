-- The places of a statement are below a number exactly where each of them is.
use Rattle.std.proofs.Common.{◌≡◌, ℕ, Bool, ◌&&◌, ◌++◌, nat_lt, List, [], ◌∷◌, map, refl, ap, ◌∙◌}
use Rattle.std.proofs.Math.Bool.{and-true}
use Rattle.std.proofs.lemmas.List.Folds.{list_all-append}
use Rattle.std.specs.Option.{option_to_list}
use Rattle.std.specs.List.{list_all, concat}
use Rattle.qz_syntax.specs.declared.statements.Stmt.{Stmt, map-Stmt}
use Rattle.qz_syntax.specs.declared.statements.Stmt.TheOpen.{Stmt-F}
use Rattle.qz_syntax.specs.Numbers.{parts_of, places_of, own_places}
use Rattle.qz_syntax.proofs.Fusion.{fusion}
use Rattle.qz_first.specs.RestsBelow.{rests_below, node_rests_below}

module _ (registers : ℕ) where
  abbrev are_below : List ℕ → Bool
  are_below places = list_all (λ place. nat_lt place registers) places

  below_concat : (lists : List (List ℕ)) → are_below (concat lists) ≡ list_all (λ b. b) (map are_below lists)
  below_concat [] = refl
  below_concat (places ∷ lists) =
      list_all-append (λ place. nat_lt place registers) places (concat lists) ∙ ap (λ b. are_below places && b) (below_concat lists)

  below_one : (places : List ℕ) → are_below (concat (places ∷ [])) ≡ are_below places
  below_one places = below_concat (places ∷ []) ∙ and-true (are_below places)

  carries : (node : Stmt-F (List ℕ)) → are_below (own_places node ++ concat (parts_of node)) ≡ node_rests_below registers (map-Stmt (List ℕ) Bool are_below node)
  carries Stmt-F.Nothing = refl
  carries (Stmt-F.Assign target value) = refl
  carries (Stmt-F.Delayed target value) = refl
  carries (Stmt-F.Pause place) = and-true (nat_lt place registers)
  carries (Stmt-F.Seq parts) = below_concat parts
  carries (Stmt-F.Par parts) = below_concat parts
  carries (Stmt-F.If condition first second) = below_concat (first ∷ second ∷ []) ∙ ap (λ b. are_below first && b) (and-true (are_below second))
  carries (Stmt-F.Loop number body condition) = below_one body
  carries (Stmt-F.Abort kind body condition) = below_one body
  carries (Stmt-F.Suspend kind hold body condition) =
      list_all-append (λ place. nat_lt place registers) (option_to_list hold) (concat (body ∷ []))
      ∙ ap (λ b. are_below (option_to_list hold) && b) (below_one body)
  carries (Stmt-F.Scope locals body) = below_one body
  carries (Stmt-F.Call number proto arguments) = refl
  carries (Stmt-F.Bind bindings body) = below_one body

  pub rests_below_is : (s : Stmt) → list_all (λ place. nat_lt place registers) (places_of s) ≡ rests_below registers s
  rests_below_is = fusion (List ℕ) Bool (λ node. own_places node ++ concat (parts_of node)) (node_rests_below registers) are_below carries
