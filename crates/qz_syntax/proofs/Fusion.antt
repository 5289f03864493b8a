-- A function after a fold over trees is itself a fold.
use Rattle.std.proofs.Common.{◌≡◌, List, [], ◌∷◌, map, refl, sym, ap, ap₂, subst, ◌∙◌}
use Rattle.std.proofs.lemmas.Simd.{map-map}
use Rattle.qz_syntax.specs.declared.statements.Stmt.{Stmt, map-Stmt}
use Rattle.qz_syntax.specs.declared.statements.Stmt.TheOpen.{Stmt-F}
use Rattle.qz_syntax.specs.declared.statements.Stmt.TheFolds.{fold-Stmt, fold-roll-Stmt, ind-Stmt}

-- two maps in a row are one
pub map-Stmt-map : (A B C : Type 0) (h : B → C) (f : A → B) (node : Stmt-F A) → map-Stmt B C h (map-Stmt A B f node) ≡ map-Stmt A C (λ a. h (f a)) node
map-Stmt-map A B C h f Stmt-F.Nothing = refl
map-Stmt-map A B C h f (Stmt-F.Assign target value) = refl
map-Stmt-map A B C h f (Stmt-F.Delayed target value) = refl
map-Stmt-map A B C h f (Stmt-F.Pause place) = refl
map-Stmt-map A B C h f (Stmt-F.Seq parts) = ap (λ xs. Stmt-F.Seq xs) (map-map h f parts)
map-Stmt-map A B C h f (Stmt-F.Par parts) = ap (λ xs. Stmt-F.Par xs) (map-map h f parts)
map-Stmt-map A B C h f (Stmt-F.If condition first second) = refl
map-Stmt-map A B C h f (Stmt-F.Loop number body condition) = refl
map-Stmt-map A B C h f (Stmt-F.Abort kind body condition) = refl
map-Stmt-map A B C h f (Stmt-F.Suspend kind hold body condition) = refl
map-Stmt-map A B C h f (Stmt-F.Scope locals body) = refl
map-Stmt-map A B C h f (Stmt-F.Call number proto arguments) = refl
map-Stmt-map A B C h f (Stmt-F.Bind bindings body) = refl

module _ (B : Type 0) (u v : Stmt → B) where
  -- a statement at which two functions agree
  abbrev pub Agreed : Type 0
  Agreed = (s : Stmt) × (u s ≡ v s)

  same_lists : (parts : List Agreed) → map u (map (λ (e : Agreed). e.0) parts) ≡ map v (map (λ (e : Agreed). e.0) parts)
  same_lists [] = refl
  same_lists (e ∷ parts) = ap₂ (λ x xs. x ∷ xs) e.1 (same_lists parts)

  abbrev bare : Stmt-F Agreed → Stmt-F Stmt
  bare node = map-Stmt Agreed Stmt (λ e. e.0) node

  -- where two functions agree at each part of a node, so do their maps
  same_maps : (node : Stmt-F Agreed) → map-Stmt Stmt B u (bare node) ≡ map-Stmt Stmt B v (bare node)
  same_maps Stmt-F.Nothing = refl
  same_maps (Stmt-F.Assign target value) = refl
  same_maps (Stmt-F.Delayed target value) = refl
  same_maps (Stmt-F.Pause place) = refl
  same_maps (Stmt-F.Seq parts) = ap (λ xs. Stmt-F.Seq xs) (same_lists parts)
  same_maps (Stmt-F.Par parts) = ap (λ xs. Stmt-F.Par xs) (same_lists parts)
  same_maps (Stmt-F.If condition first second) = ap₂ (λ x y. Stmt-F.If condition x y) first.1 second.1
  same_maps (Stmt-F.Loop number body condition) = ap (λ x. Stmt-F.Loop number x condition) body.1
  same_maps (Stmt-F.Abort kind body condition) = ap (λ x. Stmt-F.Abort kind x condition) body.1
  same_maps (Stmt-F.Suspend kind hold body condition) = ap (λ x. Stmt-F.Suspend kind hold x condition) body.1
  same_maps (Stmt-F.Scope locals body) = ap (λ x. Stmt-F.Scope locals x) body.1
  same_maps (Stmt-F.Call number proto arguments) = refl
  same_maps (Stmt-F.Bind bindings body) = ap (λ x. Stmt-F.Bind bindings x) body.1

module _ (A B : Type 0) (step : Stmt-F A → A) (next : Stmt-F B → B) (h : A → B) (carries : (node : Stmt-F A) → h (step node) ≡ next (map-Stmt A B h node)) where
  -- h carries one step to the other, and so one fold to the other
  pub fusion : (s : Stmt) → h (fold-Stmt A step s) ≡ fold-Stmt B next s
  fusion = ind-Stmt (λ s. h (fold-Stmt A step s) ≡ fold-Stmt B next s) (λ x y is.
      let u : Stmt → B = λ s. h (fold-Stmt A step s) in
      let v : Stmt → B = fold-Stmt B next in
      let same : map-Stmt Stmt B u x ≡ map-Stmt Stmt B v x =
      subst (λ z. map-Stmt Stmt B u z ≡ map-Stmt Stmt B v z) is (same_maps B u v y) in
      ap h (fold-roll-Stmt A step x) ∙ carries (map-Stmt Stmt A (fold-Stmt A step) x) ∙ ap next (map-Stmt-map Stmt A B h (fold-Stmt A step) x ∙ same)
      ∙ sym (fold-roll-Stmt B next x))
