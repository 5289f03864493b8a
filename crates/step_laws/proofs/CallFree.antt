-- Without prototypes no sound statement calls anything, so what calls do changes nothing.
use Rattle.std.proofs.Common.{◌≡◌, ℕ, Bool, true, false, List, [], ◌∷◌, map, refl, sym, ap, ap₂, subst, ◌∙◌}
use Rattle.std.specs.List.{list_all}
use Rattle.std.proofs.lemmas.Bool.{false≢true, and_parts}
use Rattle.qz_syntax.specs.declared.statements.Stmt.{Stmt, map-Stmt}
use Rattle.qz_syntax.specs.declared.statements.Stmt.TheOpen.{Stmt-F}
use Rattle.qz_syntax.specs.declared.statements.Stmt.TheFolds.{fold-Stmt, fold-roll-Stmt, ind-Stmt}
use Rattle.qz_syntax.specs.declared.modules.Module.{Module}
use Rattle.qz_syntax.specs.Typing.{Sight, no_sight}
use Rattle.qz_syntax.specs.Sound.{types_bound, in_scope, with_bound, node_is_sound, is_sound}
use Rattle.qz_syntax.specs.WellFormed.{declared_by}
use Rattle.qz_meaning.specs.Scenes.{Scene}
use Rattle.qz_meaning.specs.Accounts.{Account}
use Rattle.qz_meaning.specs.Behaviors.{Behavior}
use Rattle.qz_meaning.specs.Layouts.{Layout, bare}
use Rattle.qz_meaning.specs.Calls.{Calls, open_call, open_layout}
use Rattle.qz_meaning.specs.Walks.{node_behavior, node_layout}
use Rattle.qz_meaning.specs.Residing.{no_calls}
use Rattle.qz_meaning.specs.Landings.{landing, landing_calls}
use Rattle.step_laws.specs.StandAlone.{WalksStandAlone, LayoutsStandAlone}

-- whether a node is no call
abbrev is_plain : {A : Type 0} → Stmt-F A → Bool
is_plain (Stmt-F.Call number proto arguments) = false
is_plain other = true

-- two folds that differ at calls alone
module _ {A : Type 0} (m : Module) (f g : Stmt-F A → A) (same : (x : Stmt-F A) → is_plain x ≡ true → f x ≡ g x) where
  abbrev F : Stmt → A
  F = fold-Stmt A f

  abbrev G : Stmt → A
  G = fold-Stmt A g

  abbrev S : Stmt → Sight → Bool
  S = is_sound (declared_by [] m)

  abbrev Claimed : Type 0
  Claimed = (s : Stmt) × ((sight : Sight) → S s sight ≡ true → F s ≡ G s)

  abbrev names : List Claimed → List Stmt
  names parts = map (λ (e : Claimed). e.0) parts

  all_same : (parts : List Claimed) (sight : Sight) → list_all (λ (part : Sight → Bool). part sight) (map S (names parts)) ≡ true → map F (names parts) ≡ map G (names parts)
  all_same [] sight h = refl
  all_same (e ∷ parts) sight h =
      let two = and_parts _ _ h in ap₂ (λ (x : A) (xs : List A). x ∷ xs) (e.1 sight two.0) (all_same parts sight two.1)

  abbrev AtNode : Stmt-F Stmt → Type 0
  AtNode x =
      (sight : Sight) → node_is_sound (declared_by [] m) (map-Stmt Stmt (Sight → Bool) S x) sight ≡ true
      → f (map-Stmt Stmt A F x) ≡ g (map-Stmt Stmt A G x)

  at_node : (node : Stmt-F Claimed) → AtNode (map-Stmt Claimed Stmt (λ e. e.0) node)
  at_node Stmt-F.Nothing sight h = same Stmt-F.Nothing refl
  at_node (Stmt-F.Assign target value) sight h = same (Stmt-F.Assign target value) refl
  at_node (Stmt-F.Delayed target value) sight h = same (Stmt-F.Delayed target value) refl
  at_node (Stmt-F.Pause place) sight h = same (Stmt-F.Pause place) refl
  at_node (Stmt-F.Seq parts) sight h =
      ap (λ (xs : List A). f (Stmt-F.Seq xs)) (all_same parts sight (and_parts _ _ h).1) ∙ same (Stmt-F.Seq (map G (names parts))) refl
  at_node (Stmt-F.Par parts) sight h =
      ap (λ (xs : List A). f (Stmt-F.Par xs)) (all_same parts sight (and_parts _ _ h).1) ∙ same (Stmt-F.Par (map G (names parts))) refl
  at_node (Stmt-F.If condition first second) sight h =
      let sides = and_parts _ _ (and_parts _ _ h).1 in
      ap₂ (λ (x y : A). f (Stmt-F.If condition x y)) (first.1 sight sides.0) (second.1 sight sides.1) ∙ same (Stmt-F.If condition (G first.0) (G second.0)) refl
  at_node (Stmt-F.Loop number body condition) sight h =
      ap (λ (x : A). f (Stmt-F.Loop number x condition)) (body.1 sight (and_parts _ _ h).1) ∙ same (Stmt-F.Loop number (G body.0) condition) refl
  at_node (Stmt-F.Abort kind body condition) sight h =
      ap (λ (x : A). f (Stmt-F.Abort kind x condition)) (body.1 sight (and_parts _ _ h).1) ∙ same (Stmt-F.Abort kind (G body.0) condition) refl
  at_node (Stmt-F.Suspend kind hold body condition) sight h =
      ap (λ (x : A). f (Stmt-F.Suspend kind hold x condition)) (body.1 sight (and_parts _ _ (and_parts _ _ h).1).1)
      ∙ same (Stmt-F.Suspend kind hold (G body.0) condition) refl
  at_node (Stmt-F.Scope locals body) sight h =
      ap (λ (x : A). f (Stmt-F.Scope locals x)) (body.1 (in_scope sight locals) (and_parts _ _ h).1) ∙ same (Stmt-F.Scope locals (G body.0)) refl
  at_node (Stmt-F.Call number proto arguments) sight h = absurd (false≢true h)
  at_node (Stmt-F.Bind bindings body) sight h =
      ap (λ (x : A). f (Stmt-F.Bind bindings x)) (body.1 (with_bound sight (types_bound (declared_by [] m) sight bindings)) (and_parts _ _ h).1)
      ∙ same (Stmt-F.Bind bindings (G body.0)) refl

  pub folds_same : (s : Stmt) (sight : Sight) → S s sight ≡ true → F s ≡ G s
  folds_same = ind-Stmt (λ s. (sight : Sight) → S s sight ≡ true → F s ≡ G s) (λ x y is sight h.
      fold-roll-Stmt A f x
      ∙ subst AtNode is (at_node y) sight (ap (λ i. i sight) (sym (fold-roll-Stmt (Sight → Bool) (node_is_sound (declared_by [] m)) x)) ∙ h)
      ∙ sym (fold-roll-Stmt A g x))

module _ {D T : Type 0} (scene : Scene) (acc : Account D T) (calls others : Calls D T) where
  nodes_same : (x : Stmt-F (Behavior D T)) → is_plain x ≡ true → node_behavior scene acc calls x ≡ node_behavior scene acc others x
  nodes_same Stmt-F.Nothing h = refl
  nodes_same (Stmt-F.Assign target value) h = refl
  nodes_same (Stmt-F.Delayed target value) h = refl
  nodes_same (Stmt-F.Pause place) h = refl
  nodes_same (Stmt-F.Seq parts) h = refl
  nodes_same (Stmt-F.Par parts) h = refl
  nodes_same (Stmt-F.If condition first second) h = refl
  nodes_same (Stmt-F.Loop number body condition) h = refl
  nodes_same (Stmt-F.Abort kind body condition) h = refl
  nodes_same (Stmt-F.Suspend kind hold body condition) h = refl
  nodes_same (Stmt-F.Scope locals body) h = refl
  nodes_same (Stmt-F.Call number proto arguments) h = absurd (false≢true h)
  nodes_same (Stmt-F.Bind bindings body) h = refl

layouts_same : (calls others : ℕ → Layout) (x : Stmt-F Layout) → is_plain x ≡ true → node_layout calls x ≡ node_layout others x
layouts_same calls others Stmt-F.Nothing h = refl
layouts_same calls others (Stmt-F.Assign target value) h = refl
layouts_same calls others (Stmt-F.Delayed target value) h = refl
layouts_same calls others (Stmt-F.Pause place) h = refl
layouts_same calls others (Stmt-F.Seq parts) h = refl
layouts_same calls others (Stmt-F.Par parts) h = refl
layouts_same calls others (Stmt-F.If condition first second) h = refl
layouts_same calls others (Stmt-F.Loop number body condition) h = refl
layouts_same calls others (Stmt-F.Abort kind body condition) h = refl
layouts_same calls others (Stmt-F.Suspend kind hold body condition) h = refl
layouts_same calls others (Stmt-F.Scope locals body) h = refl
layouts_same calls others (Stmt-F.Call number proto arguments) h = absurd (false≢true h)
layouts_same calls others (Stmt-F.Bind bindings body) h = refl

pub walks_alone : WalksStandAlone
walks_alone m well scene answers =
    folds_same m (node_behavior scene landing (open_call scene [] landing_calls answers)) (node_behavior scene landing (no_calls landing))
    (nodes_same scene landing (open_call scene [] landing_calls answers) (no_calls landing)) m.body no_sight well.sound

pub layouts_alone : LayoutsStandAlone
layouts_alone m well =
    folds_same m (node_layout open_layout) (node_layout (λ number. bare)) (layouts_same open_layout (λ number. bare)) m.body no_sight well.sound
