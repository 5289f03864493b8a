-- In a sound program values have the types of what they are read as, and of what they are written to.
use Rattle.std.proofs.Common.{◌≡◌, ℕ, zero, suc, ◌+◌, ◌<◌, ◌^◌, Bool, true, false, ◌&&◌, ◌||◌, List, [], ◌∷◌, ◌++◌, map, drop, Option, Some, None, refl, sym, ap, subst, ◌∙◌}
use Rattle.std.specs.Prelude.{◌==◌, nat_lt, if◌then◌else◌, is_some, slice_get, option_and_then}
use Rattle.std.specs.Option.{option_map}
use Rattle.std.specs.List.{flat_map, list_all, list_any, AllByRecursion}
use Rattle.std.proofs.lemmas.Bool.{false≢true, and_parts, ltb-true}
use Rattle.qz_values.specs.declared.Ty.{Ty}
use Rattle.qz_values.specs.declared.Value.{Value}
use Rattle.qz_values.specs.declared.Know.{Know}
use Rattle.qz_values.specs.Types.{width_of, is_type}
use Rattle.qz_values.specs.Tables.{type1_of, type2_of, choose_type, bit_type, slice_type, concat_type}
use Rattle.qz_values.specs.Values.{type_of as type_of_value, bits_of}
use Rattle.qz_values.specs.Fits.{IsOf, HasType}
use Rattle.qz_values.proofs.Typed.{same-is_same_type, typed1, typed2, typed_choose, typed_bit, typed_slice, typed_concat}
use Rattle.qz_syntax.specs.declared.declarations.Dir.{Dir}
use Rattle.qz_syntax.specs.declared.declarations.Dir.TheVariants as dir
use Rattle.qz_syntax.specs.declared.declarations.Formal.{Formal}
use Rattle.qz_syntax.specs.declared.declarations.Decl.{Decl}
use Rattle.qz_syntax.specs.declared.expressions.Var.{Var}
use Rattle.qz_syntax.specs.declared.expressions.Var.TheVariants as var
use Rattle.qz_syntax.specs.declared.expressions.Expr.{Expr, map-Expr}
use Rattle.qz_syntax.specs.declared.expressions.Expr.TheOpen.{Expr-F}
use Rattle.qz_syntax.specs.declared.expressions.Expr.TheFolds.{fold-roll-Expr, ind-Expr}
use Rattle.qz_syntax.specs.declared.statements.Kind.{Kind}
use Rattle.qz_syntax.specs.declared.statements.Binding.{Binding}
use Rattle.qz_syntax.specs.declared.statements.Stmt.{Stmt, map-Stmt}
use Rattle.qz_syntax.specs.declared.statements.Stmt.TheOpen.{Stmt-F}
use Rattle.qz_syntax.specs.declared.statements.Stmt.TheFolds.{fold-roll-Stmt, ind-Stmt}
use Rattle.qz_syntax.specs.declared.places.Mark.{Mark}
use Rattle.qz_syntax.specs.declared.places.Mark.TheVariants as mark
use Rattle.qz_syntax.specs.declared.places.Residual.{Residual}
use Rattle.qz_syntax.specs.Numbers.{contains}
use Rattle.qz_syntax.specs.Typing.{Declared, Sight, Target, bound_type, read_type, node_type, written_as, formal_target, decl_target, agree}
use Rattle.qz_syntax.specs.Sound.{type_at, is_assignment, types_bound, has_type, in_scope, with_bound, node_is_sound, is_sound}
use Rattle.qz_meaning.specs.Instances.{Instance, local_instance, formal_instance}
use Rattle.qz_meaning.specs.Scenes.{Context, Passing, instance_here}
use Rattle.qz_meaning.specs.Expressions.{known_here, node_value, value_here, bound_by}
use Rattle.qz_meaning.specs.Residuals.{inner, member_of, branches_of, side_of, is_held}
use Rattle.qz_meaning.specs.Accounts.{Write}
use Rattle.qz_meaning.specs.Behaviors.{Behavior, idle}
use Rattle.qz_meaning.specs.Simple.{assignment, pause}
use Rattle.qz_meaning.specs.Sequences.{start_in_turn, member, sequence}
use Rattle.qz_meaning.specs.Parallels.{resting, parallel}
use Rattle.qz_meaning.specs.Choices.{choice}
use Rattle.qz_meaning.specs.Loops.{loop}
use Rattle.qz_meaning.specs.Aborts.{abort}
use Rattle.qz_meaning.specs.Suspends.{suspend}
use Rattle.qz_meaning.specs.Scopes.{scope}
use Rattle.qz_meaning.specs.Calls.{bound_body}
use Rattle.qz_meaning.specs.Walks.{node_behavior, behavior}
use Rattle.qz_meaning.specs.Residing.{residing}
use Rattle.qz_meaning.specs.Programs.{Program, own_delayed, delays}
use Rattle.qz_meaning.proofs.Lists.{all_join, all_if, none≢some, some_same}
use Rattle.qz_meaning.proofs.Orderly.{variable_self}

and_then_some : (f : Ty → Option Ty) (o : Option Ty) (u : Ty) → option_and_then f o ≡ Some u → (s : Ty) × (o ≡ Some s) × (f s ≡ Some u)
and_then_some f None u h = absurd (none≢some u h)
and_then_some f (Some s) u h = (s, refl, h)

map_some : {A B : Type 0} (f : A → B) (o : Option A) (u : B) → option_map f o ≡ Some u → (x : A) × (o ≡ Some x) × (f x ≡ u)
map_some f None u h = absurd (none≢some u h)
map_some f (Some x) u h = (x, refl, some_same _ _ h)

if_some : {A : Type 0} (b : Bool) (o : Option A) (u : A) → (if b then o else None) ≡ Some u → o ≡ Some u
if_some true o u h = h
if_some false o u h = absurd (none≢some u h)

literal_typed : (v : Value) (t : Ty) (b : Bool) → (is_type (type_of_value v) && nat_lt (bits_of v) (2 ^ width_of (type_of_value v))) ≡ b
    → (if b then Some (type_of_value v) else None) ≡ Some t → IsOf t v
literal_typed v t true e h =
    let is = some_same _ _ h in
    record { typed = is; fits = subst (λ u. bits_of v < 2 ^ width_of u) is (ltb-true _ _ (and_parts _ _ e).1) }
literal_typed v t false e h = absurd (none≢some t h)

-- a program whose variables have the declared types
pub record IsDeclared (p : Program) (declared : Declared) : Type 0 where
  pub formal : (n : ℕ) (one : Formal) → slice_get declared.formals n ≡ Some one → p.type_of (var.Formal n) ≡ one.ty
  pub local : (n : ℕ) (one : Decl) → slice_get declared.decls n ≡ Some one → p.type_of (var.Local n) ≡ one.ty

-- a write of a value of the target's type, delayed only where the program delays
pub record IsGood (p : Program) (w : Write) : Type 0 where
  pub value : HasType (p.type_of w.target.variable) w.value
  pub delayed : w.delayed ≡ true → p.is_delayed w.target.variable ≡ true

module _ (p : Program) (declared : Declared) (declares : IsDeclared p declared) (step : Passing) (typed : (i : Instance) → HasType (p.type_of i.variable) (step.now i)) where
  abbrev pub BoundTyped : Sight → Context → Type 0
  BoundTyped sight c = (n : ℕ) (t : Ty) → bound_type sight.bound n ≡ Some t → HasType t (c.bound n)

  read_typed : (sight : Sight) (c : Context) → BoundTyped sight c → (x : Var) (t : Ty) → read_type declared sight x ≡ Some t → HasType t (known_here step.now c x)
  read_typed sight c k (var.Formal n) t h =
      let found = map_some (λ (one : Formal). one.ty) (slice_get declared.formals n) t h in
      subst (λ u. HasType u (step.now (formal_instance n))) (declares.formal n found.0 found.1 ∙ found.2) (typed (formal_instance n))
  read_typed sight c k (var.Local n) t h =
      let found = map_some (λ (one : Decl). one.ty) (slice_get declared.decls n) t (if_some (contains sight.locals n) _ t h) in
      subst (λ u. HasType u (step.now (local_instance n (c.marks n)))) (declares.local n found.0 found.1 ∙ found.2) (typed (local_instance n (c.marks n)))
  read_typed sight c k (var.Bound n) t h = k n t h

  module _ (sight : Sight) (c : Context) (k : BoundTyped sight c) where
    abbrev T : Expr → Option Ty
    T e = type_at declared sight e

    abbrev V : Expr → Know
    V e = value_here step.now c e

    abbrev Valued : Type 0
    Valued = (e : Expr) × ((t : Ty) → T e ≡ Some t → HasType t (V e))

    abbrev AtExpr : Expr-F Expr → Type 0
    AtExpr x = (t : Ty) → node_type (read_type declared sight) (map-Expr Expr (Option Ty) T x) ≡ Some t → HasType t (node_value step.now c (map-Expr Expr Know V x))

    at_expr : (node : Expr-F Valued) → AtExpr (map-Expr Valued Expr (λ e. e.0) node)
    at_expr (Expr-F.Lit value) t h = literal_typed value t _ refl h
    at_expr (Expr-F.Var x) t h = read_typed sight c k x t h
    at_expr (Expr-F.Un op x) t h =
        let i = and_then_some (λ s. type1_of op s) (T x.0) t h in (typed1 op i.0 t (V x.0) i.2 (x.1 i.0 i.1)).2
    at_expr (Expr-F.Bin op x y) t h =
        let i = and_then_some (λ s. option_and_then (λ r. type2_of op s r) (T y.0)) (T x.0) t h in
        let j = and_then_some (λ r. type2_of op i.0 r) (T y.0) t i.2 in
        (typed2 op i.0 j.0 t (V x.0) (V y.0) j.2 (x.1 i.0 i.1) (y.1 j.0 j.1)).2
    at_expr (Expr-F.Choose x y z) t h =
        let i = and_then_some (λ q. option_and_then (λ s. option_and_then (λ r. choose_type q s r) (T z.0)) (T y.0)) (T x.0) t h in
        let j = and_then_some (λ s. option_and_then (λ r. choose_type i.0 s r) (T z.0)) (T y.0) t i.2 in
        let l = and_then_some (λ r. choose_type i.0 j.0 r) (T z.0) t j.2 in
        (typed_choose i.0 j.0 l.0 t (V x.0) (V y.0) (V z.0) l.2 (x.1 i.0 i.1) (y.1 j.0 j.1) (z.1 l.0 l.1)).2
    at_expr (Expr-F.Bit x index) t h =
        let i = and_then_some (λ s. bit_type s index) (T x.0) t h in (typed_bit index i.0 t (V x.0) i.2 (x.1 i.0 i.1)).2
    at_expr (Expr-F.Slice x high low) t h =
        let i = and_then_some (λ s. slice_type s high low) (T x.0) t h in (typed_slice high low i.0 t (V x.0) i.2 (x.1 i.0 i.1)).2
    at_expr (Expr-F.Concat x y) t h =
        let i = and_then_some (λ s. option_and_then (λ r. concat_type s r) (T y.0)) (T x.0) t h in
        let j = and_then_some (λ r. concat_type i.0 r) (T y.0) t i.2 in
        (typed_concat i.0 j.0 t (V x.0) (V y.0) j.2 (x.1 i.0 i.1) (y.1 j.0 j.1)).2

    -- what is known of an expression has its type
    pub values_typed : (e : Expr) (t : Ty) → T e ≡ Some t → HasType t (V e)
    values_typed = ind-Expr (λ e. (t : Ty) → T e ≡ Some t → HasType t (V e)) (λ x y is t h.
        subst (HasType t) (sym (fold-roll-Expr Know (node_value step.now c) x))
        (subst AtExpr is (at_expr y) t (sym (fold-roll-Expr (Option Ty) (node_type (read_type declared sight)) x) ∙ h)))

    types_first : (binding : Binding) (bindings : List Binding) (t : Ty) → T binding.value ≡ Some t
        → types_bound declared sight (binding ∷ bindings) ≡ (binding.number, t) ∷ types_bound declared sight bindings
    types_first binding bindings t e = rw e refl

    some_typed : (o : Option Ty) → is_some o ≡ true → (t : Ty) × (o ≡ Some t)
    some_typed None h = absurd (false≢true h)
    some_typed (Some t) h = (t, refl)

    choose_typed : (b : Bool) (t u : Ty) (o : Option Ty) (v w : Know) → HasType t v → (o ≡ Some u → HasType u w) → (if b then Some t else o) ≡ Some u → HasType u (if b then v else w)
    choose_typed true t u o v w p q h = subst (λ s. HasType s v) (some_same t u h) p
    choose_typed false t u o v w p q h = q h

    bound_typed : (bindings : List Binding) → list_all (has_type declared sight) bindings ≡ true → (n : ℕ) (t : Ty)
        → bound_type (types_bound declared sight bindings ++ sight.bound) n ≡ Some t → HasType t (bound_by step.now c bindings n)
    bound_typed [] all n t h = k n t h
    bound_typed (binding ∷ bindings) all n t h =
        let two = and_parts _ _ all in
        let own = some_typed (T binding.value) two.0 in
        choose_typed (binding.number == n) own.0 t _ _ _ (values_typed binding.value own.0 own.1) (λ e. bound_typed bindings two.1 n t e)
        (ap (λ types. bound_type (types ++ sight.bound) n) (sym (types_first binding bindings own.0 own.1)) ∙ h)

  out_typed : (formal : Formal) (wr : Target) (d : Dir) → formal.dir ≡ d → formal_target formal ≡ Some wr → formal.ty ≡ wr.ty
  out_typed formal wr dir.In e h =
      absurd (none≢some wr (sym (ap (λ (d : Dir). elim d as (λ x. Option Target) [ dir.In ↦ None | dir.Out ↦ Some (record { class = formal.class; ty = formal.ty }) ]) e) ∙ h))
  out_typed formal wr dir.Out e h =
      ap (λ (it : Target). it.ty) (some_same _ _ (sym (ap (λ (d : Dir). elim d as (λ x. Option Target) [ dir.In ↦ None | dir.Out ↦ Some (record { class = formal.class; ty = formal.ty }) ]) e) ∙ h))

  target_inside : (o : Option Formal) (wr : Target) → option_and_then formal_target o ≡ Some wr → (one : Formal) × (o ≡ Some one) × (formal_target one ≡ Some wr)
  target_inside None wr h = absurd (none≢some wr h)
  target_inside (Some one) wr h = (one, refl, h)

  target_typed : (sight : Sight) (x : Var) (wr : Target) → written_as declared sight x ≡ Some wr → p.type_of x ≡ wr.ty
  target_typed sight (var.Formal n) wr h =
      let found = target_inside (slice_get declared.formals n) wr h in declares.formal n found.0 found.1 ∙ out_typed found.0 wr found.0.dir refl found.2
  target_typed sight (var.Local n) wr h =
      let found = map_some decl_target (slice_get declared.decls n) wr (if_some (contains sight.locals n) _ wr h) in
      declares.local n found.0 found.1 ∙ ap (λ (it : Target). it.ty) found.2
  target_typed sight (var.Bound n) wr h = absurd (none≢some wr h)

  agree_same : (s t : Option Ty) → agree s t ≡ true → (u : Ty) × (s ≡ Some u) × (t ≡ Some u)
  agree_same None t h = absurd (false≢true h)
  agree_same (Some s) None h = absurd (false≢true h)
  agree_same (Some s) (Some t) h = (s, refl, ap (λ (u : Ty). Some u) (sym (same-is_same_type s t h)))

  assigned : (sight : Sight) (c : Context) → BoundTyped sight c → (x : Var) (e : Expr) → is_assignment declared sight x e ≡ true → HasType (p.type_of x) (value_here step.now c e)
  assigned sight c k x e h =
      let same = agree_same _ (type_at declared sight e) h in
      let written = map_some (λ (wr : Target). wr.ty) (written_as declared sight x) same.0 same.1 in
      subst (λ t. HasType t (value_here step.now c e)) (sym (target_typed sight x written.0 written.1 ∙ written.2)) (values_typed sight c k e same.0 same.2)

  abbrev B : Type 0
  B = Behavior Write (Option Residual)

  abbrev Good : List Write → Type 0
  Good writes = AllByRecursion (IsGood p) writes

  -- every write is good
  pub record IsGoodWalk (x : B) (sight : Sight) : Type 0 where
    pub start : (c : Context) (g : Know) (m : Mark) → BoundTyped sight c → Good (x.start c g m)
    pub resume : (c : Context) (r : Residual) (g : Know) → BoundTyped sight c → Good (x.resume c r g)

  here_of : (c : Context) (x : Var) → (instance_here c x).variable ≡ x
  here_of c (var.Formal n) = refl
  here_of c (var.Local n) = refl
  here_of c (var.Bound n) = refl

  good_idle : (sight : Sight) → IsGoodWalk (idle (residing step)) sight
  good_idle sight = record { start = λ c g m k. tt; resume = λ c r g k. tt }

  good_assignment : (delayed : Bool) (x : Var) (e : Expr) (sight : Sight) → is_assignment declared sight x e ≡ true → (delayed ≡ true → p.is_delayed x ≡ true)
      → IsGoodWalk (assignment step.now (residing step) delayed x e) sight
  good_assignment delayed x e sight h own = record {
    start = λ c g m k. (
      record {
        value = subst (λ y. HasType (p.type_of y) (value_here step.now c e)) (sym (here_of c x)) (assigned sight c k x e h);
        delayed = λ is. ap p.is_delayed (here_of c x) ∙ own is;
      },
      tt,
    );
    resume = λ c r g k. tt;
  }

  good_pause : (place : ℕ) (sight : Sight) → IsGoodWalk (pause (residing step) place) sight
  good_pause place sight = record { start = λ c g m k. tt; resume = λ c r g k. tt }

  good_choice : (e : Expr) (x y : B) (sight : Sight) → IsGoodWalk x sight → IsGoodWalk y sight → IsGoodWalk (choice step.now (residing step) e x y) sight
  good_choice e x y sight s t = record {
    start = λ c g m k. all_join (IsGood p) _ _ (s.start c _ m k) (t.start c _ m k);
    resume = λ c r g k. by_side (side_of r) c (inner r) g k;
  } where
    by_side : (side : Bool) (c : Context) (r : Residual) (g : Know) → BoundTyped sight c → Good ((if side then x else y).resume c r g)
    by_side true c r g k = s.resume c r g k
    by_side false c r g k = t.resume c r g k

  good_loop : (number : ℕ) (e : Expr) (x : B) (sight : Sight) → IsGoodWalk x sight → IsGoodWalk (loop step.now (residing step) number x e) sight
  good_loop number e x sight s = record {
    start = λ c g m k. s.start c g m k;
    resume = λ c r g k. all_join (IsGood p) _ _ (s.resume c (inner r) g k) (s.start c _ (mark.Loop number) k);
  }

  good_abort : (kind : Kind) (e : Expr) (x : B) (sight : Sight) → IsGoodWalk x sight → IsGoodWalk (abort step.now (residing step) kind x e) sight
  good_abort kind e x sight s = record { start = λ c g m k. s.start c _ m k; resume = λ c r g k. s.resume c (inner r) _ k }

  good_suspend : (kind : Kind) (hold : Option ℕ) (e : Expr) (x : B) (sight : Sight) → IsGoodWalk x sight → IsGoodWalk (suspend step.now (residing step) kind hold x e) sight
  good_suspend kind hold e x sight s = record {
    start = λ c g m k. s.start c _ m k;
    resume = λ c r g k. all_if (IsGood p) (is_held r) _ _ (s.start c _ mark.Zero k) (s.resume c (inner r) _ k);
  }

  good_scope : (locals : List ℕ) (x : B) (sight : Sight) → IsGoodWalk x (in_scope sight locals) → IsGoodWalk (scope (residing step) locals x) sight
  good_scope locals x sight s = record { start = λ c g m k. s.start _ g m k; resume = λ c r g k. s.resume _ (inner r) g k }

  good_bound : (bindings : List Binding) (x : B) (sight : Sight) → list_all (has_type declared sight) bindings ≡ true
      → IsGoodWalk x (with_bound sight (types_bound declared sight bindings)) → IsGoodWalk (bound_body step.now bindings x) sight
  good_bound bindings x sight all s = record {
    start = λ c g m k. s.start _ g m (λ n t h. bound_typed sight c k bindings all n t h);
    resume = λ c r g k. s.resume _ r g (λ n t h. bound_typed sight c k bindings all n t h);
  }

  module _ (sight : Sight) where
    abbrev AllGood : List B → Type 0
    AllGood parts = AllByRecursion (λ (x : B). IsGoodWalk x sight) parts

    start_good : (parts : List B) → AllGood parts → (c : Context) (g : Know) (m : Mark) → BoundTyped sight c → Good (start_in_turn c parts g m)
    start_good [] all c g m k = tt
    start_good (x ∷ parts) all c g m k = all_join (IsGood p) _ _ (all.0.start c g m k) (start_good parts all.1 c _ m k)

    member_good : (parts : List B) (n : ℕ) → AllGood parts → IsGoodWalk (member (idle (residing step)) parts n) sight
    member_good [] n all = good_idle sight
    member_good (x ∷ parts) zero all = all.0
    member_good (x ∷ parts) (suc n) all = member_good parts n all.1

    drop_good : (parts : List B) (n : ℕ) → AllGood parts → AllGood (drop n parts)
    drop_good parts zero all = all
    drop_good [] (suc n) all = tt
    drop_good (x ∷ parts) (suc n) all = drop_good parts n all.1

    good_sequence : (parts : List B) → AllGood parts → IsGoodWalk (sequence (residing step) parts) sight
    good_sequence parts all = record {
      start = λ c g m k. start_good parts all c g m k;
      resume = λ c r g k.
          all_join (IsGood p) _ _ ((member_good parts (member_of r) all).resume c (inner r) g k)
          (start_good (drop (member_of r + 1) parts) (drop_good parts (member_of r + 1) all) c _ mark.Zero k);
    }

    each_start : (parts : List B) → AllGood parts → (c : Context) (g : Know) (m : Mark) → BoundTyped sight c → Good (flat_map (λ (part : B). part.start c g m) parts)
    each_start [] all c g m k = tt
    each_start (x ∷ parts) all c g m k = all_join (IsGood p) _ _ (all.0.start c g m k) (each_start parts all.1 c g m k)

    each_resume : (parts : List B) (branches : List (Option Residual)) → AllGood parts → (c : Context) (g : Know) → BoundTyped sight c
        → Good (flat_map (λ (one : B × Residual). one.0.resume c one.1 g) (resting parts branches))
    each_resume [] branches all c g k = tt
    each_resume (x ∷ parts) [] all c g k = tt
    each_resume (x ∷ parts) (None ∷ branches) all c g k = each_resume parts branches all.1 c g k
    each_resume (x ∷ parts) (Some r ∷ branches) all c g k = all_join (IsGood p) _ _ (all.0.resume c r g k) (each_resume parts branches all.1 c g k)

    good_parallel : (parts : List B) → AllGood parts → IsGoodWalk (parallel (residing step) parts) sight
    good_parallel parts all = record {
      start = λ c g m k. each_start parts all c g m k;
      resume = λ c r g k. each_resume parts (branches_of r) all c g k;
    }

  abbrev X : Stmt → B
  X = behavior step.now (residing step) (λ number arguments. idle (residing step))

  -- what the statement delays the program delays
  abbrev IsDelaying : Stmt → Type 0
  IsDelaying s = (x : Var) → delays x s ≡ true → p.is_delayed x ≡ true

  abbrev Claimed : Type 0
  Claimed = (s : Stmt) × ((sight : Sight) → is_sound declared s sight ≡ true → IsDelaying s → IsGoodWalk (X s) sight)

  abbrev names : List Claimed → List Stmt
  names parts = map (λ (e : Claimed). e.0) parts

  or_left : (b c : Bool) → b ≡ true → (b || c) ≡ true
  or_left b c h = ap (λ i. i || c) h

  or_right : (b c : Bool) → c ≡ true → (b || c) ≡ true
  or_right true c h = refl
  or_right false c h = h

  all_good : (parts : List Claimed) (sight : Sight) → list_all (λ (part : Sight → Bool). part sight) (map (is_sound declared) (names parts)) ≡ true
      → ((x : Var) → list_any (λ part. part) (map (delays x) (names parts)) ≡ true → p.is_delayed x ≡ true) → AllGood sight (map X (names parts))
  all_good [] sight h own = tt
  all_good (e ∷ parts) sight h own =
      let two = and_parts _ _ h in
      (e.1 sight two.0 (λ x i. own x (or_left _ _ i)), all_good parts sight two.1 (λ x i. own x (or_right (delays x e.0) _ i)))

  abbrev AtNode : Stmt-F Stmt → Type 0
  AtNode x =
      (sight : Sight) → node_is_sound declared (map-Stmt Stmt (Sight → Bool) (is_sound declared) x) sight ≡ true
      → ((v : Var) → own_delayed v (map-Stmt Stmt Bool (delays v) x) ≡ true → p.is_delayed v ≡ true)
      → IsGoodWalk (node_behavior step.now (residing step) (λ number arguments. idle (residing step)) (map-Stmt Stmt B X x)) sight

  at_node : (node : Stmt-F Claimed) → AtNode (map-Stmt Claimed Stmt (λ e. e.0) node)
  at_node Stmt-F.Nothing sight h own = good_idle sight
  at_node (Stmt-F.Assign target value) sight h own = good_assignment false target value sight h (λ e. absurd (false≢true e))
  at_node (Stmt-F.Delayed target value) sight h own = good_assignment true target value sight h (λ e. own target (variable_self target))
  at_node (Stmt-F.Pause place) sight h own = good_pause place sight
  at_node (Stmt-F.Seq parts) sight h own = good_sequence sight _ (all_good parts sight (and_parts _ _ h).1 own)
  at_node (Stmt-F.Par parts) sight h own = good_parallel sight _ (all_good parts sight (and_parts _ _ h).1 own)
  at_node (Stmt-F.If condition first second) sight h own =
      let sides = and_parts _ _ (and_parts _ _ h).1 in
      good_choice condition _ _ sight (first.1 sight sides.0 (λ x i. own x (or_left _ _ i)))
      (second.1 sight sides.1 (λ x i. own x (or_right (delays x first.0) _ (or_left _ _ i))))
  at_node (Stmt-F.Loop number body condition) sight h own =
      good_loop number condition _ sight (body.1 sight (and_parts _ _ h).1 (λ x i. own x (or_left _ _ i)))
  at_node (Stmt-F.Abort kind body condition) sight h own =
      good_abort kind condition _ sight (body.1 sight (and_parts _ _ h).1 (λ x i. own x (or_left _ _ i)))
  at_node (Stmt-F.Suspend kind hold body condition) sight h own =
      good_suspend kind hold condition _ sight (body.1 sight (and_parts _ _ (and_parts _ _ h).1).1 (λ x i. own x (or_left _ _ i)))
  at_node (Stmt-F.Scope locals body) sight h own =
      good_scope locals _ sight (body.1 (in_scope sight locals) (and_parts _ _ h).1 (λ x i. own x (or_left _ _ i)))
  at_node (Stmt-F.Call number proto arguments) sight h own = good_idle sight
  at_node (Stmt-F.Bind bindings body) sight h own =
      let two = and_parts _ _ h in
      good_bound bindings _ sight two.0 (body.1 (with_bound sight (types_bound declared sight bindings)) two.1 (λ x i. own x (or_left _ _ i)))

  -- for every sound statement
  pub walks_good : (s : Stmt) (sight : Sight) → is_sound declared s sight ≡ true → IsDelaying s → IsGoodWalk (X s) sight
  walks_good = ind-Stmt (λ s. (sight : Sight) → is_sound declared s sight ≡ true → IsDelaying s → IsGoodWalk (X s) sight) (λ x y is sight h own.
      subst (λ (v : B). IsGoodWalk v sight) (sym (fold-roll-Stmt B (node_behavior step.now (residing step) (λ number arguments. idle (residing step))) x))
      (subst AtNode is (at_node y) sight (ap (λ f. f sight) (sym (fold-roll-Stmt (Sight → Bool) (node_is_sound declared) x)) ∙ h)
      (λ v i. own v (fold-roll-Stmt Bool (own_delayed v) x ∙ i))))
