-- Every instance by which a walk keeps or enters a scope is one that it met.
use Rattle.std.proofs.Common.{◌≡◌, ℕ, zero, suc, ◌+◌, Bool, true, false, ◌||◌, List, [], ◌∷◌, ◌++◌, map, length, drop, Option, Some, None, refl, sym, subst, subst₂, ◌∙◌, arith}
use Rattle.std.specs.Prelude.{if◌then◌else◌}
use Rattle.std.specs.List.{flat_map, AllByRecursion}
use Rattle.std.proofs.lemmas.Bool.{false≢true, and_parts}
use Rattle.std.proofs.lemmas.List.{drop-map}
use Rattle.std.proofs.lemmas.List.Folds.{list_any-append}
use Rattle.qz_values.specs.Knowledge.{knows_yes}
use Rattle.qz_syntax.specs.declared.expressions.Expr.{Expr}
use Rattle.qz_syntax.specs.declared.statements.Kind.{Kind}
use Rattle.qz_syntax.specs.declared.statements.Binding.{Binding}
use Rattle.qz_syntax.specs.declared.statements.Stmt.{Stmt, map-Stmt}
use Rattle.qz_syntax.specs.declared.statements.Stmt.TheOpen.{Stmt-F}
use Rattle.qz_syntax.specs.declared.statements.Stmt.TheFolds.{fold-roll-Stmt, ind-Stmt}
use Rattle.qz_syntax.specs.declared.statements.Arg.{Arg}
use Rattle.qz_syntax.specs.declared.places.Mark.{Mark}
use Rattle.qz_syntax.specs.declared.places.Mark.TheVariants as mark
use Rattle.qz_syntax.specs.declared.places.Store.{Store}
use Rattle.qz_syntax.specs.declared.places.Residual.{Residual, out-Residual}
use Rattle.qz_meaning.specs.Instances.{Instance, is_same_instance, local_instance}
use Rattle.qz_meaning.specs.Residuals.{inner, member_of, side_of, branches_of, is_held, stores_of}
use Rattle.qz_meaning.specs.Scenes.{Scene, Context}
use Rattle.qz_meaning.specs.Expressions.{value_here, with_bindings}
use Rattle.qz_meaning.specs.Layouts.{Met, Layout, bare}
use Rattle.qz_meaning.specs.Behaviors.{Behavior, idle}
use Rattle.qz_meaning.specs.Sequences.{rest_in_first, member, sequence, sequence_layout}
use Rattle.qz_meaning.specs.Parallels.{resting, each_branch, fits_each, parallel, parallel_layout}
use Rattle.qz_meaning.specs.Choices.{choice, choice_layout}
use Rattle.qz_meaning.specs.Loops.{turns, loop, loop_layout}
use Rattle.qz_meaning.specs.Aborts.{abort, body_layout}
use Rattle.qz_meaning.specs.Suspends.{stays_held, rest_on_start, suspend, suspend_layout}
use Rattle.qz_meaning.specs.Scopes.{met_new, met_kept, scope, scope_layout}
use Rattle.qz_meaning.specs.Calls.{Calls, bound_body}
use Rattle.qz_meaning.specs.Walks.{node_behavior, behavior, node_layout, layout}
use Rattle.qz_meaning.specs.Landings.{Deed, Spot, At, Keeps, Enters, GoesOn, Stays, keeps, scoped, landing}
use Rattle.qz_meaning.specs.MeetingLaws.{is_met}
use Rattle.qz_meaning.proofs.Lists.{all_join}
use Rattle.qz_meaning.proofs.Fitting.{body_fits, side_fits, scope_fits, member_fits, branches_fit, held_fits}
use Rattle.qz_meaning.proofs.Orderly.{instance_self}

or_left : (a b : Bool) → a ≡ true → (a || b) ≡ true
or_left true b h = refl
or_left false b h = absurd (false≢true h)

pub or_right : (a b : Bool) → b ≡ true → (a || b) ≡ true
or_right true b h = refl
or_right false b h = h

-- the instance of a spot is met
abbrev SpotMet : List Met → Spot → Type 0
SpotMet met (At place) = Unit {0}
SpotMet met (Keeps i) = is_met i met ≡ true
SpotMet met (Enters call m) = Unit {0}
SpotMet met (GoesOn call) = Unit {0}
SpotMet met (Stays number) = Unit {0}

abbrev pub Carried : List Spot → List Met → Type 0
Carried spots met = AllByRecursion (SpotMet met) spots

spot_more : (met more : List Met) → ((i : Instance) → is_met i met ≡ true → is_met i more ≡ true) → (spot : Spot) → SpotMet met spot → SpotMet more spot
spot_more met more f (At place) h = tt
spot_more met more f (Keeps i) h = f i h
spot_more met more f (Enters call m) h = tt
spot_more met more f (GoesOn call) h = tt
spot_more met more f (Stays number) h = tt

carried_more : (met more : List Met) → ((i : Instance) → is_met i met ≡ true → is_met i more ≡ true) → (spots : List Spot) → Carried spots met → Carried spots more
carried_more met more f [] h = tt
carried_more met more f (spot ∷ spots) h = (spot_more met more f spot h.0, carried_more met more f spots h.1)

met_in : (i : Instance) (xs ys : List Met) → is_met i (xs ++ ys) ≡ (is_met i xs || is_met i ys)
met_in i xs ys = list_any-append (λ (one : Met). is_same_instance one.instance i) xs ys

carried_left : (xs ys : List Met) (spots : List Spot) → Carried spots xs → Carried spots (xs ++ ys)
carried_left xs ys = carried_more xs (xs ++ ys) (λ i h. met_in i xs ys ∙ or_left _ _ h)

carried_right : (xs ys : List Met) (spots : List Spot) → Carried spots ys → Carried spots (xs ++ ys)
carried_right xs ys = carried_more ys (xs ++ ys) (λ i h. met_in i xs ys ∙ or_right _ _ h)

carried_if : (b : Bool) (xs ys : List Spot) (met : List Met) → Carried xs met → Carried ys met → Carried (if b then xs else ys) met
carried_if true xs ys met p q = p
carried_if false xs ys met p q = q

held_carried : (hold : Option ℕ) (met : List Met) → Carried (stays_held landing hold) met
held_carried None met = tt
held_carried (Some place) met = (tt, tt)

new_carried : (locals : List ℕ) (m : Mark) → Carried (keeps locals m) (met_new locals m)
new_carried [] m = tt
new_carried (n ∷ locals) m = (
  or_left _ _ (instance_self (local_instance n m)),
  carried_more (met_new locals m) (met_new (n ∷ locals) m) (λ i h. or_right (is_same_instance (local_instance n m) i) _ h) (keeps locals m) (new_carried locals m),
)

kept_carried : (locals : List ℕ) (stores : List Store) → length stores ≡ length locals → Carried (keeps locals mark.Zero) (met_kept locals stores)
kept_carried [] stores long = tt
kept_carried (n ∷ locals) [] long = absurd (omega (arith, long))
kept_carried (n ∷ locals) (s ∷ stores) long = (
  or_left _ _ (instance_self (local_instance n mark.Zero)),
  carried_more (met_kept locals stores) (met_kept (n ∷ locals) (s ∷ stores)) (λ i h. or_right (is_same_instance (local_instance n mark.Zero) i) _ h)
      (keeps locals mark.Zero) (kept_carried locals stores (omega (arith, long))),
)

scope_carried : (locals : List ℕ) (m : Mark) (own met : List Met) (spots : List Spot) → Carried (keeps locals m) own → Carried spots met
    → Carried (scoped locals m spots) (own ++ met)
scope_carried locals m own met [] p q = tt
scope_carried locals m own met (spot ∷ spots) p q =
    all_join (SpotMet (own ++ met)) (spot ∷ spots) (keeps locals m) (carried_right own met (spot ∷ spots) q) (carried_left own met (keeps locals m) p)

abbrev Deeds : Type 0
Deeds = Behavior Deed (List Spot)

-- wherever a walk goes, it met the instances by which it keeps or enters scopes
pub record Carries (b : Deeds) (l : Layout) : Type 0 where
  pub rest : (c : Context) (m : Mark) → Carried (b.rest c m) (l.met_on_start m)
  pub after : (c : Context) (r : Residual) → l.fits r ≡ true → Carried (b.after c r) (l.met_on_resume r)
  pub kept : (r : Residual) → l.fits r ≡ true → Carried (b.kept r) (l.met_on_resume r)

pub carries_idle : (l : Layout) → Carries (idle landing) l
carries_idle l = record { rest = λ c m. tt; after = λ c r h. tt; kept = λ r h. tt }

module _ (scene : Scene) where
  carries_loop : (number : ℕ) (e : Expr) (b : Deeds) (l : Layout) → Carries b l → Carries (loop scene landing number b e) (loop_layout number l)
  carries_loop number e b l x = record {
    rest = λ c m. x.rest c m;
    after = λ c r h.
        carried_if (knows_yes (turns scene e b c r)) _ _ _
        (carried_right (l.met_on_resume (inner r)) (l.met_on_start (mark.Loop number)) _ (x.rest c (mark.Loop number)))
        (carried_left (l.met_on_resume (inner r)) (l.met_on_start (mark.Loop number)) _ (x.after c (inner r) (body_fits l r (out-Residual r) h)));
    kept = λ r h. carried_left (l.met_on_resume (inner r)) (l.met_on_start (mark.Loop number)) _ (x.kept (inner r) (body_fits l r (out-Residual r) h));
  }

  carries_abort : (kind : Kind) (e : Expr) (b : Deeds) (l : Layout) → Carries b l → Carries (abort scene landing kind b e) (body_layout l)
  carries_abort kind e b l x = record {
    rest = λ c m. carried_if kind.immediate _ _ _ (carried_if (knows_yes (value_here scene c e)) [] _ _ tt (x.rest c m)) (x.rest c m);
    after = λ c r h. carried_if (knows_yes (value_here scene c e)) [] _ _ tt (x.after c (inner r) (body_fits l r (out-Residual r) h));
    kept = λ r h. x.kept (inner r) (body_fits l r (out-Residual r) h);
  }

  module _ (kind : Kind) (hold : Option ℕ) (e : Expr) (b : Deeds) (l : Layout) (x : Carries b l) where
    start_carried : (c : Context) (m : Mark) → Carried (rest_on_start scene landing kind hold b e c m) (l.met_on_start m)
    start_carried c m =
        carried_if kind.immediate _ _ _ (carried_if (knows_yes (value_here scene c e)) _ _ _ (held_carried hold _) (x.rest c m)) (x.rest c m)

    after_carried : (at : Bool) (c : Context) (i : Residual) → (at ≡ false → l.fits i ≡ true)
        → Carried (if at then rest_on_start scene landing kind hold b e c mark.Zero else (if knows_yes (value_here scene c e) then b.kept i else b.after c i))
        (if at then l.met_on_start mark.Zero else l.met_on_resume i)
    after_carried true c i fits = start_carried c mark.Zero
    after_carried false c i fits = carried_if (knows_yes (value_here scene c e)) _ _ _ (x.kept i (fits refl)) (x.after c i (fits refl))

    held_or_kept : (at : Bool) (i : Residual) → (at ≡ false → l.fits i ≡ true)
        → Carried (if at then stays_held landing hold else b.kept i) (if at then l.met_on_start mark.Zero else l.met_on_resume i)
    held_or_kept true i fits = held_carried hold _
    held_or_kept false i fits = x.kept i (fits refl)

    carries_suspend : Carries (suspend scene landing kind hold b e) (suspend_layout hold l)
    carries_suspend = record {
      rest = start_carried;
      after = λ c r h. after_carried (is_held r) c (inner r) (held_fits hold l r (out-Residual r) h);
      kept = λ r h. held_or_kept (is_held r) (inner r) (held_fits hold l r (out-Residual r) h);
    }

  carries_scope : (locals : List ℕ) (b : Deeds) (l : Layout) → Carries b l → Carries (scope landing locals b) (scope_layout locals l)
  carries_scope locals b l x = record {
    rest = λ c m. scope_carried locals m (met_new locals m) (l.met_on_start m) _ (new_carried locals m) (x.rest _ m);
    after = λ c r h.
        let fit = scope_fits locals l r (out-Residual r) h in
        scope_carried locals mark.Zero (met_kept locals (stores_of r)) (l.met_on_resume (inner r)) _ (kept_carried locals (stores_of r) fit.0) (x.after _ (inner r) fit.1);
    kept = λ r h.
        let fit = scope_fits locals l r (out-Residual r) h in
        scope_carried locals mark.Zero (met_kept locals (stores_of r)) (l.met_on_resume (inner r)) _ (kept_carried locals (stores_of r) fit.0) (x.kept (inner r) fit.1);
  }

  carries_bound : (bindings : List Binding) (b : Deeds) (l : Layout) → Carries b l → Carries (bound_body scene bindings b) l
  carries_bound bindings b l x = record {
    rest = λ c m. x.rest (with_bindings scene c bindings) m;
    after = λ c r h. x.after (with_bindings scene c bindings) r h;
    kept = x.kept;
  }

  by_side : (side : Bool) (a b : Deeds) (l k : Layout) → Carries a l → Carries b k → Carries (if side then a else b) (if side then l else k)
  by_side true a b l k x y = x
  by_side false a b l k x y = y

  carries_choice : (e : Expr) (a b : Deeds) (l k : Layout) → Carries a l → Carries b k → Carries (choice scene landing e a b) (choice_layout l k)
  carries_choice e a b l k x y = record {
    rest = λ c m.
        carried_if (knows_yes (value_here scene c e)) _ _ _
        (carried_left (l.met_on_start m) (k.met_on_start m) _ (x.rest c m)) (carried_right (l.met_on_start m) (k.met_on_start m) _ (y.rest c m));
    after = λ c r h. (by_side (side_of r) a b l k x y).after c (inner r) (side_fits l k r (out-Residual r) h);
    kept = λ r h. (by_side (side_of r) a b l k x y).kept (inner r) (side_fits l k r (out-Residual r) h);
  }

  module _ (calls : Calls Deed (List Spot)) (layouts : ℕ → Layout) (called : (number : ℕ) (arguments : List Arg) → Carries (calls number arguments) (layouts number)) where
    abbrev B : Stmt → Deeds
    B = behavior scene landing calls

    abbrev L : Stmt → Layout
    L = layout layouts

    abbrev All : List Stmt → Type 0
    All parts = AllByRecursion (λ s. Carries (B s) (L s)) parts

    abbrev started : List Stmt → Mark → List Met
    started parts m = flat_map (λ (part : Layout). part.met_on_start m) (map L parts)

    first_carried : (parts : List Stmt) → All parts → (number : ℕ) (c : Context) (m : Mark) → Carried (rest_in_first landing c (map B parts) number m) (started parts m)
    first_carried [] all number c m = tt
    first_carried (s ∷ parts) all number c m =
        carried_if (knows_yes ((B s).ends c m)) _ _ _
        (carried_right ((L s).met_on_start m) (started parts m) _ (first_carried parts all.1 (number + 1) c m))
        (carried_left ((L s).met_on_start m) (started parts m) _ (all.0.rest c m))

    member_carries : (parts : List Stmt) → All parts → (n : ℕ) → Carries (member (idle landing) (map B parts) n) (member bare (map L parts) n)
    member_carries [] all n = carries_idle bare
    member_carries (s ∷ parts) all zero = all.0
    member_carries (s ∷ parts) all (suc n) = member_carries parts all.1 n

    all_later : (parts : List Stmt) (n : ℕ) → All parts → All (drop n parts)
    all_later parts zero all = all
    all_later [] (suc n) all = tt
    all_later (s ∷ parts) (suc n) all = all_later parts n all.1

    carries_sequence : (parts : List Stmt) → All parts → Carries (sequence landing (map B parts)) (sequence_layout (map L parts))
    carries_sequence parts all = record {
      rest = λ c m. first_carried parts all 0 c m;
      after = λ c r h.
          let n = member_of r in
          let own = member_carries parts all n in
          carried_if (knows_yes ((member (idle landing) (map B parts) n).ended c (inner r))) _ _ _
          (carried_right ((member bare (map L parts) n).met_on_resume (inner r)) _ _
          (subst₂ (λ bs ls. Carried (rest_in_first landing c bs (n + 1) mark.Zero) (flat_map (λ (part : Layout). part.met_on_start mark.Zero) ls))
          (sym (drop-map B (n + 1) parts)) (sym (drop-map L (n + 1) parts)) (first_carried (drop (n + 1) parts) (all_later parts (n + 1) all) (n + 1) c mark.Zero)))
          (carried_left ((member bare (map L parts) n).met_on_resume (inner r)) _ _ (own.after c (inner r) (member_fits (map L parts) r (out-Residual r) h).0));
      kept = λ r h.
          let n = member_of r in
          carried_left ((member bare (map L parts) n).met_on_resume (inner r)) _ _
          ((member_carries parts all n).kept (inner r) (member_fits (map L parts) r (out-Residual r) h).0);
    }

    rest_carried : (parts : List Stmt) → All parts → (c : Context) (m : Mark)
        → Carried (flat_map (λ (spots : List Spot). spots) (map (λ (part : Deeds). part.rest c m) (map B parts))) (started parts m)
    rest_carried [] all c m = tt
    rest_carried (s ∷ parts) all c m =
        all_join _ _ _ (carried_left ((L s).met_on_start m) (started parts m) _ (all.0.rest c m))
        (carried_right ((L s).met_on_start m) (started parts m) _ (rest_carried parts all.1 c m))

    abbrev resumed : List Stmt → List (Option Residual) → List Met
    resumed parts branches = flat_map (λ (one : Layout × Residual). one.0.met_on_resume one.1) (resting (map L parts) branches)

    each_carried : (f : Deeds → Residual → List Spot) → ((s : Stmt) (r : Residual) → Carries (B s) (L s) → (L s).fits r ≡ true → Carried (f (B s) r) ((L s).met_on_resume r))
        → (parts : List Stmt) → All parts → (branches : List (Option Residual)) → fits_each (map L parts) branches ≡ true
        → Carried (flat_map (λ (spots : List Spot). spots) (each_branch [] f (map B parts) branches)) (resumed parts branches)
    each_carried f own [] all branches h = tt
    each_carried f own (s ∷ parts) all [] h = tt
    each_carried f own (s ∷ parts) all (None ∷ branches) h = each_carried f own parts all.1 branches h
    each_carried f own (s ∷ parts) all (Some r ∷ branches) h =
        let two = and_parts _ _ h in
        all_join _ _ _ (carried_left ((L s).met_on_resume r) (resumed parts branches) _ (own s r all.0 two.0))
        (carried_right ((L s).met_on_resume r) (resumed parts branches) _ (each_carried f own parts all.1 branches two.1))

    carries_parallel : (parts : List Stmt) → All parts → Carries (parallel landing (map B parts)) (parallel_layout (map L parts))
    carries_parallel parts all = record {
      rest = λ c m. rest_carried parts all c m;
      after = λ c r h.
          each_carried (λ part inside. part.after c inside) (λ s inside own fit. own.after c inside fit) parts all (branches_of r) (branches_fit (map L parts) (out-Residual r) h);
      kept = λ r h.
          each_carried (λ part inside. part.kept inside) (λ s inside own fit. own.kept inside fit) parts all (branches_of r) (branches_fit (map L parts) (out-Residual r) h);
    }

    abbrev Proved : Type 0
    Proved = (s : Stmt) × Carries (B s) (L s)

    all_of : (parts : List Proved) → All (map (λ (e : Proved). e.0) parts)
    all_of [] = tt
    all_of (e ∷ parts) = (e.1, all_of parts)

    abbrev AtNode : Stmt-F Stmt → Type 0
    AtNode x = Carries (node_behavior scene landing calls (map-Stmt Stmt Deeds B x)) (node_layout layouts (map-Stmt Stmt Layout L x))

    at_node : (node : Stmt-F Proved) → AtNode (map-Stmt Proved Stmt (λ e. e.0) node)
    at_node Stmt-F.Nothing = carries_idle bare
    at_node (Stmt-F.Assign target value) = record { rest = λ c m. tt; after = λ c r h. tt; kept = λ r h. tt }
    at_node (Stmt-F.Delayed target value) = record { rest = λ c m. tt; after = λ c r h. tt; kept = λ r h. tt }
    at_node (Stmt-F.Pause place) = record { rest = λ c m. (tt, tt); after = λ c r h. tt; kept = λ r h. (tt, tt) }
    at_node (Stmt-F.Seq parts) = carries_sequence _ (all_of parts)
    at_node (Stmt-F.Par parts) = carries_parallel _ (all_of parts)
    at_node (Stmt-F.If condition first second) = carries_choice condition _ _ _ _ first.1 second.1
    at_node (Stmt-F.Loop number body condition) = carries_loop number condition _ _ body.1
    at_node (Stmt-F.Abort kind body condition) = carries_abort kind condition _ _ body.1
    at_node (Stmt-F.Suspend kind hold body condition) = carries_suspend kind hold condition _ _ body.1
    at_node (Stmt-F.Scope locals body) = carries_scope locals _ _ body.1
    at_node (Stmt-F.Call number proto arguments) = called number arguments
    at_node (Stmt-F.Bind bindings body) = carries_bound bindings _ _ body.1

    -- for every statement
    pub walks_carry : (s : Stmt) → Carries (B s) (L s)
    walks_carry = ind-Stmt (λ s. Carries (B s) (L s)) (λ x y is.
        subst₂ Carries (sym (fold-roll-Stmt Deeds (node_behavior scene landing calls) x)) (sym (fold-roll-Stmt Layout (node_layout layouts) x))
        (subst AtNode is (at_node y)))
