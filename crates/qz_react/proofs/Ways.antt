-- What is inside goes on or stays, whatever is put round it.
use Rattle.std.proofs.Common.{◌≡◌, Bool, true, false, ℕ, zero, suc, ◌+◌, ◌≤◌, length, map, drop, append-nil, arith, List, [], ◌∷◌, ◌++◌, append_assoc, Option, Some, None, refl, sym, ap, ◌∙◌}
use Rattle.std.specs.Prelude.{if◌then◌else◌}
use Rattle.std.specs.Option.{option_map}
use Rattle.qz_values.specs.declared.Know.{Know}
use Rattle.qz_values.specs.Knowledge.{knows_yes, both, either, opposite}
use Rattle.qz_syntax.specs.declared.places.Residual.{Residual}
use Rattle.qz_syntax.specs.declared.places.Residual.TheVariants.{InSeq, InBody}
use Rattle.qz_syntax.specs.declared.places.Mark.{Mark}
use Rattle.qz_syntax.specs.declared.places.Mark.TheVariants.{Loop}
use Rattle.qz_syntax.specs.declared.expressions.Expr.{Expr}
use Rattle.qz_syntax.specs.declared.statements.Kind.{Kind}
use Rattle.qz_syntax.specs.declared.statements.Binding.{Binding}
use Rattle.qz_syntax.specs.declared.statements.Stmt.{Stmt}
use Rattle.qz_syntax.specs.declared.statements.Stmt.TheVariants.{Bind}
use Rattle.qz_meaning.specs.Scenes.{Passing, Context}
use Rattle.qz_meaning.specs.Accounts.{Write, Account}
use Rattle.qz_meaning.specs.Sequences.{rest_in_first}
use Rattle.qz_meaning.specs.Parallels.{each_branch, resting, ended_of_all, parallel}
use Rattle.qz_meaning.specs.Expressions.{value_here}
use Rattle.qz_meaning.specs.Residuals.{inner, branches_of}
use Rattle.qz_meaning.specs.Aborts.{abort}
use Rattle.qz_meaning.specs.Loops.{loop}
use Rattle.qz_meaning.specs.Calls.{bound_body}
use Rattle.qz_meaning.specs.Residing.{Walk, walk, residing, in_some_branch}
use Rattle.qz_react.specs.declared.residing.Rested.{Rested}
use Rattle.qz_react.specs.declared.rests.Search.{Search}
use Rattle.qz_react.specs.declared.rests.Search.TheVariants.{From, Found}
use Rattle.qz_react.specs.declared.residing.Way.{Way}
use Rattle.qz_react.specs.declared.residing.Way.TheVariants.{Goes, Stays}
use Rattle.qz_react.proofs.Writing.{walk_bound}
use Rattle.qz_react.specs.Landing.{by_way, suspended_way, branch_of, sought, seeking, found_by}

pub way_inside : (f : Residual → Residual) (way : Way) (on still : Option Residual)
    → option_map f (by_way way on still) ≡ by_way way (option_map f on) (option_map f still)
way_inside f Goes on still = refl
way_inside f Stays on still = refl

by_test : {A : Type 0} (b : Bool) (on still : A) → by_way (if b then Stays else Goes) on still ≡ (if b then still else on)
by_test true on still = refl
by_test false on still = refl

pub way_suspended : (f : Residual → Residual) (way : Way) (condition : Know) (on still : Option Residual)
    → option_map f (by_way (suspended_way way condition) on still)
    ≡ by_way way (option_map f (if knows_yes condition then still else on)) (option_map f still)
way_suspended f Goes condition on still = ap (option_map f) (by_test (knows_yes condition) on still)
way_suspended f Stays condition on still = refl

pub way_of_branches : {A : Type 0} (f g : A → Residual → Option Residual) (way : Way) (parts : List A) (branches : List (Option Residual))
    → in_some_branch (each_branch None (λ part r. by_way way (f part r) (g part r)) parts branches)
    ≡ by_way way (in_some_branch (each_branch None f parts branches)) (in_some_branch (each_branch None g parts branches))
way_of_branches f g Goes parts branches = refl
way_of_branches f g Stays parts branches = refl

pub branches_on : {A : Type 0} (f : A → Residual → Option Residual) (part : A) (parts : List A) (branch : Option Residual)
    (branches : List (Option Residual)) (places : List (Option Residual))
    → (places ++ branch_of f part branch ∷ []) ++ each_branch None f parts branches ≡ places ++ each_branch None f (part ∷ parts) (branch ∷ branches)
branches_on f part parts None branches places = append_assoc places (None ∷ []) (each_branch None f parts branches)
branches_on f part parts (Some r) branches places = append_assoc places (f part r ∷ []) (each_branch None f parts branches)

pub ruleset ways = (way_inside, way_suspended, way_of_branches, branches_on)

sought_by : (acc : Account Write (Option Residual)) (ctx : Context) (n : ℕ) (b : Bool) (place : Option Residual) (parts : List Walk) (m : Mark)
    → sought acc ctx (if b then From (n + 1) else Found place) parts m ≡ (if b then rest_in_first acc ctx parts (n + 1) m else place)
sought_by acc ctx n true place parts m = refl
sought_by acc ctx n false place parts m = refl

-- the search goes on past a member
pub sought_more : (step : Passing) (ctx : Context) (search : Search) (one : Rested) (part : Walk) (parts : List Walk) (m : Mark)
    → one ≡ record { ends = part.ends ctx m; place = part.rest ctx m }
    → sought (residing step) ctx (seeking search one) parts m ≡ sought (residing step) ctx search (part ∷ parts) m
sought_more step ctx (From n) one part parts m h =
    rw h (sought_by (residing step) ctx n (knows_yes (part.ends ctx m)) (option_map (λ r. InSeq n r) (part.rest ctx m)) parts m)
sought_more step ctx (Found place) one part parts m h = refl

pub sought_none : (step : Passing) (ctx : Context) (search : Search) (m : Mark) → sought (residing step) ctx search [] m ≡ found_by search
sought_none step ctx (From n) m = refl
sought_none step ctx (Found place) m = refl

pub ruleset searching = (sought_more, sought_none)

drop_past : {A : Type 0} (xs : List A) (i : ℕ) → length xs ≤ i → drop i xs ≡ []
drop_past [] zero h = refl
drop_past [] (suc i) h = refl
drop_past (x ∷ xs) zero h = absurd (omega arith)
drop_past (x ∷ xs) (suc i) h = drop_past xs i (omega arith)

-- where control rests in some statement, and whether that ends
abbrev pub landed : Walk → Context → Residual → Way → Rested
landed b ctx r way = record { ends = b.ended ctx r; place = by_way way (b.after ctx r) (b.kept r) }

pub abort_lands : (step : Passing) (kind : Kind) (body : Walk) (condition : Expr) (ctx next : Context) (r inside : Residual) (way : Way) (one done : Rested) (c : Know)
    → inside ≡ inner r → next ≡ ctx → one ≡ landed body ctx inside way → c ≡ value_here step.now next condition
    → done ≡ record {
      ends = either c one.ends;
      place = by_way way (if knows_yes c then None else option_map (λ i. InBody i) one.place) (option_map (λ i. InBody i) one.place);
    }
    → done ≡ landed (abort step.now (residing step) kind body condition) ctx r way
abort_lands step kind body condition ctx next r inside Goes one done c hi hn ho hc h = rw (h, ho, hc, hn, hi) refl
abort_lands step kind body condition ctx next r inside Stays one done c hi hn ho hc h = rw (h, ho, hc, hn, hi) refl

if_map : {A B : Type 0} (f : A → B) (b : Bool) (x y : A) → (if b then f x else f y) ≡ f (if b then x else y)
if_map f true x y = refl
if_map f false x y = refl

pub loop_lands : (step : Passing) (number : ℕ) (body : Walk) (condition : Expr) (ctx next : Context) (r inside : Residual) (way : Way) (one : Rested)
    (c ends : Know) (turned : Bool) (place : Option Residual)
    → inside ≡ inner r → next ≡ ctx → one ≡ landed body ctx inside way → c ≡ value_here step.now next condition
    → turned ≡ by_way way (knows_yes (both one.ends c)) false → ends ≡ both one.ends (opposite c)
    → place ≡ (if turned then option_map (λ i. InBody i) (body.rest next (Loop number)) else option_map (λ i. InBody i) one.place)
    → record { ends = ends; place = place } ≡ landed (loop step.now (residing step) number body condition) ctx r way
loop_lands step number body condition ctx next r inside Goes one c ends turned place hi hn ho hc ht he hp =
    rw (he, hp, ht, ho, hc, hn, hi)
    (ap (λ (x : Option Residual). record { ends = both (body.ended ctx (inner r)) (opposite (value_here step.now ctx condition)); place = x })
    (if_map (option_map (λ i. InBody i)) (knows_yes (both (body.ended ctx (inner r)) (value_here step.now ctx condition))) (body.rest ctx (Loop number)) (body.after ctx (inner r))))
loop_lands step number body condition ctx next r inside Stays one c ends turned place hi hn ho hc ht he hp = rw (he, hp, ht, ho, hc, hn, hi) refl

pub bound_lands : (step : Passing) (s body inside : Stmt) (bindings bound : List Binding) (ctx : Context) (r : Residual) (way : Way) (one : Rested)
    → s ≡ Bind bindings body → inside ≡ body → bound ≡ bindings → one ≡ landed (bound_body step.now bound (walk step inside)) ctx r way
    → one ≡ landed (walk step s) ctx r way
bound_lands step s body inside bindings bound ctx r way one is e f h =
    h ∙ ap (λ b. landed (bound_body step.now b (walk step inside)) ctx r way) f
    ∙ ap (λ b. landed (bound_body step.now bindings (walk step b)) ctx r way) e
    ∙ ap (λ (w : Walk). landed w ctx r way) (sym (walk_bound step s body bindings is))

pub parallel_lands : (step : Passing) (parts : List Stmt) (i : ℕ) (others : List (Option Residual)) (ctx : Context) (r : Residual) (way : Way) (so_far : Know)
    (places : List (Option Residual)) (one : Rested) → length parts ≤ i
    → ended_of_all ctx (resting (map (walk step) (drop i parts)) others) so_far ≡ (parallel (residing step) (map (walk step) parts)).ended ctx r
    → places ++ each_branch None (λ (part : Walk) inside. by_way way (part.after ctx inside) (part.kept inside)) (map (walk step) (drop i parts)) others
    ≡ each_branch None (λ (part : Walk) inside. by_way way (part.after ctx inside) (part.kept inside)) (map (walk step) parts) (branches_of r)
    → one ≡ record { ends = so_far; place = in_some_branch places }
    → one ≡ landed (parallel (residing step) (map (walk step) parts)) ctx r way
parallel_lands step parts i others ctx r way so_far places one past he hp h =
    let none : drop i parts ≡ [] = drop_past parts i past in
    let F = λ (part : Walk) (inside : Residual). by_way way (part.after ctx inside) (part.kept inside) in
    let ended : so_far ≡ (parallel (residing step) (map (walk step) parts)).ended ctx r =
    ap (λ (ps : List Stmt). ended_of_all ctx (resting (map (walk step) ps) others) so_far) (sym none) ∙ he in
    let placed : places ≡ each_branch None F (map (walk step) parts) (branches_of r) =
    sym (append-nil places) ∙ ap (λ (ps : List Stmt). places ++ each_branch None F (map (walk step) ps) others) (sym none) ∙ hp in
    h ∙ ap (λ k. record { ends = k; place = in_some_branch places }) ended
    ∙ ap (λ (ps : List (Option Residual)). record { ends = (parallel (residing step) (map (walk step) parts)).ended ctx r; place = in_some_branch ps }) placed
    ∙ ap (λ (o : Option Residual). record { ends = (parallel (residing step) (map (walk step) parts)).ended ctx r; place = o })
    (way_of_branches (λ (part : Walk) inside. part.after ctx inside) (λ (part : Walk) inside. part.kept inside) way (map (walk step) parts) (branches_of r))
