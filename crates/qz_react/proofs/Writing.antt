-- What a walk writes, put together.
use Rattle.std.proofs.Common.{◌≡◌, ℕ, ◌+◌, List, [], ◌∷◌, ◌++◌, map, drop, Option, Some, Result, Ok, Err, IfOk, OnOk, flat_map, refl, sym, ap, ◌∙◌, append_assoc}
use Rattle.qz_values.specs.declared.Know.{Know}
use Rattle.qz_values.specs.Knowledge.{both, opposite}
use Rattle.qz_syntax.specs.declared.places.Mark.{Mark}
use Rattle.qz_syntax.specs.declared.places.Mark.TheVariants.{Zero, Loop}
use Rattle.qz_syntax.specs.declared.places.Residual.{Residual}
use Rattle.qz_syntax.specs.declared.expressions.Expr.{Expr}
use Rattle.qz_syntax.specs.declared.statements.Binding.{Binding}
use Rattle.qz_syntax.specs.declared.statements.Stmt.{Stmt}
use Rattle.qz_syntax.specs.declared.statements.Stmt.TheVariants.{Bind}
use Rattle.qz_meaning.specs.Accounts.{Write}
use Rattle.qz_meaning.specs.Layouts.{Layout, Met, bare}
use Rattle.qz_meaning.specs.Behaviors.{idle}
use Rattle.qz_meaning.specs.Scenes.{Passing, Context}
use Rattle.qz_meaning.specs.Residuals.{inner, member_of}
use Rattle.qz_meaning.specs.Sequences.{sequence, sequence_layout, member, start_in_turn}
use Rattle.qz_meaning.specs.Expressions.{value_here}
use Rattle.qz_meaning.specs.Loops.{loop}
use Rattle.qz_meaning.specs.Calls.{bound_body}
use Rattle.qz_meaning.specs.Residing.{Walk, residing, walk, no_calls, whole_layout}
use Rattle.qz_meaning.proofs.Walking.{behavior-Bind}
use Rattle.qz_react.proofs.Cutting.{drop-map}

pub on_ok : {A E : Type 0} (r : Result A E) {P Q : Type 0} → (P → Q) → OnOk r P → OnOk r Q
on_ok (Ok x) f p = f p
on_ok (Err e) f p = p

pub both_ok : {A E : Type 0} (r : Result A E) (P : A → Type 0) (W : Type 0) (Q : A → Type 0) → IfOk r P → OnOk r W
    → ((x : A) → P x → W → Q x) → IfOk r Q
both_ok (Ok x) P W Q p w f = f x p w
both_ok (Err e) P W Q p w f = p

map_joined : {A B : Type 0} (f : A → B) (xs ys : List A) → map f (xs ++ ys) ≡ map f xs ++ map f ys
map_joined f [] ys = refl
map_joined f (x ∷ xs) ys = ap (λ zs. f x ∷ zs) (map_joined f xs ys)

pub joined : {A B : Type 0} (f : A → B) (base : List B) (xs ys : List A) → (base ++ map f xs) ++ map f ys ≡ base ++ map f (xs ++ ys)
joined f base xs ys = append_assoc base (map f xs) (map f ys) ∙ ap (λ zs. base ++ zs) (sym (map_joined f xs ys))

pub walk_bound : (step : Passing) (s body : Stmt) (bindings : List Binding) → s ≡ Bind bindings body
    → walk step s ≡ bound_body step.now bindings (walk step body)
walk_bound step s body bindings is = ap (walk step) is ∙ behavior-Bind step.now (residing step) (no_calls (residing step)) bindings body

pub bound_starts : (step : Passing) (s body inside : Stmt) (bindings bound : List Binding) (ctx : Context) (g : Know) (m : Mark)
    (base now : List (Option Write)) → s ≡ Bind bindings body → inside ≡ body → bound ≡ bindings
    → now ≡ base ++ map Some ((bound_body step.now bound (walk step inside)).start ctx g m)
    → now ≡ base ++ map Some ((walk step s).start ctx g m)
bound_starts step s body inside bindings bound ctx g m base now is e f h =
    h ∙ ap (λ b. base ++ map Some ((bound_body step.now b (walk step inside)).start ctx g m)) f
    ∙ ap (λ b. base ++ map Some ((bound_body step.now bindings (walk step b)).start ctx g m)) e
    ∙ ap (λ (w : Walk). base ++ map Some (w.start ctx g m)) (sym (walk_bound step s body bindings is))

pub bound_resumes : (step : Passing) (s body inside : Stmt) (bindings bound : List Binding) (ctx : Context) (r : Residual) (g : Know)
    (base now : List (Option Write)) → s ≡ Bind bindings body → inside ≡ body → bound ≡ bindings
    → now ≡ base ++ map Some ((bound_body step.now bound (walk step inside)).resume ctx r g)
    → now ≡ base ++ map Some ((walk step s).resume ctx r g)
bound_resumes step s body inside bindings bound ctx r g base now is e f h =
    h ∙ ap (λ b. base ++ map Some ((bound_body step.now b (walk step inside)).resume ctx r g)) f
    ∙ ap (λ b. base ++ map Some ((bound_body step.now bindings (walk step b)).resume ctx r g)) e
    ∙ ap (λ (w : Walk). base ++ map Some (w.resume ctx r g)) (sym (walk_bound step s body bindings is))

pub sequence_resumes : (step : Passing) (parts later : List Stmt) (r inside : Residual) (number : ℕ) (ctx next : Context) (g guard ended : Know)
    (base middle now : List (Option Write)) → number ≡ member_of r → inside ≡ inner r → later ≡ drop (number + 1) parts → next ≡ ctx
    → ended ≡ (member (idle (residing step)) (map (walk step) parts) number).ended ctx inside → guard ≡ both g ended
    → middle ≡ base ++ map Some ((member (idle (residing step)) (map (walk step) parts) number).resume ctx inside g)
    → now ≡ middle ++ map Some (start_in_turn next (map (walk step) later) guard Zero)
    → now ≡ base ++ map Some ((sequence (residing step) (map (walk step) parts)).resume ctx r g)
sequence_resumes step parts later r inside number ctx next g guard ended base middle now hn hi hl hc he hg hm h =
    rw (h, hm, hg, he, hc, hl, hi, hn, drop-map (walk step) parts (member_of r + 1))
    (joined Some base ((member (idle (residing step)) (map (walk step) parts) (member_of r)).resume ctx (inner r) g)
    (start_in_turn ctx (map (walk step) (drop (member_of r + 1) parts)) (both g ((member (idle (residing step)) (map (walk step) parts) (member_of r)).ended ctx (inner r))) Zero))

pub ends_so : (ended condition ended2 condition2 k : Know) → k ≡ both ended (opposite condition) → ended ≡ ended2 → condition ≡ condition2
    → k ≡ both ended2 (opposite condition2)
ends_so ended condition ended2 condition2 k h e f = h ∙ ap (λ x. both x (opposite condition)) e ∙ ap (λ x. both ended2 (opposite x)) f

pub loop_resumes : (step : Passing) (body : Stmt) (number : ℕ) (condition : Expr) (ctx next : Context) (r inside : Residual) (g guard ended c : Know)
    (base middle now : List (Option Write)) → inside ≡ inner r → next ≡ ctx → ended ≡ (walk step body).ended ctx inside
    → c ≡ value_here step.now next condition → guard ≡ both (both g ended) c
    → middle ≡ base ++ map Some ((walk step body).resume ctx inside g)
    → now ≡ middle ++ map Some ((walk step body).start next guard (Loop number))
    → now ≡ base ++ map Some ((loop step.now (residing step) number (walk step body) condition).resume ctx r g)
loop_resumes step body number condition ctx next r inside g guard ended c base middle now hi hn he hc hg hm h =
    rw (h, hm, hg, hc, he, hn, hi)
    (joined Some base ((walk step body).resume ctx (inner r) g)
    ((walk step body).start ctx (both (both g ((walk step body).ended ctx (inner r))) (value_here step.now ctx condition)) (Loop number)))

pub if_ok : {A E : Type 0} (r : Result A E) (P Q : A → Type 0) → IfOk r P → ((x : A) → P x → Q x) → IfOk r Q
if_ok (Ok x) P Q p f = f x p
if_ok (Err e) P Q p f = p

pub sequence_meets : (parts later : List Stmt) (r inside : Residual) (number : ℕ) (base middle now : List (Option Met))
    → number ≡ member_of r → inside ≡ inner r → later ≡ drop (number + 1) parts
    → middle ≡ base ++ map Some ((member bare (map whole_layout parts) number).met_on_resume inside)
    → now ≡ middle ++ map Some (flat_map (λ (part : Layout). part.met_on_start Zero) (map whole_layout later))
    → now ≡ base ++ map Some ((sequence_layout (map whole_layout parts)).met_on_resume r)
sequence_meets parts later r inside number base middle now hn hi hl hm h =
    rw (h, hm, hl, hi, hn, drop-map whole_layout parts (member_of r + 1))
    (joined Some base ((member bare (map whole_layout parts) (member_of r)).met_on_resume (inner r))
    (flat_map (λ (part : Layout). part.met_on_start Zero) (map whole_layout (drop (member_of r + 1) parts))))
