-- The first loop whose body may end at once, in each form of statement.
use Rattle.std.proofs.Common.{◌≡◌, ℕ, true, false, List, [], ◌∷◌, ◌++◌, map, Option, None, Some, append-nil, refl, ap, ◌∙◌, ◌⊎◌, inl, inr}
use Rattle.std.specs.List.{slice_get, flat_map}
use Rattle.qz_syntax.specs.declared.expressions.Expr.{Expr}
use Rattle.qz_syntax.specs.declared.expressions.Var.{Var}
use Rattle.qz_syntax.specs.declared.statements.Kind.{Kind}
use Rattle.qz_syntax.specs.declared.statements.Arg.{Arg}
use Rattle.qz_syntax.specs.declared.statements.Binding.{Binding}
use Rattle.qz_syntax.specs.declared.statements.Stmt.{Stmt}
use Rattle.qz_syntax.specs.declared.statements.Stmt.TheVariants as stmt
use Rattle.qz_syntax.specs.declared.statements.Stmt.TheFolds.{fold-Stmt}
use Rattle.qz_syntax.specs.Endings.{Ending, node_ending, instant_loops, may_end_of}
use Rattle.qz_syntax.proofs.Equations as equations
use Rattle.qz_syntax.proofs.EndingLemmas.{ending-may_end}

abbrev instants : Stmt → List ℕ
instants s = instant_loops [] s

-- an ending's loops, of a fold or by name
among_map : (parts : List Stmt) → flat_map (λ (part : Ending). part.instant) (map (fold-Stmt Ending (node_ending [])) parts) ≡ flat_map instants parts
among_map [] = refl
among_map (part ∷ parts) = ap (λ xs. instants part ++ xs) (among_map parts)

pub first-none : (xs ys : List ℕ) → slice_get xs 0 ≡ None → slice_get (xs ++ ys) 0 ≡ slice_get ys 0
first-none [] ys e = refl
first-none (x ∷ xs) ys e = cc

pub first-some : (xs ys : List ℕ) (x : ℕ) → slice_get xs 0 ≡ Some x → slice_get (xs ++ ys) 0 ≡ Some x
first-some [] ys x e = cc
first-some (y ∷ xs) ys x e = e

pub instants-Nothing : instant_loops [] stmt.Nothing ≡ []
instants-Nothing = ap (λ (e : Ending). e.instant) (equations.fold-Nothing Ending (node_ending []))

pub instants-Assign : (target : Var) (value : Expr) → instant_loops [] (stmt.Assign target value) ≡ []
instants-Assign target value = ap (λ (e : Ending). e.instant) (equations.fold-Assign Ending (node_ending []) target value)

pub instants-Delayed : (target : Var) (value : Expr) → instant_loops [] (stmt.Delayed target value) ≡ []
instants-Delayed target value = ap (λ (e : Ending). e.instant) (equations.fold-Delayed Ending (node_ending []) target value)

pub instants-Pause : (place : ℕ) → instant_loops [] (stmt.Pause place) ≡ []
instants-Pause place = ap (λ (e : Ending). e.instant) (equations.fold-Pause Ending (node_ending []) place)

pub instants-Call : (number proto : ℕ) (arguments : List Arg) → instant_loops [] (stmt.Call number proto arguments) ≡ []
instants-Call number proto arguments = ap (λ (e : Ending). e.instant) (equations.fold-Call Ending (node_ending []) number proto arguments)

pub instants-Seq : (parts : List Stmt) → instant_loops [] (stmt.Seq parts) ≡ flat_map (λ part. instant_loops [] part) parts
instants-Seq parts = ap (λ (e : Ending). e.instant) (equations.fold-Seq Ending (node_ending []) parts) ∙ among_map parts

pub instants-Par : (parts : List Stmt) → instant_loops [] (stmt.Par parts) ≡ flat_map (λ part. instant_loops [] part) parts
instants-Par parts = ap (λ (e : Ending). e.instant) (equations.fold-Par Ending (node_ending []) parts) ∙ among_map parts

pub instants-If : (condition : Expr) (first second : Stmt) → instant_loops [] (stmt.If condition first second) ≡ instant_loops [] first ++ instant_loops [] second
instants-If condition first second =
    ap (λ (e : Ending). e.instant) (equations.fold-If Ending (node_ending []) condition first second) ∙ ap (λ xs. instants first ++ xs) (append-nil (instants second))

pub instants-Abort : (kind : Kind) (body : Stmt) (condition : Expr) → instant_loops [] (stmt.Abort kind body condition) ≡ instant_loops [] body
instants-Abort kind body condition = ap (λ (e : Ending). e.instant) (equations.fold-Abort Ending (node_ending []) kind body condition) ∙ append-nil (instants body)

pub instants-Suspend : (kind : Kind) (hold : Option ℕ) (body : Stmt) (condition : Expr) → instant_loops [] (stmt.Suspend kind hold body condition) ≡ instant_loops [] body
instants-Suspend kind hold body condition =
    ap (λ (e : Ending). e.instant) (equations.fold-Suspend Ending (node_ending []) kind hold body condition) ∙ append-nil (instants body)

pub instants-Scope : (locals : List ℕ) (body : Stmt) → instant_loops [] (stmt.Scope locals body) ≡ instant_loops [] body
instants-Scope locals body = ap (λ (e : Ending). e.instant) (equations.fold-Scope Ending (node_ending []) locals body) ∙ append-nil (instants body)

pub instants-Bind : (bindings : List Binding) (body : Stmt) → instant_loops [] (stmt.Bind bindings body) ≡ instant_loops [] body
instants-Bind bindings body = ap (λ (e : Ending). e.instant) (equations.fold-Bind Ending (node_ending []) bindings body) ∙ append-nil (instants body)

pub instants-Loop_own : (number : ℕ) (body : Stmt) (condition : Expr) → may_end_of [] body ≡ true
    → instant_loops [] (stmt.Loop number body condition) ≡ number ∷ instant_loops [] body
instants-Loop_own number body condition ends =
    let own : (fold-Stmt Ending (node_ending []) body).may_end ≡ true = ending-may_end [] body ∙ ends in
    ap (λ (e : Ending). e.instant) (equations.fold-Loop Ending (node_ending []) number body condition) ∙ rw (own, append-nil (instants body)) refl

pub instants-Loop_inner : (number : ℕ) (body : Stmt) (condition : Expr) → may_end_of [] body ≡ false
    → instant_loops [] (stmt.Loop number body condition) ≡ instant_loops [] body
instants-Loop_inner number body condition stays =
    let own : (fold-Stmt Ending (node_ending []) body).may_end ≡ false = ending-may_end [] body ∙ stays in
    ap (λ (e : Ending). e.instant) (equations.fold-Loop Ending (node_ending []) number body condition) ∙ rw own (append-nil (instants body))

-- a list of members, one after the other or all at once
pub instants-parts : (s : Stmt) (parts : List Stmt) → (s ≡ stmt.Seq parts) ⊎ (s ≡ stmt.Par parts) → instant_loops [] s ≡ flat_map (λ part. instant_loops [] part) parts
instants-parts s parts (inl is) = ap instants is ∙ instants-Seq parts
instants-parts s parts (inr is) = ap instants is ∙ instants-Par parts
