-- The first loop whose body may end at once, in each form of statement.
use Rattle.std.proofs.Common.{◌≡◌, ℕ, Bool, true, false, List, [], ◌∷◌, ◌++◌, ◌&&◌, map, Option, Some, None, append-nil, refl, ap, ◌∙◌, ◌⊎◌, inl, inr, if◌then◌else◌}
use Rattle.std.specs.Option.{option_or}
use Rattle.std.specs.List.{slice_get, flat_map}
use Rattle.qz_syntax.specs.declared.expressions.Expr.{Expr}
use Rattle.qz_syntax.specs.declared.statements.Stmt.{Stmt}
use Rattle.qz_syntax.specs.declared.statements.Stmt.TheVariants as stmt
use Rattle.qz_syntax.specs.declared.statements.Stmt.TheFolds.{fold-Stmt}
use Rattle.qz_syntax.specs.Endings.{Ending, node_ending, instant_loops, may_end_of}
use Rattle.qz_syntax.proofs.Equations as equations
use Rattle.qz_syntax.proofs.EndingLemmas.{ending-may_end}

abbrev instants : Stmt → List ℕ
instants s = instant_loops [] s

-- an ending's loops, of a fold or by name
among_map : (parts : List Stmt) → flat_map (λ (part : Ending). part.instant) (map (fold-Stmt Ending (node_ending [])) parts) ≡ flat_map instants parts
among_map [] = refl
among_map (part ∷ parts) = ap (λ xs. instants part ++ xs) (among_map parts)

-- the first of two lists in a row
pub first-append : (xs ys : List ℕ) → slice_get (xs ++ ys) 0 ≡ option_or (slice_get xs 0) (slice_get ys 0)
first-append [] ys = refl
first-append (x ∷ xs) ys = refl

instants-Seq : (parts : List Stmt) → instant_loops [] (stmt.Seq parts) ≡ flat_map instants parts
instants-Seq parts = ap (λ (e : Ending). e.instant) (equations.fold-Seq Ending (node_ending []) parts) ∙ among_map parts

instants-Par : (parts : List Stmt) → instant_loops [] (stmt.Par parts) ≡ flat_map instants parts
instants-Par parts = ap (λ (e : Ending). e.instant) (equations.fold-Par Ending (node_ending []) parts) ∙ among_map parts

-- a list of members, one after the other or all at once
pub instants-parts : (s : Stmt) (parts : List Stmt) → (s ≡ stmt.Seq parts) ⊎ (s ≡ stmt.Par parts) → instant_loops [] s ≡ flat_map (λ part. instant_loops [] part) parts
instants-parts s parts (inl is) = ap instants is ∙ instants-Seq parts
instants-parts s parts (inr is) = ap instants is ∙ instants-Par parts

pub first-If : (condition : Expr) (one two : Stmt)
    → slice_get (instant_loops [] (stmt.If condition one two)) 0 ≡ option_or (slice_get (instant_loops [] one) 0) (slice_get (instant_loops [] two) 0)
first-If condition one two =
    ap (λ (e : Ending). slice_get e.instant 0) (equations.fold-If Ending (node_ending []) condition one two)
    ∙ ap (λ xs. slice_get (instants one ++ xs) 0) (append-nil (instants two)) ∙ first-append (instants one) (instants two)

own-first : (b : Bool) (number : ℕ) (xs : List ℕ) → slice_get ((if b then number ∷ [] else []) ++ (xs ++ [])) 0 ≡ (if b then Some number else slice_get xs 0)
own-first true number xs = refl
own-first false number xs = ap (λ ys. slice_get ys 0) (append-nil xs)

pub first-Loop : (number : ℕ) (body : Stmt) (condition : Expr)
    → slice_get (instant_loops [] (stmt.Loop number body condition)) 0 ≡ (if may_end_of [] body then Some number else slice_get (instant_loops [] body) 0)
first-Loop number body condition =
    ap (λ (e : Ending). slice_get e.instant 0) (equations.fold-Loop Ending (node_ending []) number body condition)
    ∙ own-first (fold-Stmt Ending (node_ending []) body).may_end number (instants body)
    ∙ ap (λ (b : Bool). if b then Some number else slice_get (instants body) 0) (ending-may_end [] body)

pub and-assoc : (a b c : Bool) → ((a && b) && c) ≡ (a && (b && c))
and-assoc true b c = refl
and-assoc false b c = refl

pub or-assoc : (a b c : Option ℕ) → option_or (option_or a b) c ≡ option_or a (option_or b c)
or-assoc None b c = refl
or-assoc (Some x) b c = refl
