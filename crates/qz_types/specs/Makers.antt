-- What makes a part of the core tree: numbers are given in tree order while it is made.
use Rattle.std.specs.Prelude.{ℕ, ◌+◌, Bool, true, false, List, [], ◌∷◌, ◌++◌, length, Option, Some, None, if◌then◌else◌}
use Rattle.qz_values.specs.Values.{yes}
use Rattle.qz_syntax.specs.declared.declarations.Decl.{Decl}
use Rattle.qz_syntax.specs.declared.names.Name.{Name}
use Rattle.qz_syntax.specs.declared.expressions.Var.{Var}
use Rattle.qz_syntax.specs.declared.expressions.Expr.{Expr}
use Rattle.qz_syntax.specs.declared.expressions.Expr.TheVariants as expr
use Rattle.qz_syntax.specs.declared.statements.Kind.{Kind}
use Rattle.qz_syntax.specs.declared.statements.Stmt.{Stmt}
use Rattle.qz_syntax.specs.declared.statements.Stmt.TheVariants as core
use Rattle.qz_types.specs.declared.numbers.Numbers.{Numbers}
use Rattle.qz_types.specs.Meanings.{Meanings}

-- a part of the core tree, and what was numbered up to its end
pub record Made : Type 0 where
  pub tree : Stmt
  pub next : Numbers

-- makes a part where names stand for some variables, after what was numbered before it
abbrev pub Maker : Type 0
Maker = Meanings Var → Numbers → Made

-- an expression where names stand for some variables
abbrev pub Valued : Type 0
Valued = Meanings Var → Expr

-- one place more, with its label if it has one
abbrev pub with_place : Numbers → Option Name → Numbers
with_place n label = record n { labels = n.labels ++ label ∷ [] }

-- one loop more
abbrev pub with_loop : Numbers → Numbers
with_loop n = record n { loops = n.loops + 1 }

-- one call more
abbrev pub with_call : Numbers → Numbers
with_call n = record n { calls = n.calls + 1 }

-- some locals more
abbrev pub with_locals : Numbers → List Decl → Numbers
with_locals n decls = record n { decls = n.decls ++ decls }

-- what is made, inside something
abbrev pub inside : (Stmt → Stmt) → Made → Made
inside around made = record { tree = around made.tree; next = made.next }

-- the condition `true`
abbrev pub always : Valued
always names = expr.Lit yes

-- what has no numbers in it
abbrev pub plainly : (Meanings Var → Stmt) → Maker
plainly tree names n = record { tree = tree names; next = n }

-- `l: pause;`
abbrev pub pausing : Option Name → Maker
pausing label names n = record { tree = core.Pause (length n.labels); next = with_place n label }

-- `do S while(e);`
abbrev pub repeating : Maker → Valued → Maker
repeating body condition names n = inside (λ s. core.Loop n.loops s (condition names)) (body names (with_loop n))

-- `if(e) S else T`
abbrev pub branching : Valued → Maker → Maker → Maker
branching condition first second names n = record {
  tree = core.If (condition names) (first names n).tree (second names (first names n).next).tree;
  next = (second names (first names n).next).next;
}

-- `abort S when(e);`
abbrev pub aborting : Kind → Maker → Valued → Maker
aborting kind body condition names n = inside (λ s. core.Abort kind s (condition names)) (body names n)

-- the hold place of a suspend, which it has where it is immediate
abbrev pub hold_place : Kind → Numbers → Option ℕ
hold_place kind n = if kind.immediate then Some (length n.labels) else None

-- a hold place comes before the places of the body, and has no label
abbrev pub with_hold_place : Kind → Numbers → Numbers
with_hold_place kind n = if kind.immediate then with_place n None else n

-- `suspend S when(e);`
abbrev pub suspending : Kind → Maker → Valued → Maker
suspending kind body condition names n =
    inside (λ s. core.Suspend kind (hold_place kind n) s (condition names)) (body names (with_hold_place kind n))

-- some parts, and what was numbered up to the end of the last
pub record AllMade : Type 0 where
  pub trees : List Stmt
  pub next : Numbers

-- one part, and then the others
abbrev pub followed : Made → AllMade → AllMade
followed first rest = record { trees = first.tree ∷ rest.trees; next = rest.next }

-- some parts, each numbered after the ones before it
abbrev pub all_made : List Maker → Meanings Var → Numbers → AllMade
all_made [] names n = record { trees = []; next = n }
all_made (maker ∷ makers) names n = followed (maker names n) (all_made makers names (maker names n).next)

-- a list of no statement is `nothing`, and a list of one is that statement
abbrev pub listed : (List Stmt → Stmt) → List Stmt → Stmt
listed together [] = core.Nothing
listed together (only ∷ []) = only
listed together (first ∷ (second ∷ others)) = together (first ∷ (second ∷ others))

-- a list of statements, one after the other
abbrev pub in_sequence : List Maker → Maker
in_sequence makers names n = record {
  tree = listed core.Seq (all_made makers names n).trees;
  next = (all_made makers names n).next;
}

-- some lists, all at once
abbrev pub in_parallel : List Maker → Maker
in_parallel makers names n = record {
  tree = listed core.Par (all_made makers names n).trees;
  next = (all_made makers names n).next;
}
