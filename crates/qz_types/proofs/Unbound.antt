-- No callee's body stands in the core tree.
use Rattle.std.proofs.Common.{◌≡◌, ℕ, Bool, true, false, ◌&&◌, length, map, List, [], ◌∷◌, Option, refl, sym, ap, ap₂, ◌∙◌, if◌then◌else◌}
use Rattle.std.specs.List.{list_all, range_with_len}
use Rattle.qz_syntax.specs.declared.declarations.Decl.{Decl}
use Rattle.qz_syntax.specs.declared.names.Name.{Name}
use Rattle.qz_syntax.specs.declared.expressions.Var.{Var}
use Rattle.qz_syntax.specs.declared.expressions.Expr.{Expr}
use Rattle.qz_syntax.specs.declared.statements.Kind.{Kind}
use Rattle.qz_syntax.specs.declared.statements.Stmt.{Stmt}
use Rattle.qz_syntax.specs.declared.statements.Stmt.TheVariants as core
use Rattle.qz_syntax.specs.declared.file_expressions.NameAt.{NameAt}
use Rattle.qz_syntax.specs.declared.file_expressions.FileExpr.{FileExpr}
use Rattle.qz_syntax.specs.declared.file_statements.Target.{Target}
use Rattle.qz_syntax.specs.declared.files.FileFormal.{FileFormal}
use Rattle.qz_syntax.specs.Numbers.{is_unbound, node_is_unbound}
use Rattle.qz_syntax.proofs.Equations.{fold-Nothing, fold-Assign, fold-Delayed, fold-Pause, fold-Seq, fold-Par, fold-If, fold-Loop, fold-Abort, fold-Suspend, fold-Scope, fold-Call}
use Rattle.qz_types.specs.declared.numbers.Numbers.{Numbers}
use Rattle.qz_types.specs.Meanings.{Meanings}
use Rattle.qz_types.specs.Declarations.{declared}
use Rattle.qz_types.specs.CoreDeclarations.{local_numbers}
use Rattle.qz_types.specs.CoreExpressions.{core_variable}
use Rattle.qz_types.specs.Makers.{Maker, Valued, with_loop, with_locals, hold_place, with_hold_place, pausing, repeating, branching, aborting, suspending, all_made, listed, in_sequence, in_parallel}
use Rattle.qz_types.specs.CoreStatements.{in_scope, scoped, core_arguments}
use Rattle.qz_types.proofs.MadeInduction.{Each, Keeps}

abbrev pub Unbound : Maker → Type 0
Unbound maker = (names : Meanings Var) (n : Numbers) → is_unbound (maker names n).tree ≡ true

abbrev all_of : List Bool → Bool
all_of parts = list_all (λ part. part) parts

one_true : (b : Bool) → b ≡ true → all_of (b ∷ []) ≡ true
one_true true e = refl
one_true false e = e

two_true : (a b : Bool) → a ≡ true → b ≡ true → all_of (a ∷ (b ∷ [])) ≡ true
two_true true true e f = refl
two_true true false e f = f
two_true false b e f = e

both_true : (a b : Bool) → a ≡ true → b ≡ true → (a && b) ≡ true
both_true true b e f = f
both_true false b e f = e

all_unbound : (makers : List Maker) → Each Unbound makers → (names : Meanings Var) (n : Numbers) → all_of (map is_unbound (all_made makers names n).trees) ≡ true
all_unbound [] each names n = refl
all_unbound (maker ∷ makers) each names n =
    both_true (is_unbound (maker names n).tree) (all_of (map is_unbound (all_made makers names (maker names n).next).trees))
    (each.0 names n) (all_unbound makers each.1 names (maker names n).next)

only_one : (b : Bool) → all_of (b ∷ []) ≡ true → b ≡ true
only_one true f = refl
only_one false f = f

listed_unbound : (together : List Stmt → Stmt) → ((parts : List Stmt) → is_unbound (together parts) ≡ all_of (map is_unbound parts))
    → (trees : List Stmt) → all_of (map is_unbound trees) ≡ true → is_unbound (listed together trees) ≡ true
listed_unbound together h [] e = fold-Nothing Bool node_is_unbound
listed_unbound together h (only ∷ []) e = only_one (is_unbound only) e
listed_unbound together h (first ∷ (second ∷ others)) e = h (first ∷ (second ∷ others)) ∙ e

unbound_scoped : (locals : List ℕ) (body : Stmt) → is_unbound body ≡ true → is_unbound (scoped locals body) ≡ true
unbound_scoped [] body e = e
unbound_scoped (local ∷ locals) body e = fold-Scope Bool node_is_unbound (local ∷ locals) body ∙ one_true (is_unbound body) e

unbound_assigned : (next : Bool) (v : Var) (e : Expr) → is_unbound (if next then core.Delayed v e else core.Assign v e) ≡ true
unbound_assigned true v e = fold-Delayed Bool node_is_unbound v e
unbound_assigned false v e = fold-Assign Bool node_is_unbound v e

pub keeps_unbound : Keeps Unbound
keeps_unbound = record {
  forms = record {
    at_nothing = λ names n. fold-Nothing Bool node_is_unbound;
    at_assigned = λ (target : Target) (value : Valued) names n. unbound_assigned target.next (core_variable names target.name.name) (value names);
    at_pausing = λ label names n. fold-Pause Bool node_is_unbound (length n.labels);
    at_calling = λ proto formals arguments names n. fold-Call Bool node_is_unbound n.calls proto (core_arguments names formals arguments);
    at_repeating = λ body e b names n.
        fold-Loop Bool node_is_unbound n.loops (body names (with_loop n)).tree (e names) ∙ one_true (is_unbound (body names (with_loop n)).tree) (b names (with_loop n));
    at_branching = λ e first second f g names n.
        fold-If Bool node_is_unbound (e names) (first names n).tree (second names (first names n).next).tree
        ∙ two_true (is_unbound (first names n).tree) (is_unbound (second names (first names n).next).tree) (f names n) (g names (first names n).next);
    at_aborting = λ kind body e b names n. fold-Abort Bool node_is_unbound kind (body names n).tree (e names) ∙ one_true (is_unbound (body names n).tree) (b names n);
    at_suspending = λ kind body e b names n.
        fold-Suspend Bool node_is_unbound kind (hold_place kind n) (body names (with_hold_place kind n)).tree (e names)
        ∙ one_true (is_unbound (body names (with_hold_place kind n)).tree) (b names (with_hold_place kind n));
    at_sequence = λ makers each names n.
        listed_unbound core.Seq (λ parts. fold-Seq Bool node_is_unbound parts) (all_made makers names n).trees (all_unbound makers each names n);
    at_parallel = λ makers each names n.
        listed_unbound core.Par (λ parts. fold-Par Bool node_is_unbound parts) (all_made makers names n).trees (all_unbound makers each names n);
  };
  at_scope = λ locals decls body as_many b names n.
      unbound_scoped (range_with_len (length n.decls) (length locals)) (body (declared (local_numbers (length n.decls) locals) names) (with_locals n decls)).tree
      (b (declared (local_numbers (length n.decls) locals) names) (with_locals n decls));
}
