-- The hold places of the core tree have no label.
use Rattle.std.proofs.Common.{◌≡◌, ℕ, zero, suc, Bool, true, false, ◌&&◌, length, map, List, [], ◌∷◌, ◌++◌, Option, Some, None, refl, sym, ap, ap₂, subst, ◌∙◌, append-nil, append_assoc, if◌then◌else◌}
use Rattle.std.proofs.lemmas.List.Folds.{list_all-append}
use Rattle.std.specs.List.{list_all, concat, range_with_len}
use Rattle.std.specs.Option.{option_to_list}
use Rattle.qz_syntax.specs.declared.declarations.Decl.{Decl}
use Rattle.qz_syntax.specs.declared.names.Name.{Name}
use Rattle.qz_syntax.specs.declared.expressions.Var.{Var}
use Rattle.qz_syntax.specs.declared.expressions.Expr.{Expr}
use Rattle.qz_syntax.specs.declared.statements.Arg.{Arg}
use Rattle.qz_syntax.specs.declared.statements.Kind.{Kind}
use Rattle.qz_syntax.specs.declared.statements.Stmt.{Stmt}
use Rattle.qz_syntax.specs.declared.statements.Stmt.TheVariants as core
use Rattle.qz_syntax.specs.declared.statements.Stmt.TheOpen.{Stmt-F}
use Rattle.qz_syntax.specs.declared.file_expressions.NameAt.{NameAt}
use Rattle.qz_syntax.specs.declared.file_statements.Target.{Target}
use Rattle.qz_syntax.specs.Numbers.{holds_of, own_holds, parts_of}
use Rattle.qz_syntax.specs.WellFormed.{is_unlabelled}
use Rattle.qz_syntax.proofs.Equations.{fold-Nothing, fold-Assign, fold-Delayed, fold-Pause, fold-Seq, fold-Par, fold-If, fold-Loop, fold-Abort, fold-Suspend, fold-Scope, fold-Call}
use Rattle.qz_types.specs.declared.numbers.Numbers.{Numbers}
use Rattle.qz_types.specs.Meanings.{Meanings}
use Rattle.qz_types.specs.Declarations.{declared}
use Rattle.qz_types.specs.CoreDeclarations.{local_numbers}
use Rattle.qz_types.specs.CoreExpressions.{core_variable}
use Rattle.qz_types.specs.Makers.{Made, Maker, Valued, AllMade, with_place, with_loop, with_call, with_locals, hold_place, with_hold_place, pausing, repeating, branching, aborting, suspending, all_made, listed, in_sequence, in_parallel}
use Rattle.qz_types.specs.CoreStatements.{in_scope, scoped, core_arguments}
use Rattle.qz_types.proofs.MadeInduction.{Each, Keeps}

abbrev Labels : Type 0
Labels = List (Option Name)

-- whether none of these places has a label
abbrev are_unlabelled : Labels → List ℕ → Bool
are_unlabelled labels places = list_all (is_unlabelled labels) places

abbrev step : Stmt-F (List ℕ) → List ℕ
step node = own_holds node ++ concat (parts_of node)

-- the labels that were added, and that hold places have none
pub record Unlabels (made : Made) (n : Numbers) : Type 0 where
  pub added : Labels
  pub next_labels : made.next.labels ≡ n.labels ++ added
  pub holds : (later : Labels) → are_unlabelled (made.next.labels ++ later) (holds_of made.tree) ≡ true

-- the same of several parts
record AllUnlabels (made : AllMade) (n : Numbers) : Type 0 where
  added : Labels
  next_labels : made.next.labels ≡ n.labels ++ added
  holds : (later : Labels) → are_unlabelled (made.next.labels ++ later) (concat (map holds_of made.trees)) ≡ true

abbrev pub Unlabelled : Maker → Type 0
Unlabelled maker = (names : Meanings Var) (n : Numbers) → Unlabels (maker names n) n

both_true : (a b : Bool) → a ≡ true → b ≡ true → (a && b) ≡ true
both_true true b e f = f
both_true false b e f = e

-- two lists of places
unlabelled_append : (labels : Labels) (xs ys : List ℕ) → are_unlabelled labels xs ≡ true → are_unlabelled labels ys ≡ true → are_unlabelled labels (xs ++ ys) ≡ true
unlabelled_append labels xs ys e f =
    list_all-append (is_unlabelled labels) xs ys ∙ both_true (are_unlabelled labels xs) (are_unlabelled labels ys) e f

-- a node without parts and hold place
leaf : (n next : Numbers) (tree : Stmt) (added : Labels) → holds_of tree ≡ [] → next.labels ≡ n.labels ++ added → Unlabels (record { tree = tree; next = next }) n
leaf n next tree added e f = record {
  added = added;
  next_labels = f;
  holds = λ later. ap (are_unlabelled (next.labels ++ later)) e;
}

-- a node round one part, with no hold place of its own
around : (n inner : Numbers) (body : Made) (tree : Stmt) → holds_of tree ≡ holds_of body.tree ++ [] → inner.labels ≡ n.labels → Unlabels body inner
    → Unlabels (record { tree = tree; next = body.next }) n
around n inner body tree e f b = record {
  added = b.added;
  next_labels = b.next_labels ∙ ap (λ labels. labels ++ b.added) f;
  holds = λ later. ap (are_unlabelled (body.next.labels ++ later)) (e ∙ append-nil (holds_of body.tree)) ∙ b.holds later;
}

-- what is unlabelled after one part is so after another
after : (a b : Labels) (places : List ℕ) (more : Labels) → b ≡ a ++ more → ((later : Labels) → are_unlabelled (a ++ later) places ≡ true)
    → (later : Labels) → are_unlabelled (b ++ later) places ≡ true
after a b places more e h later =
    ap (λ labels. are_unlabelled labels places) (ap (λ labels. labels ++ later) e ∙ append_assoc a more later) ∙ h (more ++ later)

two_parts : (n : Numbers) (a b : Made) (tree : Stmt) → holds_of tree ≡ holds_of a.tree ++ (holds_of b.tree ++ []) → Unlabels a n → Unlabels b a.next
    → Unlabels (record { tree = tree; next = b.next }) n
two_parts n a b tree e x y = record {
  added = x.added ++ y.added;
  next_labels = y.next_labels ∙ ap (λ labels. labels ++ y.added) x.next_labels ∙ append_assoc n.labels x.added y.added;
  holds = λ later. ap (are_unlabelled (b.next.labels ++ later)) (e ∙ ap (λ places. holds_of a.tree ++ places) (append-nil (holds_of b.tree)))
      ∙ unlabelled_append (b.next.labels ++ later) (holds_of a.tree) (holds_of b.tree) (after a.next.labels b.next.labels (holds_of a.tree) y.added y.next_labels x.holds later) (y.holds later);
}

all_unlabelled : (makers : List Maker) → Each Unlabelled makers → (names : Meanings Var) (n : Numbers) → AllUnlabels (all_made makers names n) n
all_unlabelled [] each names n = record { added = []; next_labels = sym (append-nil n.labels); holds = λ later. refl }
all_unlabelled (maker ∷ makers) each names n =
    let a = maker names n in
    let b = all_made makers names a.next in
    let x = each.0 names n in
    let y = all_unlabelled makers each.1 names a.next in
    record {
      added = x.added ++ y.added;
      next_labels = y.next_labels ∙ ap (λ labels. labels ++ y.added) x.next_labels ∙ append_assoc n.labels x.added y.added;
      holds = λ later.
          unlabelled_append (b.next.labels ++ later) (holds_of a.tree) (concat (map holds_of b.trees))
          (after a.next.labels b.next.labels (holds_of a.tree) y.added y.next_labels x.holds later) (y.holds later);
    }

holds_listed : (together : List Stmt → Stmt) → ((parts : List Stmt) → holds_of (together parts) ≡ concat (map holds_of parts))
    → (trees : List Stmt) → holds_of (listed together trees) ≡ concat (map holds_of trees)
holds_listed together h [] = fold-Nothing (List ℕ) step
holds_listed together h (only ∷ []) = sym (append-nil (holds_of only))
holds_listed together h (first ∷ (second ∷ others)) = h (first ∷ (second ∷ others))

from_all : (n : Numbers) (all : AllMade) (tree : Stmt) → holds_of tree ≡ concat (map holds_of all.trees) → AllUnlabels all n
    → Unlabels (record { tree = tree; next = all.next }) n
from_all n all tree e x = record {
  added = x.added;
  next_labels = x.next_labels;
  holds = λ later. ap (are_unlabelled (all.next.labels ++ later)) e ∙ x.holds later;
}

-- the place after some labels has the one that comes next
unlabelled_there : (xs ys : Labels) → is_unlabelled (xs ++ (None ∷ ys)) (length xs) ≡ true
unlabelled_there [] ys = refl
unlabelled_there (x ∷ xs) ys = unlabelled_there xs ys

suspended : (immediate : Bool) (n : Numbers) (body : Made) (tree : Stmt)
    → holds_of tree ≡ option_to_list (if immediate then Some (length n.labels) else None) ++ (holds_of body.tree ++ [])
    → Unlabels body (if immediate then with_place n None else n) → Unlabels (record { tree = tree; next = body.next }) n
suspended true n body tree e b = record {
  added = None ∷ b.added;
  next_labels = b.next_labels ∙ append_assoc n.labels (None ∷ []) b.added;
  holds = λ later.
      let grown : body.next.labels ++ later ≡ n.labels ++ (None ∷ (b.added ++ later)) =
      ap (λ labels. labels ++ later) (b.next_labels ∙ append_assoc n.labels (None ∷ []) b.added) ∙ append_assoc n.labels (None ∷ b.added) later in
      ap (are_unlabelled (body.next.labels ++ later)) (e ∙ ap (λ places. length n.labels ∷ places) (append-nil (holds_of body.tree)))
      ∙ both_true (is_unlabelled (body.next.labels ++ later) (length n.labels)) (are_unlabelled (body.next.labels ++ later) (holds_of body.tree))
      (ap (λ labels. is_unlabelled labels (length n.labels)) grown ∙ unlabelled_there n.labels (b.added ++ later)) (b.holds later);
}
suspended false n body tree e b = around n n body tree e refl b

unlabelled_scoped : (locals : List ℕ) (body : Stmt) → holds_of (scoped locals body) ≡ holds_of body ++ []
unlabelled_scoped [] body = sym (append-nil (holds_of body))
unlabelled_scoped (local ∷ locals) body = fold-Scope (List ℕ) step (local ∷ locals) body

unlabelled_assigned : (next : Bool) (v : Var) (e : Expr) → holds_of (if next then core.Delayed v e else core.Assign v e) ≡ []
unlabelled_assigned true v e = fold-Delayed (List ℕ) step v e
unlabelled_assigned false v e = fold-Assign (List ℕ) step v e

pub keeps_unlabelled : Keeps Unlabelled
keeps_unlabelled = record {
  forms = record {
    at_nothing = λ names n. leaf n n core.Nothing [] (fold-Nothing (List ℕ) step) (sym (append-nil n.labels));
    at_assigned = λ (target : Target) (value : Valued) names n.
        leaf n n (if target.next then core.Delayed (core_variable names target.name.name) (value names) else core.Assign (core_variable names target.name.name) (value names)) []
        (unlabelled_assigned target.next (core_variable names target.name.name) (value names)) (sym (append-nil n.labels));
    at_pausing = λ label names n. leaf n (with_place n label) (core.Pause (length n.labels)) (label ∷ []) (fold-Pause (List ℕ) step (length n.labels)) refl;
    at_calling = λ proto formals arguments names n.
        leaf n (with_call n) (core.Call n.calls proto (core_arguments names formals arguments)) [] (fold-Call (List ℕ) step n.calls proto (core_arguments names formals arguments)) (sym (append-nil n.labels));
    at_repeating = λ body e b names n.
        around n (with_loop n) (body names (with_loop n)) (core.Loop n.loops (body names (with_loop n)).tree (e names))
        (fold-Loop (List ℕ) step n.loops (body names (with_loop n)).tree (e names)) refl (b names (with_loop n));
    at_branching = λ e first second f g names n.
        two_parts n (first names n) (second names (first names n).next) (core.If (e names) (first names n).tree (second names (first names n).next).tree)
        (fold-If (List ℕ) step (e names) (first names n).tree (second names (first names n).next).tree) (f names n) (g names (first names n).next);
    at_aborting = λ kind body e b names n.
        around n n (body names n) (core.Abort kind (body names n).tree (e names)) (fold-Abort (List ℕ) step kind (body names n).tree (e names)) refl (b names n);
    at_suspending = λ (kind : Kind) body e b names n.
        suspended kind.immediate n (body names (with_hold_place kind n)) (core.Suspend kind (hold_place kind n) (body names (with_hold_place kind n)).tree (e names))
        (fold-Suspend (List ℕ) step kind (hold_place kind n) (body names (with_hold_place kind n)).tree (e names)) (b names (with_hold_place kind n));
    at_sequence = λ makers each names n.
        from_all n (all_made makers names n) (listed core.Seq (all_made makers names n).trees)
        (holds_listed core.Seq (λ parts. fold-Seq (List ℕ) step parts) (all_made makers names n).trees) (all_unlabelled makers each names n);
    at_parallel = λ makers each names n.
        from_all n (all_made makers names n) (listed core.Par (all_made makers names n).trees)
        (holds_listed core.Par (λ parts. fold-Par (List ℕ) step parts) (all_made makers names n).trees) (all_unlabelled makers each names n);
  };
  at_scope = λ locals decls body as_many b names n.
      around n (with_locals n decls) (body (declared (local_numbers (length n.decls) locals) names) (with_locals n decls))
      (scoped (range_with_len (length n.decls) (length locals)) (body (declared (local_numbers (length n.decls) locals) names) (with_locals n decls)).tree)
      (unlabelled_scoped (range_with_len (length n.decls) (length locals)) (body (declared (local_numbers (length n.decls) locals) names) (with_locals n decls)).tree)
      refl (b (declared (local_numbers (length n.decls) locals) names) (with_locals n decls));
}
