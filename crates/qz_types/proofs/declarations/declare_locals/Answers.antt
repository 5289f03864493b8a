use Rattle.std.proofs.Common.{◌≡◌, ◌+◌, ◌∷◌, drop, rules, ap, sym, ◌∙◌, arith}
use Rattle.std.proofs.lemmas.List.{drop_more}
use Rattle.qz_types.specs.Faults.{first_with}
use Rattle.qz_types.specs.Scopes.{meanings_of}
use Rattle.qz_types.specs.Declarations.{declared, double_names, decl_variables, local_variables}
use Rattle.qz_types.proofs.FaultLemmas.{first_with_append}
use Rattle.qz_types.proofs.DeclarationLemmas.{declared_append, double_names_append}
use Rattle.qz_types.proofs.declarations.declare_locals.Goals as goal

pub loop-decl-preserved : goal.loop-decl-preserved
loop-decl-preserved c =
    let decls = c.args.decls.now in
    let i = c.loop-decl.decl-index in
    let split : drop i decls ≡ c.decl-item.result ∷ drop (i + 1) decls = rw c.decl-item.is (drop_more decls i c.decl-item.result (omega arith)) in
    let so_far = rw split at c.loop-decl.invariant in
    let here = decl_variables c.decl-item.result in
    let later = local_variables (drop (i + 1) decls) in
    record {
      scope = rw c.in_ok-declare_names.ensures.scope (sym (declared_append here later (meanings_of c.loop-decl.scope)) ∙ so_far.scope);
      undone = c.in_ok-declare_names.ensures.undone ∙ so_far.undone;
      faults = rw (c.in_ok-declare_names.ensures.faults, c.in_ok-declare_names.ensures.scope, ← first_with_append, ← double_names_append) so_far.faults;
    }
