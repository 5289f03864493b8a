use Rattle.std.proofs.Common.{◌≡◌, ◌++◌, ◌∷◌, [], length, Some, refl, ap, ◌∙◌, rules}
use Rattle.qz_syntax.specs.declared.declarations.Decl.{Decl}
use Rattle.qz_syntax.specs.declared.expressions.Var.TheVariants as var
use Rattle.qz_types.specs.Meanings.{updated}
use Rattle.qz_types.specs.Scopes.{meanings_of}
use Rattle.qz_types.specs.Makers.{with_locals}
use Rattle.qz_types.proofs.MeaningLemmas.{undone_more}
use Rattle.qz_types.proofs.core_declarations.declare_name.Goals as goal

pub returns : goal.returns
returns c =
    let old = meanings_of c.args.names.now in
    let name = c.args.name.now.name in
    let same : c.in_ok-clone.field-0 ≡ name = search rules in
    let number : c.in_ok-number.number ≡ length c.args.numbers.now.decls = c.in_ok-number.ensures.number in
    record {
      as_many = refl;
      names = c.in_ok-meaning.ensures.set ∙ ap (λ k. updated old name (Some (var.Local k))) number;
      next = c.in_ok-number.ensures.next ∙ ap (λ (decl : Decl). with_locals c.args.numbers.now (decl ∷ [])) c.in_ok-local.ensures;
      numbers = c.in_ok-push.ensures.ok ∙ ap (λ k. c.args.locals.now.numbers ++ (k ∷ [])) number;
      undone = undone_more c.args.locals.now.hidden c.push-2.new.self old (meanings_of c.set.new.self) name c.in_ok-clone.field-0
          c.in_ok-meaning.meaning (Some (var.Local c.in_ok-number.number)) c.in_ok-push-2.ensures.ok same c.in_ok-meaning.ensures.was c.in_ok-meaning.ensures.set;
    }
