use Rattle.std.proofs.Common.{◌≡◌, ◌∙◌, [], ap, rules, sym, subst}
use Rattle.std.proofs.lemmas.Result.{err_from_is_err_and}
use Rattle.qz_phrases.specs.Declarations.{declares}
use Rattle.qz_phrases.proofs.Climbing.{shorter}
use Rattle.qz_phrases.proofs.Combining.{always, failed}
use Rattle.qz_phrases.proofs.Typings.{skims}
use Rattle.qz_reader.specs.Statements.{decls}
use Rattle.qz_reader.proofs.Listing.{DeclsSoFar, no_decls, decls_more, decls_fails, decls_end}
use Rattle.qz_reader.proofs.blocks.declarations.Goals as goal

pub loop-alloc-init : goal.loop-alloc-init
loop-alloc-init c room =
    let empty : c.new-decls.result ≡ [] = search rules in
    subst (λ ds. DeclsSoFar room c.args.cursor.now ds c.args.cursor.now) (sym empty) (no_decls room c.args.cursor.now)

pub loop-alloc-preserved : goal.loop-alloc-preserved
loop-alloc-preserved c room =
    subst (λ ds. DeclsSoFar room c.args.cursor.now ds c.declaration.new.cursor) (sym c.in_ok-push.ensures.ok)
    (decls_more room c.args.cursor.now c.loop-alloc.cursor c.declaration.new.cursor c.loop-alloc.decls c.in_ok-next.next (c.loop-alloc.invariant room) (sym (ap declares c.peek.ensures) ∙ sym c.declares.ensures ∙ c.loop-alloc-test.true) (c.in_ok-next.ensures room))

pub loop-alloc-smaller : goal.loop-alloc-smaller
loop-alloc-smaller c = let k = c.in_ok-next.ensures 0 in shorter c.loop-alloc.cursor c.declaration.new.cursor k.it.front k.some k.it.read

pub returns-in_err-next : goal.returns-in_err-next
returns-in_err-next c room =
    let returned = err_from_is_err_and c.from_residual.result c.from_residual.ensures.1 in
    rw (returned.1, returned.2) (skims (always decls) room c.args.cursor.now c.declaration.new.cursor c.in_err-next.field-0.0 (failed c.in_err-next.field-0.0 (c.in_err-next.ensures room)
    (λ f. decls_fails room c.args.cursor.now c.loop-alloc.cursor c.declaration.new.cursor c.loop-alloc.decls c.in_err-next.field-0.0 (c.loop-alloc.invariant room) (sym (ap declares c.peek.ensures) ∙ sym c.declares.ensures ∙ c.loop-alloc-test.true) f)))

pub returns : goal.returns
returns c room =
    decls_end room c.args.cursor.now c.loop-alloc.cursor c.loop-alloc.decls (c.loop-alloc.invariant room) (sym (ap declares c.peek.ensures) ∙ sym c.declares.ensures ∙ c.loop-alloc-test.false)
