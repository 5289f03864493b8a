use Rattle.std.proofs.Common.{◌≡◌, ◌∙◌, [], ap, rules, sym, subst}
use Rattle.std.proofs.lemmas.Result.{err_from_is_err_and}
use Rattle.qz_phrases.proofs.Climbing.{shorter}
use Rattle.qz_phrases.proofs.Combining.{failed}
use Rattle.qz_reader.specs.Files.{opens}
use Rattle.qz_reader.proofs.Prototypes.{FileSoFar, no_protos, protos_more, protos_onward, head_fails, semicolon_fails, body_fails, file_ends}
use Rattle.qz_reader.proofs.files.file.Goals as goal

pub loop-protos-init : goal.loop-protos-init
loop-protos-init c =
    let empty : c.new-protos.result ≡ [] = search rules in
    subst (λ ps. FileSoFar c.args.room c.args.cursor.now ps c.args.cursor.now) (sym empty) (no_protos c.args.room c.args.cursor.now)

pub loop-protos-preserved : goal.loop-protos-preserved
loop-protos-preserved c =
    subst (λ ps. FileSoFar c.args.room c.args.cursor.now ps c.pass.new.self) (sym c.in_ok-push.ensures.ok)
    (protos_more c.args.room c.args.cursor.now c.loop-protos.cursor c.head.new.cursor c.pass.new.self c.loop-protos.protos c.in_ok-head.head c.in_ok-pass.field-0 c.loop-protos.invariant (c.in_ok-head.ensures c.args.room) (sym (ap opens c.peek.ensures) ∙ sym c.opens.ensures ∙ c.if-opens.false) (c.in_ok-pass.ensures c.args.room))

pub loop-protos-smaller : goal.loop-protos-smaller
loop-protos-smaller c =
    let k = protos_onward 0 c.loop-protos.cursor c.head.new.cursor c.pass.new.self c.in_ok-head.head c.in_ok-pass.field-0 (c.in_ok-head.ensures 0) (c.in_ok-pass.ensures 0) in
    shorter c.loop-protos.cursor c.pass.new.self k.it.front k.some k.it.read

pub returns-in_err-head : goal.returns-in_err-head
returns-in_err-head c =
    let returned = err_from_is_err_and c.from_residual.result c.from_residual.ensures.1 in
    rw (returned.1, returned.2) (head_fails c.args.room c.args.cursor.now c.loop-protos.cursor c.head.new.cursor c.loop-protos.protos c.in_err-head.field-0.0 c.loop-protos.invariant (c.in_err-head.ensures c.args.room))

pub returns-in_err-body : goal.returns-in_err-body
returns-in_err-body c =
    let returned = err_from_is_err_and c.from_residual-in_err-body.result c.from_residual-in_err-body.ensures.1 in
    rw (returned.1, returned.2) (failed c.in_err-body.field-0.0 c.in_err-body.ensures.reads
    (λ f. body_fails c.args.room c.args.cursor.now c.loop-protos.cursor c.head.new.cursor c.block.new.cursor c.loop-protos.protos c.in_ok-head.head c.in_err-body.field-0.0 c.loop-protos.invariant (c.in_ok-head.ensures c.args.room) (sym (ap opens c.peek.ensures) ∙ sym c.opens.ensures ∙ c.if-opens.true) f))

pub returns-in_err-pass : goal.returns-in_err-pass
returns-in_err-pass c =
    let returned = err_from_is_err_and c.from_residual-in_err-pass.result c.from_residual-in_err-pass.ensures.1 in
    rw (returned.1, returned.2) (failed c.in_err-pass.field-0.0 (c.in_err-pass.ensures c.args.room)
    (λ f. semicolon_fails c.args.room c.args.cursor.now c.loop-protos.cursor c.head.new.cursor c.pass.new.self c.loop-protos.protos c.in_ok-head.head c.in_err-pass.field-0.0 c.loop-protos.invariant (c.in_ok-head.ensures c.args.room) (sym (ap opens c.peek.ensures) ∙ sym c.opens.ensures ∙ c.if-opens.false) f))

pub returns-then-opens : goal.returns-then-opens
returns-then-opens c =
    file_ends c.args.room c.args.cursor.now c.loop-protos.cursor c.head.new.cursor c.block.new.cursor c.loop-protos.protos c.in_ok-head.head c.in_ok-body.body c.loop-protos.invariant (c.in_ok-head.ensures c.args.room) (sym (ap opens c.peek.ensures) ∙ sym c.opens.ensures ∙ c.if-opens.true) c.in_ok-body.ensures.reads
