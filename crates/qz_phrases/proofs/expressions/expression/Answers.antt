use Rattle.std.proofs.Common.{arith}
use Rattle.std.proofs.lemmas.Result.{err_from_is_err_and}
use Rattle.qz_phrases.proofs.Combining.{failed}
use Rattle.qz_phrases.proofs.Sizes.{raised}
use Rattle.qz_phrases.proofs.expressions.expression.Goals as goal

pub returns-in_err-part : goal.returns-in_err-part
returns-in_err-part c =
    let returned = err_from_is_err_and c.from_residual.result c.from_residual.ensures.1 in
    rw (returned.1, returned.2) (failed c.in_err-part.field-0.0 (c.in_err-part.ensures.reads (omega arith) (omega arith)) (λ f. f))

pub returns : goal.returns
returns c =
    let part = c.in_ok-part.ensures.reads (omega arith) (omega arith) in
    raised c.args.room part.low part.it
