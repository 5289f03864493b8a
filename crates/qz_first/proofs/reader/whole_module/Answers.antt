use Rattle.std.proofs.lemmas.Result.{err_from_is_err_and}
use Rattle.qz_first.specs.Reading.{texts, upcoming}
use Rattle.qz_first.proofs.ReadingLemmas.{on_not_built}
use Rattle.qz_first.proofs.SourceLemmas.{no_whole_module, one_token_more}
use Rattle.qz_first.proofs.reader.whole_module.Goals as goal

pub returns-in_err-module-clause-none : goal.returns-in_err-module-clause-none
returns-in_err-module-clause-none c =
    let returned = err_from_is_err_and c.from_residual.result c.from_residual.ensures.1 in
    rw (returned.1, returned.2) (on_not_built c.in_err-module.field-0.0 (no_whole_module (texts c.args.tokens.now)) c.in_err-module.ensures.none)

pub returns-in-Some-clause-none : goal.returns-in-Some-clause-none
returns-in-Some-clause-none c =
    one_token_more (texts c.args.tokens.now) (upcoming c.source_module.new.cursor) (upcoming c.next.new.self) _ c.in_ok-module.module c.in_ok-module.ensures.read
    c.in_ok-module.ensures.fits c.in-Some.ensures
