use Rattle.std.proofs.lemmas.Result.{err_from_is_err_and}
use Rattle.qz_first.specs.Reading.{upcoming}
use Rattle.qz_first.proofs.ReadingLemmas.{on_not_built}
use Rattle.qz_first.proofs.FormalLemmas.{no_open_brace, no_body}
use Rattle.qz_first.proofs.reader.source_module.Goals as goal

pub returns-in_err-pass-3-clause-none : goal.returns-in_err-pass-3-clause-none
returns-in_err-pass-3-clause-none c =
    let returned = err_from_is_err_and c.from_residual-in_err-pass-3.result c.from_residual-in_err-pass-3.ensures.1 in
    rw (returned.1, returned.2) (on_not_built c.in_err-pass-3.field-0.0
    (no_open_brace (upcoming c.args.cursor.now) (upcoming c.pass.new.self) (upcoming c.name.new.self) (upcoming c.pass-2.new.self) (upcoming c.formals.new.cursor)
    c.in_ok-name.name c.in_ok-formals.formals c.in_ok-pass.ensures.read c.in_ok-name.ensures.read.0 c.in_ok-pass-2.ensures.read
    c.in_ok-formals.ensures.outputs c.in_ok-formals.ensures.read) c.in_err-pass-3.ensures.none)

pub returns-in_err-body-clause-none : goal.returns-in_err-body-clause-none
returns-in_err-body-clause-none c =
    let returned = err_from_is_err_and c.from_residual-in_err-body.result c.from_residual-in_err-body.ensures.1 in
    rw (returned.1, returned.2) (on_not_built c.in_err-body.field-0.0
    (no_body (upcoming c.args.cursor.now) (upcoming c.pass.new.self) (upcoming c.name.new.self) (upcoming c.pass-2.new.self) (upcoming c.formals.new.cursor)
    c.in_ok-name.name c.in_ok-formals.formals c.in_ok-pass.ensures.read c.in_ok-name.ensures.read.0 c.in_ok-pass-2.ensures.read
    c.in_ok-formals.ensures.outputs c.in_ok-formals.ensures.read (upcoming c.pass-3.new.self) c.in_ok-pass-3.ensures.read) c.in_err-body.ensures.none)
