use Rattle.qz_first.proofs.TextLemmas.{first_of_typed}
use Rattle.qz_first.proofs.BuiltLemmas.{not_the_module, no_source_not_built}
use Rattle.qz_first.proofs.circuit_text.asked_module.Goals as goal

pub returns-in-Ok-clause-none : goal.returns-in-Ok-clause-none
returns-in-Ok-clause-none c = not_the_module c.args.name.now c.args.bytes.now c.in-Ok.source c.in-Ok.ensures.read c.typed.result c.typed.ensures.none

pub returns-in-Err-clause-none : goal.returns-in-Err-clause-none
returns-in-Err-clause-none c = no_source_not_built c.args.name.now c.args.bytes.now c.in-Err.fault c.in-Err.ensures.none

pub returns-in-Ok-clause-first : goal.returns-in-Ok-clause-first
returns-in-Ok-clause-first c = first_of_typed c.args.name.now c.in-Ok.source c.typed.result c.in-Ok.ensures.read.fits c.typed.ensures.asked c.typed.ensures.core
