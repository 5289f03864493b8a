use Rattle.qz_program.proofs.ProgramLemmas.{linked_of, not_linked}
use Rattle.qz_program.proofs.program.program_of_file.Goals as goal

pub returns-in-Ok-clause-found : goal.returns-in-Ok-clause-found
returns-in-Ok-clause-found c = linked_of c.args.name.now c.args.file.now c.in-Ok.root c.linked.result c.in-Ok.ensures.found c.linked.ensures.found

pub returns-in-Ok-clause-refused : goal.returns-in-Ok-clause-refused
returns-in-Ok-clause-refused c = not_linked c.args.name.now c.args.file.now c.in-Ok.root c.linked.result c.in-Ok.ensures.found c.linked.ensures.refused

pub returns-in-Err-clause-refused : goal.returns-in-Err-clause-refused
returns-in-Err-clause-refused c = c.in-Err.ensures.refused c.args.name.now
