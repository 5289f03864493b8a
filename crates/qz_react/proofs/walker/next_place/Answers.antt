use Rattle.qz_meaning.specs.Programs.{program_of}
use Rattle.qz_meaning.specs.Settling.{passing}
use Rattle.qz_react.proofs.Seen.{passes}
use Rattle.qz_react.proofs.Writing.{if_ok}
use Rattle.qz_react.proofs.walker.next_place.Goals as goal

pub returns-else-is_err-clause-next : goal.returns-else-is_err-clause-next
returns-else-is_err-clause-next c =
    if_ok c.land_from-next.result _ _ c.land_from-next.ensures.next
    (λ next h e tells. h (passing (program_of c.args.w.now.module) e)
    (passes c.args.w.now.module c.args.walker.now c.args.env.now e c.requires tells))
