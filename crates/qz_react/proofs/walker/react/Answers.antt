use Rattle.qz_react.proofs.Writing.{both_ok}
use Rattle.qz_react.proofs.Seen.{reacts}
use Rattle.qz_react.proofs.walker.react.Goals as goal

pub returns-else-is_err-clause-reacts : goal.returns-else-is_err-clause-reacts
returns-else-is_err-clause-reacts c =
    both_ok c.walk_from-answer.result _ _ _ c.walk_from-answer.ensures.ends c.walk_from-answer.ensures.writes
    (λ answer p w. reacts c.args.w.now.module c.args.walker.now c.args.env.now c.args.place.now c.args.out.now.items
    c.walk_from-answer.new.out.items answer c.requires p w)
