use Rattle.qz_react.proofs.Writing.{on_ok, sequence_meets}
use Rattle.qz_react.proofs.meets.+meets_resume.Goals as goal

pub meet_sequence-returns : goal.meet_sequence-returns
meet_sequence-returns t c =
    on_ok c.meet_parts.result
    (λ h. sequence_meets c.args.parts.now c.later.result.now c.args.r.now c.inside_of.result.now _ _ _ _
    c.member_number-number.ensures c.inside_of.ensures c.later.ensures c.in_ok-meet_member.ensures h)
    c.meet_parts.ensures
