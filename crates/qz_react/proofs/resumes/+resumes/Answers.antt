use Rattle.std.proofs.Common.{ap, ◌∙◌}
use Rattle.qz_meaning.specs.Expressions.{value_here}
use Rattle.qz_meaning.specs.Residing.{walk}
use Rattle.qz_react.specs.Contexts.{context_of}
use Rattle.qz_react.proofs.Writing.{on_ok, bound_resumes, sequence_resumes, ends_so, loop_resumes}
use Rattle.qz_react.proofs.resumes.+resumes.Goals as goal

pub resume-returns-in-Bind-clause-writes : goal.resume-returns-in-Bind-clause-writes
resume-returns-in-Bind-clause-writes t c =
    on_ok c.resume_bound.result
    (λ h step sees. bound_resumes step c.args.s.now c.in-Bind.body c.get-in-Bind.result.now c.in-Bind.bindings c.as_slice-in-Bind.result.now
    (context_of c.args.here.now) c.args.r.now c.args.g _ _ c.in-Bind.is c.get-in-Bind.ensures c.as_slice-in-Bind.ensures (h step sees))
    c.resume_bound.ensures.writes

pub resume_sequence-returns-clause-writes : goal.resume_sequence-returns-clause-writes
resume_sequence-returns-clause-writes t c =
    on_ok c.start_parts.result
    (λ h step sees. sequence_resumes step c.args.parts.now c.later.result.now c.args.r.now c.inside_of.result.now _
    (context_of c.args.here.now) (context_of c.resume_member.new.here) c.args.g c.in_ok-guard.guard c.in_ok-ended.ended _ _ _
    c.member_number-member.ensures c.inside_of.ensures c.later.ensures c.in_ok-ended.ensures.here
    (c.in_ok-ended.ensures.ended step sees) c.in_ok-guard.ensures (c.in_ok-ended.ensures.writes step sees) (h step sees))
    c.start_parts.ensures.writes

pub resume_loop-returns-clause-ended : goal.resume_loop-returns-clause-ended
resume_loop-returns-clause-ended t c step sees =
    ends_so c.in_ok-ended.ended c.in_ok-c.c _ _ _ c.in_ok-ends.ensures
    (c.in_ok-ended.ensures.ended step sees ∙ ap (λ i. (walk step c.args.body.now).ended (context_of c.args.here.now) i) c.inside_of.ensures)
    (c.in_ok-c.ensures step sees ∙ ap (λ ctx. value_here step.now ctx c.args.condition.now) c.in_ok-ended.ensures.here)

pub resume_loop-returns-clause-writes : goal.resume_loop-returns-clause-writes
resume_loop-returns-clause-writes t c step sees =
    loop_resumes step c.args.body.now c.args.number c.args.condition.now (context_of c.args.here.now) (context_of c.resume.new.here)
    c.args.r.now c.inside_of.result.now c.args.g c.in_ok-guard.guard c.in_ok-ended.ended c.in_ok-c.c _ _ _
    c.inside_of.ensures c.in_ok-ended.ensures.here (c.in_ok-ended.ensures.ended step sees) (c.in_ok-c.ensures step sees) c.in_ok-guard.ensures
    (c.in_ok-ended.ensures.writes step sees) (c.in_ok-start.ensures.writes step sees)
