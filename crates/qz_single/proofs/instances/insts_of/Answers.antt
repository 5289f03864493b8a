use Rattle.std.proofs.Common.{◌≤◌, length, map, ap, ◌∙◌, arith}
use Rattle.std.proofs.lemmas.List.{take_all}
use Rattle.qz_react.specs.declared.instances.Instance.{Instance}
use Rattle.qz_react.specs.Seeing.{instance_of}
use Rattle.qz_closing.specs.ProgramParts.{inst_of}
use Rattle.qz_single.proofs.Listed.{of_instances}
use Rattle.qz_single.proofs.instances.insts_of.Goals as goal

pub returns : goal.returns
returns c =
    let w = c.args.w.now in
    let all = c.args.instances.now in
    let h : length all ≤ c.loop-instance.instance-index = omega (arith, c.loop-instance-test.false) in
    c.loop-instance.invariant ∙ ap (map (λ (i : Instance). inst_of w (instance_of i))) (take_all c.loop-instance.instance-index all h)
    ∙ of_instances (inst_of w) all _ c.requires.instances
