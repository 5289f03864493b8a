use Rattle.std.proofs.Common.{◌≡◌, drop, map}
use Rattle.std.specs.List.{list_all}
use Rattle.qz_syntax.specs.Endings.{may_end_of}
use Rattle.qz_syntax.proofs.may_end_rule.+endings.Given as goal

abbrev pub invariant-all_may_end-loop-part : goal.invariant-all_may_end-loop-part
invariant-all_may_end-loop-part l =
    list_all (λ ends. ends) (map (λ part. may_end_of l.callees part) (drop l.part-index l.parts))
    ≡ list_all (λ ends. ends) (map (λ part. may_end_of l.callees part) l.parts)
