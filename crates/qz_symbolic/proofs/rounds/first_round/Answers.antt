use Rattle.std.proofs.Common.{◌≡◌, ◌∙◌, Some, length, ap, sym, subst, arith}
use Rattle.std.proofs.lemmas.List.{length_push}
use Rattle.qz_values.specs.declared.Ty.{Ty}
use Rattle.qz_system.specs.declared.parts.SystemParts.{SystemParts}
use Rattle.qz_system.specs.Parts.{instance_type}
use Rattle.qz_symbolic.specs.declared.rails.InstanceRails.{InstanceRails}
use Rattle.qz_symbolic.specs.Rounds.{IsNothing, TellsFirstRound}
use Rattle.qz_symbolic.proofs.Lists.{each_pushed}
use Rattle.qz_symbolic.proofs.Rounding.{first_told}
use Rattle.qz_symbolic.proofs.rounds.first_round.Goals as goal

pub loop-n-preserved : goal.loop-n-preserved
loop-n-preserved c = record {
  long =
      let pushed = ap length c.in_ok-push.ensures.items in
      let more = length_push c.loop-n.all.items c.in_ok-one.one in
      omega (arith, pushed, more, c.loop-n.invariant.long);
  each = each_pushed (λ n (one : InstanceRails). (ty : Ty) → instance_type c.parts-parts.result.now n ≡ Some ty → IsNothing c.args.diagrams.now ty one)
      c.loop-n.all.items c.push.new.self.items c.loop-n.n c.in_ok-one.one c.loop-n.invariant.long c.in_ok-push.ensures.items c.loop-n.invariant.each
      (λ ty typed.
      let both : Some c.type_of_instance.result ≡ Some ty = sym c.type_of_instance.ensures ∙ typed in
      let same : c.type_of_instance.result ≡ ty = cc in
      subst (λ t. IsNothing c.args.diagrams.now t c.in_ok-one.one) same c.in_ok-one.ensures);
}

pub returns-clause-tells : goal.returns-clause-tells
returns-clause-tells c =
    subst (λ (parts : SystemParts). TellsFirstRound c.args.diagrams.now parts c.loop-n.all.items) c.parts-parts.ensures.parts
    (first_told c.args.diagrams.now c.parts-parts.result.now c.loop-n.all.items c.loop-n.invariant.each)
