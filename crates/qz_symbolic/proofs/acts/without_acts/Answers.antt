use Rattle.std.proofs.Common.{◌≡◌, ◌∙◌, Some, length, ap, sym, subst, arith}
use Rattle.std.proofs.lemmas.List.{length_push}
use Rattle.qz_values.specs.declared.Ty.{Ty}
use Rattle.qz_tallies.specs.declared.tally.Tally.{Tally}
use Rattle.qz_system.specs.Parts.{instance_type}
use Rattle.qz_symbolic.specs.Knowing.{IsEmpty}
use Rattle.qz_symbolic.proofs.Lists.{each_pushed}
use Rattle.qz_symbolic.proofs.acts.without_acts.Goals as goal

pub loop-n-preserved : goal.loop-n-preserved
loop-n-preserved c = record {
  long =
      let pushed = ap length c.in_ok-push.ensures.items in
      let more = length_push c.loop-n.all.items c.in_ok-one.one in
      omega (arith, pushed, more, c.loop-n.invariant.long);
  each = each_pushed (λ n (tally : Tally). (ty : Ty) → instance_type c.args.parts.now n ≡ Some ty → IsEmpty c.args.diagrams.now ty tally)
      c.loop-n.all.items c.push.new.self.items c.loop-n.n c.in_ok-one.one c.loop-n.invariant.long c.in_ok-push.ensures.items c.loop-n.invariant.each
      (λ ty typed.
      let both : Some c.type_of_instance.result ≡ Some ty = sym c.type_of_instance.ensures ∙ typed in
      let same : c.type_of_instance.result ≡ ty = cc in
      subst (λ t. IsEmpty c.args.diagrams.now t c.in_ok-one.one) same (record { fits = c.in_ok-one.ensures.tally; says = c.in_ok-one.ensures.means }));
}
