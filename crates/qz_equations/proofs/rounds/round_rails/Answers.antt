use Rattle.std.proofs.Common.{◌≡◌, List, sym, subst, arith, add-one}
use Rattle.qz_nets.specs.Readings.{listed}
use Rattle.qz_system.specs.Nexts.{IsNthRound}
use Rattle.qz_wires.specs.declared.rails.Rail.{Rail}
use Rattle.qz_wires.specs.WireTable.{types_in}
use Rattle.qz_wires.specs.Rails.{Shows, ShowEach}
use Rattle.qz_equations.specs.Unrolled.{AreInstanceRails}
use Rattle.qz_wires.proofs.Through.{through}
use Rattle.qz_equations.proofs.Keeping.{over_kept}
use Rattle.qz_equations.proofs.RoundLemmas.{first_unknown}
use Rattle.qz_equations.proofs.rounds.round_rails.Goals as goal

pub loop-round-init : goal.loop-round-init
loop-round-init c = record {
  extends = c.in_ok-now.ensures.extends;
  rails = c.in_ok-now.ensures.rails;
  shown = λ nets reads v holds knows delayed first n rail at.
      subst (Shows nets rail) (sym (first_unknown c.args.parts.now knows delayed first n)) (c.in_ok-now.ensures.means nets reads n rail at);
}

pub next_round-requires-clause-over : goal.next_round-requires-clause-over
next_round-requires-clause-over c = over_kept c.loop-round.invariant.extends c.requires.over

pub next_round-requires-clause-now : goal.next_round-requires-clause-now
next_round-requires-clause-now c =
    subst (AreInstanceRails (types_in c.loop-round.wires) c.args.parts.now) (sym c.deref.ensures.value) c.loop-round.invariant.rails

pub loop-round-preserved : goal.loop-round-preserved
loop-round-preserved c = record {
  extends = through c.loop-round.invariant.extends c.in_ok-now-2.ensures.extends;
  rails = c.in_ok-now-2.ensures.rails;
  shown = λ nets reads v holds knows delayed nth.
      let after = subst (λ k. IsNthRound c.args.parts.now v k knows delayed) (add-one c.loop-round._round) nth in
      let P : List Rail → Type 0 = λ rails. ShowEach nets rails (listed after.knows_before) in
      c.in_ok-now-2.ensures.means nets reads v holds after.knows_before knows delayed after.round (subst P (sym c.deref.ensures.value)
      (c.loop-round.invariant.shown nets (c.in_ok-now-2.ensures.extends.reads nets reads) v holds after.knows_before after.delayed_before after.was));
}

pub returns-clause-means : goal.returns-clause-means
returns-clause-means c = λ nets reads v holds knows delayed nth.
    let e : c.loop-round._round ≡ c.args.count = omega arith in
    c.loop-round.invariant.shown nets reads v holds knows delayed (subst (λ k. IsNthRound c.args.parts.now v k knows delayed) (sym e) nth)
