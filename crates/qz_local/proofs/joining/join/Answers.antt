use Rattle.std.proofs.Common.{◌≡◌, ◌+◌, ◌∷◌, drop, get_or, ap, sym, subst, ◌∙◌}
use Rattle.std.proofs.lemmas.List.{at_drop_more}
use Rattle.qz_control.proofs.Growing.{through}
use Rattle.qz_moves.specs.declared.spots.NetSpot.{NetSpot}
use Rattle.qz_moves.specs.declared.spots.Rest.TheVariants as rest
use Rattle.qz_moves.specs.Appended.{read_spots, AreTests}
use Rattle.qz_moves.proofs.Appending.{tests_grow}
use Rattle.qz_local.specs.Joined.{joined}
use Rattle.qz_local.specs.Nets.{known_or_no, next_known}
use Rattle.qz_local.proofs.joining.join.Goals as goal

pub loop-spot-init : goal.loop-spot-init
loop-spot-init c = record {
  grows = c.in_ok-never.ensures.grows;
  never = c.in_ok-never.ensures.ty;
  never_so = c.in_ok-never.ensures.means;
  bools = record { each = λ one id h. let none = c.new-all.ensures one in absurd (cc) };
  tests = tests_grow c.args.circuit.now c.truth.new.self c.args.spots.now c.in_ok-never.ensures.grows c.requires;
  joins = λ v views one. ap (λ o. joined one (known_or_no v o) (read_spots v c.args.spots.now)) (c.new-all.ensures one);
}

pub loop-spot-preserved : goal.loop-spot-preserved
loop-spot-preserved c =
    let all = c.args.spots.now in
    let i = c.loop-spot.spot-index in
    let d : NetSpot = record { rest = rest.At 0; when = record { 0 = 0 } } in
    let split : drop i all ≡ get_or all i d ∷ drop (i + 1) all = at_drop_more (λ spots. spots) all i d c.loop-spot-test.true in
    let tests = subst (AreTests c.loop-spot.circuit) split c.loop-spot.invariant.tests in
    record {
      grows = through c.args.circuit.now c.loop-spot.circuit c.add.new.circuit c.loop-spot.invariant.grows c.in_ok-add.ensures.grows;
      never = c.in_ok-add.ensures.grows.bools c.in_ok-never.never c.loop-spot.invariant.never;
      never_so = λ v views. c.loop-spot.invariant.never_so v (c.in_ok-add.ensures.grows.views v views);
      bools = c.in_ok-add.ensures.bools;
      tests = tests_grow c.loop-spot.circuit c.add.new.circuit (drop (i + 1) all) c.in_ok-add.ensures.grows tests.1;
      joins = λ v views one.
          ap (λ k. joined one k (read_spots v (drop (i + 1) all))) (c.in_ok-add.ensures.joins v views one)
          ∙ sym (ap (λ spots. joined one (next_known v c.loop-spot.all one) (read_spots v spots)) split)
          ∙ c.loop-spot.invariant.joins v (c.in_ok-add.ensures.grows.views v views) one;
    }
