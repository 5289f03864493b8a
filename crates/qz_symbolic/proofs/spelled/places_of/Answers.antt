use Rattle.std.proofs.Common.{rules, ◌≡◌, ◌∙◌, map, length, ap, arith}
use Rattle.std.specs.List.{range_with_len}
use Rattle.qz_system.specs.Valuations.{rests_at}
use Rattle.qz_symbolic.proofs.Growing.{grows, views_before}
use Rattle.qz_symbolic.proofs.Spelling.{place_within, place_more, all_places}
use Rattle.qz_symbolic.proofs.spelled.places_of.Goals as goal

pub var-requires : goal.var-requires
var-requires c =
    let within = place_within c.args.parts.now c.loop-place.place (let end = c.len-place-end.ensures in let test = c.loop-place-test.true in omega (arith, end, test)) in
    let same = c.loop-place.invariant.extends.vars in
    omega (arith, within, same, c.requires.count)

pub loop-place-preserved : goal.loop-place-preserved
loop-place-preserved c = record {
  extends = grows c.args.diagrams.now c.loop-place.diagrams c.var.new.self c.loop-place.invariant.extends c.in_ok-one.ensures.extends;
  below = search rules;
  says = λ reading v views.
      place_more c.args.parts.now v reading views.spells c.loop-place.place (let end = c.len-place-end.ensures in let test = c.loop-place-test.true in omega (arith, end, test)) c.loop-place.all.items c.push.new.self.items c.in_ok-one.one
      c.in_ok-push.ensures.items
      (c.loop-place.invariant.says reading v (views_before c.loop-place.diagrams c.var.new.self c.args.parts.now v reading c.in_ok-one.ensures.extends views))
      (c.in_ok-one.ensures.means reading views.reads);
}

pub returns-clause-places : goal.returns-clause-places
returns-clause-places c = record {
  below = c.loop-place.invariant.below;
  says = λ reading v views.
      let e : c.loop-place.place ≡ length c.args.parts.now.places = omega arith in
      c.loop-place.invariant.says reading v views ∙ ap (λ n. map (rests_at v) (range_with_len 0 n)) e ∙ all_places c.args.parts.now v views.spells.fits;
}
