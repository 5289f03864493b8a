use Rattle.std.proofs.Common.{◌≡◌, ◌∙◌, List, map, false, ap, ⊎_elim, arith}
use Rattle.std.proofs.lemmas.List.{drop_all}
use Rattle.qz_system.specs.Restings.{living, living_of, living_over}
use Rattle.qz_system.specs.declared.shape.Shape.{Shape}
use Rattle.qz_system.specs.declared.shape.Shape.TheVariants.{Seq, Par}
use Rattle.qz_symbolic.specs.Placings.{value_at}
use Rattle.qz_symbolic.proofs.Growing.{grows, all_grow}
use Rattle.qz_symbolic.proofs.Scopes.{seq_rests, par_rests, choice_rests, body_rests, hold_rests, scope_rests, scope_lives, step_rests, step_lives}
use Rattle.qz_symbolic.proofs.living.+lives.Goals as goal

pub add_lives-returns-in_ok-r-in-If-clause-rests : goal.add_lives-returns-in_ok-r-in-If-clause-rests
add_lives-returns-in_ok-r-in-If-clause-rests t c = λ reading reads cell.
    let before = c.in_ok-r-in-If.ensures.extends.reads reading reads in
    choice_rests (value_at reading c.args.places.now) cell c.args.shape.now c.in-If.first c.in-If.second c.get.result.now c.get-in-If.result.now
    (reading.values c.in_ok-in_first-in-If.in_first.0) (reading.values c.in_ok-in_second-in-If.in_second.0) (reading.values c.in_ok-r-in-If.r.0)
    c.in-If.is c.get.ensures c.get-in-If.ensures
    (c.in_ok-in_first-in-If.ensures.rests reading (c.in_ok-in_second-in-If.ensures.extends.reads reading before) cell)
    (c.in_ok-in_second-in-If.ensures.rests reading before cell) (c.in_ok-r-in-If.ensures.means reading reads)

pub add_lives-returns-in_ok-mark_each-in-Scope-clause-rests : goal.add_lives-returns-in_ok-mark_each-in-Scope-clause-rests
add_lives-returns-in_ok-mark_each-in-Scope-clause-rests t c = λ reading reads cell.
    scope_rests (value_at reading c.args.places.now) cell c.args.shape.now c.in-Scope.body c.get-in-Scope.result.now c.in-Scope.cells
    (reading.values c.in_ok-rests-in-Scope.rests.0) c.in-Scope.is c.get-in-Scope.ensures
    (c.in_ok-rests-in-Scope.ensures.rests reading (c.in_ok-mark_each-in-Scope.ensures.extends.reads reading reads) cell)

pub add_lives-returns-in_ok-mark_each-in-Scope-clause-lives : goal.add_lives-returns-in_ok-mark_each-in-Scope-clause-lives
add_lives-returns-in_ok-mark_each-in-Scope-clause-lives t c = λ reading reads cell below.
    let before = c.in_ok-mark_each-in-Scope.ensures.extends.reads reading reads in
    scope_lives (value_at reading c.args.places.now) cell c.args.shape.now c.in-Scope.body c.get-in-Scope.result.now c.in-Scope.cells c.as_slice.result.now
    (value_at reading c.args.lives.now cell) (value_at reading c.add_lives-in-Scope.new.lives cell) (value_at reading c.mark_each.new.lives cell)
    (reading.values c.in_ok-rests-in-Scope.rests.0) c.in-Scope.is c.get-in-Scope.ensures c.as_slice.ensures
    (c.in_ok-rests-in-Scope.ensures.rests reading before cell) (c.in_ok-rests-in-Scope.ensures.lives reading before cell below)
    (c.in_ok-mark_each-in-Scope.ensures.lives reading reads cell (let same = c.add_lives-in-Scope.auto.lives in omega (arith, below, same)))

pub add_lives-returns-in_ok-r-in-Seq-clause-rests : goal.add_lives-returns-in_ok-r-in-Seq-clause-rests
add_lives-returns-in_ok-r-in-Seq-clause-rests t c = λ reading reads cell.
    ⊎_elim
    (λ (is : c.args.shape.now ≡ Seq c.in-Seq.parts). seq_rests (value_at reading c.args.places.now) cell c.args.shape.now c.in-Seq.parts c.as_slice-in-Seq.result.now
    (reading.values c.in_ok-r-in-Seq.r.0) is c.as_slice-in-Seq.ensures (c.in_ok-r-in-Seq.ensures.rests reading reads cell))
    (λ (is : c.args.shape.now ≡ Par c.in-Seq.parts). par_rests (value_at reading c.args.places.now) cell c.args.shape.now c.in-Seq.parts c.as_slice-in-Seq.result.now
    (reading.values c.in_ok-r-in-Seq.r.0) is c.as_slice-in-Seq.ensures (c.in_ok-r-in-Seq.ensures.rests reading reads cell))
    c.in-Seq.is

pub add_lives-returns-in_ok-r-in-Body-clause-rests : goal.add_lives-returns-in_ok-r-in-Body-clause-rests
add_lives-returns-in_ok-r-in-Body-clause-rests t c = λ reading reads cell.
    body_rests (value_at reading c.args.places.now) cell c.args.shape.now c.in-Body.body c.get-in-Body.result.now (reading.values c.in_ok-r-in-Body.r.0)
    c.in-Body.is c.get-in-Body.ensures (c.in_ok-r-in-Body.ensures.rests reading reads cell)

pub add_lives-returns-in_ok-r-in-Hold-clause-rests : goal.add_lives-returns-in_ok-r-in-Hold-clause-rests
add_lives-returns-in_ok-r-in-Hold-clause-rests t c = λ reading reads cell.
    let before = c.in_ok-r-in-Hold.ensures.extends.reads reading reads in
    hold_rests (value_at reading c.args.places.now) cell c.args.shape.now c.in-Hold.body c.get-in-Hold.result.now c.in-Hold.place
    (reading.values c.number_at-held.result.0) (reading.values c.in_ok-inside-in-Hold.inside.0) (reading.values c.in_ok-r-in-Hold.r.0)
    c.in-Hold.is c.get-in-Hold.ensures
    (c.number_at-held.ensures.means reading (c.in_ok-inside-in-Hold.ensures.extends.reads reading before))
    (c.in_ok-inside-in-Hold.ensures.rests reading before cell) (c.in_ok-r-in-Hold.ensures.means reading reads)

pub add_lives_of_all-loop-part-preserved : goal.add_lives_of_all-loop-part-preserved
add_lives_of_all-loop-part-preserved t c = record {
  extends = grows c.args.diagrams.now c.add_lives.new.diagrams c.apply.new.self (grows c.args.diagrams.now c.loop-part.diagrams c.add_lives.new.diagrams c.loop-part.invariant.extends c.in_ok-one.ensures.extends) c.in_ok-so_far.ensures.extends;
  below = c.in_ok-so_far.ensures.below;
  long = let a = c.add_lives.auto.lives in let b = c.loop-part.invariant.long in omega (arith, a, b);
  all_below = all_grow c.add_lives.new.diagrams c.apply.new.self c.in_ok-so_far.ensures.extends c.add_lives.new.lives c.in_ok-one.ensures.all_below;
  rests = λ reading reads cell.
      let before = c.in_ok-so_far.ensures.extends.reads reading reads in
      c.loop-part.invariant.rests reading (c.in_ok-one.ensures.extends.reads reading before) cell
      ∙ step_rests (value_at reading c.args.places.now) cell c.args.parts.now c.loop-part.part-index c.part-item.result c.loop-part-test.true c.part-item.is
      (reading.values c.loop-part.so_far.0) (reading.values c.in_ok-one.one.0) (reading.values c.in_ok-so_far.so_far.0)
      (c.in_ok-one.ensures.rests reading before cell) (c.in_ok-so_far.ensures.means reading reads);
  lives = λ reading reads cell below.
      let before = c.in_ok-so_far.ensures.extends.reads reading reads in
      step_lives (value_at reading c.args.places.now) cell c.args.parts.now c.loop-part.part-index c.part-item.result c.loop-part-test.true c.part-item.is
      (value_at reading c.loop-part.lives cell) (value_at reading c.add_lives.new.lives cell)
      (c.in_ok-one.ensures.lives reading before cell (let b = c.loop-part.invariant.long in omega (arith, below, b)))
      ∙ c.loop-part.invariant.lives reading (c.in_ok-one.ensures.extends.reads reading before) cell below;
}

pub add_lives_of_all-returns-clause-rests : goal.add_lives_of_all-returns-clause-rests
add_lives_of_all-returns-clause-rests t c = λ reading reads cell.
    let none = drop_all c.loop-part.part-index c.args.parts.now c.loop-part-test.false in
    c.loop-part.invariant.rests reading reads cell
    ∙ ap (λ (xs : List Shape). (living_over (living (reading.values c.loop-part.so_far.0) false) (map (living_of (value_at reading c.args.places.now) cell) xs)).rests) none
