use Rattle.std.proofs.Common.{◌≡◌, List, [], ◌∷◌, refl, false, sym, ap, subst, ◌∙◌}
use Rattle.std.specs.List.{AllByRecursion}
use Rattle.std.proofs.lemmas.Bool.{false≢true}
use Rattle.qz_values.specs.Values.{no}
use Rattle.qz_values.specs.Knowledge.{knows_yes}
use Rattle.qz_syntax.specs.declared.expressions.Expr.TheVariants as expr
use Rattle.qz_syntax.specs.declared.expressions.Var.TheVariants as var
use Rattle.qz_syntax.specs.declared.places.Place.TheVariants as place
use Rattle.qz_meaning.specs.Layouts.{Met, bare}
use Rattle.qz_meaning.specs.Behaviors.{idle}
use Rattle.qz_meaning.specs.Simple.{assignment}
use Rattle.qz_meaning.specs.Choices.{choice, choice_layout}
use Rattle.qz_meaning.specs.Scopes.{scope, scope_layout}
use Rattle.qz_meaning.specs.Residing.{residing}
use Rattle.qz_meaning.specs.Configurations.{Configuration, initial}
use Rattle.qz_meaning.specs.Rounds.{AgreeAt}
use Rattle.qz_meaning.specs.MacroSteps.{IsSolution, HaveOneSolution}
use Rattle.qz_meaning.specs.Runs.{HaveOneSolutionEach}
use Rattle.qz_meaning.specs.Examples.{always}
use Rattle.qz_meaning.specs.SolutionExamples.{undecided, without_x, with_x, HasTwoSolutions}
use Rattle.qz_meaning.proofs.Walking.{walking, laying}
use Rattle.qz_meaning.proofs.Situations.{at_first, WrittenOut, next_by, next_is, met_is, solved}
use Rattle.qz_meaning.proofs.Evaluating.{evaluating}

abbrev deciding : WrittenOut undecided
deciding = record {
  does = λ step.
      scope (residing step) (0 ∷ [])
      (choice step.now (residing step) (expr.Var (var.Local 0)) (assignment step.now (residing step) false (var.Local 0) always) (idle (residing step)));
  lays = scope_layout (0 ∷ []) (choice_layout bare bare);
  does_is = λ step. simp walking;
  lays_is = simp laying;
}

-- each ends the program
is_over : Configuration
is_over = record { place = place.Ended; outputs = [] }

silent_over : next_by undecided deciding (initial undecided) without_x ≡ is_over
unfolding is_over
silent_over = simp evaluating

emitted_over : next_by undecided deciding (initial undecided) with_x ≡ is_over
unfolding is_over
emitted_over = simp evaluating

silent : IsSolution undecided (initial undecided) (no ∷ []) without_x
silent =
    solved undecided deciding _ _ _ (at_first _ _ refl) refl (record { now = tt; later = tt }, tt)
    (simp evaluating (record { now = refl; later = refl }, tt))

emitted : IsSolution undecided (initial undecided) (no ∷ []) with_x
emitted =
    solved undecided deciding _ _ _ (at_first _ _ refl) refl (record { now = tt; later = tt }, tt)
    (simp evaluating (record { now = refl; later = refl }, tt))

not_one : HaveOneSolution undecided (initial undecided) (no ∷ []) → ⊥
not_one one =
    let agree = subst (AllByRecursion (λ (it : Met). AgreeAt it without_x with_x)) (met_is undecided deciding (initial undecided)) (one without_x with_x silent emitted) in
    false≢true (ap knows_yes agree.0.now)

not_each : (passed : List Configuration) → HaveOneSolutionEach undecided (initial undecided) ((no ∷ []) ∷ []) passed → ⊥
not_each [] h = h
not_each (next ∷ passed) h = not_one h.0

pub has_two_solutions : HasTwoSolutions
has_two_solutions = record {
  silent = silent;
  emitted = emitted;
  alike = next_is undecided deciding (initial undecided) without_x ∙ silent_over ∙ sym (next_is undecided deciding (initial undecided) with_x ∙ emitted_over);
  not_one = not_one;
  no_only_run = λ only. not_each only.passed only.one_solution;
}
