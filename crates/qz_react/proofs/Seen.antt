-- What the lists tell of a program is what its walker sees.
use Rattle.std.proofs.Common.{◌≡◌, ◌++◌, List, map, Some, refl, sym, ap, subst, ◌∙◌}
use Rattle.std.specs.Prelude.{slice_get}
use Rattle.qz_values.specs.declared.Know.{Know}
use Rattle.qz_syntax.specs.declared.modules.Module.{Module}
use Rattle.qz_syntax.specs.declared.places.Place.{Place}
use Rattle.qz_meaning.specs.Instances.{Instance}
use Rattle.qz_meaning.specs.Scenes.{Passing}
use Rattle.qz_meaning.specs.Layouts.{Met as Passed}
use Rattle.qz_meaning.specs.Residing.{walk}
use Rattle.qz_meaning.specs.Programs.{program_of, instances_of}
use Rattle.qz_meaning.specs.Settling.{Environment, passing, writes_at}
use Rattle.qz_react.specs.declared.environments.Env.{Env}
use Rattle.qz_react.specs.declared.environments.Met.{Met}
use Rattle.qz_react.specs.declared.environments.Write.{Write}
use Rattle.qz_react.specs.declared.walker.Walker.{Walker}
use Rattle.qz_react.specs.Landing.{Passes}
use Rattle.qz_react.specs.Seeing.{Sees, named, written, met_by}
use Rattle.qz_react.specs.Reacting.{IsWalkerOf, Tells, Reacts, ends_at}

pub sees : (m : Module) (walker : Walker) (env : Env) (e : Environment) → IsWalkerOf m walker → Tells (program_of m) env e
    → Sees walker.table env (passing (program_of m) e)
sees m walker env e is tells = record {
  inputs = λ k n v a b. tells.inputs k n v (ap (λ xs. slice_get xs k) (sym is.inputs) ∙ a) b;
  now = λ k i known a b. tells.now k i known (ap (λ xs. slice_get xs k) (sym is.instances) ∙ a) b;
  later = λ k i known a b. tells.later k i known (ap (λ xs. slice_get xs k) (sym is.instances) ∙ a) b;
}

-- a walk that is exact for all that is seen is exact for all that is told
pub reacts : (m : Module) (walker : Walker) (env : Env) (place : Place) (before after : List Write) (answer : Know) → IsWalkerOf m walker
    → ((step : Passing) → Sees walker.table env step → answer ≡ ends_at (walk step m.body) place)
    → ((step : Passing) → Sees walker.table env step
    → map (written (named walker.table)) after ≡ map (written (named walker.table)) before ++ map Some (writes_at (walk step m.body) place))
    → (e : Environment) → Tells (program_of m) env e → Reacts (program_of m) place before after answer e
reacts m walker env place before after answer is ends writes e tells =
    let seen = sees m walker env e is tells in
    record {
      writes = subst (λ (instances : List Instance). map (written instances) after ≡ map (written instances) before
          ++ map Some (writes_at (walk (passing (program_of m) e) m.body) place)) is.instances (writes (passing (program_of m) e) seen);
      ends = ends (passing (program_of m) e) seen;
    }

-- what is met by the walker's numbers is met by the program's
pub meets : (m : Module) (walker : Walker) (base now : List Met) (passed : List Passed) → IsWalkerOf m walker
    → map (met_by (named walker.table)) now ≡ map (met_by (named walker.table)) base ++ map Some passed
    → map (met_by (instances_of m)) now ≡ map (met_by (instances_of m)) base ++ map Some passed
meets m walker base now passed is h =
    subst (λ (instances : List Instance). map (met_by instances) now ≡ map (met_by instances) base ++ map Some passed) is.instances h

pub passes : (m : Module) (walker : Walker) (env : Env) (e : Environment) → IsWalkerOf m walker → Tells (program_of m) env e
    → Passes m walker.table env (passing (program_of m) e)
passes m walker env e is tells = record { sees = sees m walker env e is tells; class_of = λ x. refl; type_of = λ x. refl }
