-- A step writes to outputs and to instances that it meets alone.
use Rattle.std.proofs.Common.{◌≡◌, ℕ, zero, suc, ◌+◌, ◌≤◌, Bool, true, false, List, [], ◌∷◌, ◌++◌, Some, length, refl, ap, subst, ◌∙◌, arith}
use Rattle.std.specs.Prelude.{◌==◌, if◌then◌else◌, is_some, slice_get, option_and_then, ◌||◌}
use Rattle.std.specs.List.{AllByRecursion}
use Rattle.std.proofs.lemmas.Bool.{false≢true, eqb-true}
use Rattle.qz_values.specs.declared.Know.TheVariants.{Known}
use Rattle.qz_syntax.specs.declared.declarations.Dir.{Dir}
use Rattle.qz_syntax.specs.declared.declarations.Dir.TheVariants as dir
use Rattle.qz_syntax.specs.declared.declarations.Formal.{Formal}
use Rattle.qz_syntax.specs.declared.modules.Module.{Module}
use Rattle.qz_syntax.specs.declared.places.Mark.TheVariants as mark
use Rattle.qz_syntax.specs.declared.places.Store.{Store}
use Rattle.qz_syntax.specs.declared.places.Place.{Place}
use Rattle.qz_syntax.specs.declared.places.Place.TheVariants as place
use Rattle.qz_syntax.specs.Typing.{no_sight}
use Rattle.qz_syntax.specs.WellFormed.{declared_by, IsWellFormed}
use Rattle.qz_meaning.specs.Instances.{formal_instance}
use Rattle.qz_meaning.specs.Scenes.{root}
use Rattle.qz_meaning.specs.Layouts.{Met}
use Rattle.qz_meaning.specs.Programs.{Program, is_same_direction, numbers_in, times, program_of}
use Rattle.qz_meaning.specs.Configurations.{IsConfiguration, Configuration, layout_of, IsPlaceIn}
use Rattle.qz_meaning.specs.Settling.{Environment, passing, body_under, writes_at, step_writes, met_at, met_outputs, step_met}
use Rattle.qz_meaning.proofs.Orderly.{same_number}
use Rattle.std.proofs.lemmas.List.Folds.{list_any-append}
use Rattle.qz_values.specs.Values.{yes}
use Rattle.qz_syntax.specs.Typing.{formal_target}
use Rattle.qz_meaning.specs.Instances.{Instance, is_same_instance}
use Rattle.qz_meaning.specs.Accounts.{Write}
use Rattle.qz_meaning.specs.MeetingLaws.{is_met}
use Rattle.qz_meaning.proofs.Orderly.{instance_self}
use Rattle.qz_meaning.proofs.CarriedMet.{or_right}
use Rattle.step_laws.specs.Written.{WhatIsWrittenIsMet}
use Rattle.step_laws.proofs.TargetsMet.{Reaches, statements_reach}

or_left : (a b : Bool) → a ≡ true → (a || b) ≡ true
or_left true b h = refl
or_left false b h = absurd (false≢true h)

met_in : (i : Instance) (xs ys : List Met) → is_met i (xs ++ ys) ≡ (is_met i xs || is_met i ys)
met_in i xs ys = list_any-append (λ (one : Met). is_same_instance one.instance i) xs ys

-- each of some that are met is among them and more
pub all_are_met : (before met : List Met) → AllByRecursion (λ (one : Met). is_met one.instance (before ++ met) ≡ true) met
all_are_met before [] = tt
all_are_met before (one ∷ met) = (
  met_in one.instance before (one ∷ met) ∙ or_right _ _ (or_left _ _ (instance_self one.instance)),
  subst (λ (all : List Met). AllByRecursion (λ (other : Met). is_met other.instance all ≡ true) met) (joined before one met) (all_are_met (before ++ one ∷ []) met),
) where
  joined : (xs : List Met) (x : Met) (ys : List Met) → (xs ++ x ∷ []) ++ ys ≡ xs ++ x ∷ ys
  joined [] x ys = refl
  joined (y ∷ xs) x ys = ap (λ (l : List Met). y ∷ l) (joined xs x ys)

-- an output is met, where each has a store
output_met : (outputs : List ℕ) (stores : List Store) → length stores ≡ length outputs → (n : ℕ) → 1 ≤ times n outputs
    → is_met (formal_instance n) (met_outputs outputs stores) ≡ true
output_met [] stores long n h = absurd (omega (arith, h))
output_met (x ∷ outputs) [] long n h = absurd (omega (arith, long))
output_met (x ∷ outputs) (s ∷ stores) long n h = by_test (λ k. output_met outputs stores (omega (arith, long)) n k) (x == n) refl h where
  by_test : (1 ≤ times n outputs → is_met (formal_instance n) (met_outputs outputs stores) ≡ true) → (t : Bool) → (x == n) ≡ t → 1 ≤ (if t then 1 else 0) + times n outputs
      → is_met (formal_instance n) (met_outputs (x ∷ outputs) (s ∷ stores)) ≡ true
  by_test later true e k = or_left _ _ (subst (λ i. is_same_instance (formal_instance x) (formal_instance i) ≡ true) (eqb-true x n e) (instance_self (formal_instance x)))
  by_test later false e k = or_right _ _ (later (omega (arith, k)))

-- a formal that may be written is an output
written_output : (formals : List Formal) (k n j : ℕ) → j ≡ k + n → is_some (option_and_then formal_target (slice_get formals n)) ≡ true
    → 1 ≤ times j (numbers_in dir.Out k formals)
written_output [] k n j e h = absurd (false≢true h)
written_output (formal ∷ formals) k zero j e h =
    here formal.dir (let is : k ≡ j = omega (arith, e) in subst (λ i. (k == i) ≡ true) is (same_number k)) (numbers_in dir.Out (k + 1) formals) h where
      here : (d : Dir) → (k == j) ≡ true → (ys : List ℕ) → is_some (option_and_then formal_target (Some (record formal { dir = d }))) ≡ true
          → 1 ≤ times j (if is_same_direction d dir.Out then k ∷ ys else ys)
      here dir.In is ys h = absurd (false≢true h)
      here dir.Out is ys h = let one = ap {B = ℕ} (λ (t : Bool). if t then 1 else 0) is in omega (arith, one)
written_output (formal ∷ formals) k (suc n) j e h =
    there formal.dir (numbers_in dir.Out (k + 1) formals) (written_output formals (k + 1) n j (omega (arith, e)) h) where
      there : (d : Dir) (ys : List ℕ) → 1 ≤ times j ys → 1 ≤ times j (if is_same_direction d dir.Out then k ∷ ys else ys)
      there dir.In ys h = h
      there dir.Out ys h = omega (arith, h)

module _ (m : Module) (well : IsWellFormed [] m) (c : Configuration) (placed : IsConfiguration (program_of m) c) (env : Environment) where
  abbrev p : Program
  p = program_of m

  abbrev P : Instance → Type 0
  P i = is_met i (step_met p c) ≡ true

  outputs_met_too : (n : ℕ) → is_some (option_and_then formal_target (slice_get m.formals n)) ≡ true → P (formal_instance n)
  outputs_met_too n h =
      met_in (formal_instance n) (met_outputs p.outputs c.outputs) (met_at (layout_of p) c.place)
      ∙ or_left _ _ (output_met p.outputs c.outputs placed.outputs n (written_output m.formals 0 n n (omega arith) h))

  reach : Reaches (declared_by [] m) (passing p env) P outputs_met_too (body_under p env) (layout_of p) no_sight
  reach = statements_reach (declared_by [] m) (passing p env) P outputs_met_too m.body no_sight well.sound

  targets_from : (where_at : Place) → IsPlaceIn p where_at → AllByRecursion (λ (one : Met). P one.instance) (met_at (layout_of p) where_at)
      → AllByRecursion (λ (w : Write). P w.target) (writes_at (body_under p env) where_at)
  targets_from place.NotStarted fits all = reach.start root (Known yes) mark.Zero (λ n h. absurd (false≢true h)) all
  targets_from (place.Rest r) fits all = reach.resume root r (Known yes) (λ n h. absurd (false≢true h)) fits all
  targets_from place.Ended fits all = tt

  targets_met : AllByRecursion (λ (w : Write). P w.target) (step_writes p c env)
  targets_met = targets_from c.place placed.place (all_are_met (met_outputs p.outputs c.outputs) (met_at (layout_of p) c.place))

pub written_met : WhatIsWrittenIsMet
written_met m well c placed env = targets_met m well c placed env
