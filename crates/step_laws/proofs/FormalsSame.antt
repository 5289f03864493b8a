-- Formals: environments that agree at the inputs and wherever instances are met agree at each formal.
use Rattle.std.proofs.Common.{◌≡◌, ℕ, zero, suc, ◌+◌, ◌<◌, ◌≤◌, Bool, true, false, List, [], ◌∷◌, map, length, refl, sym, ap, subst, ◌∙◌, ◌⊎◌, inl, inr, arith}
use Rattle.std.specs.Prelude.{◌==◌, if◌then◌else◌, is_some, slice_get}
use Rattle.std.specs.List.{AllByRecursion}
use Rattle.std.proofs.lemmas.Bool.{false≢true, cases_lt, eqb-true}
use Rattle.qz_values.specs.declared.Value.{Value}
use Rattle.qz_values.specs.declared.Know.{Know}
use Rattle.qz_values.specs.declared.Know.TheVariants.{Unknown}
use Rattle.qz_syntax.specs.declared.declarations.Dir.{Dir}
use Rattle.qz_syntax.specs.declared.declarations.Dir.TheVariants as dir
use Rattle.qz_syntax.specs.declared.declarations.Formal.{Formal}
use Rattle.qz_syntax.specs.declared.modules.Module.{Module}
use Rattle.qz_syntax.specs.declared.places.Store.{Store}
use Rattle.qz_meaning.specs.Instances.{formal_instance}
use Rattle.qz_meaning.specs.Layouts.{Met}
use Rattle.qz_meaning.specs.Programs.{Program, is_same_direction, numbers_in, times, program_of}
use Rattle.qz_meaning.specs.Configurations.{IsConfiguration, Configuration, layout_of}
use Rattle.qz_meaning.specs.Settling.{Environment, met_at, met_outputs, step_met}
use Rattle.qz_meaning.specs.Rounds.{AgreeAt}
use Rattle.qz_meaning.specs.MacroSteps.{HasInputs}
use Rattle.qz_meaning.proofs.Lists.{all_parts}
use Rattle.qz_meaning.proofs.Finding.{head_or, tail_of}
use Rattle.qz_meaning.proofs.Orderly.{same_number}

-- each formal is an input or an output
pub formal_somewhere : (formals : List Formal) (k n j : ℕ) → j ≡ k + n → is_some (slice_get formals n) ≡ true
    → 1 ≤ times j (numbers_in dir.In k formals) + times j (numbers_in dir.Out k formals)
formal_somewhere [] k n j e h = absurd (false≢true h)
formal_somewhere (formal ∷ formals) k zero j e h =
    here formal.dir (k == j) (let is : k ≡ j = omega (arith, e) in subst (λ i. (k == i) ≡ true) is (same_number k)) (numbers_in dir.In (k + 1) formals) (numbers_in dir.Out (k + 1) formals) where
      here : (d : Dir) (b : Bool) → (k == j) ≡ true → (xs ys : List ℕ)
          → 1 ≤ times j (if is_same_direction d dir.In then k ∷ xs else xs) + times j (if is_same_direction d dir.Out then k ∷ ys else ys)
      here dir.In b is xs ys = let one = ap {B = ℕ} (λ (t : Bool). if t then 1 else 0) is in omega (arith, one)
      here dir.Out b is xs ys = let one = ap {B = ℕ} (λ (t : Bool). if t then 1 else 0) is in omega (arith, one)
formal_somewhere (formal ∷ formals) k (suc n) j e h =
    there formal.dir (numbers_in dir.In (k + 1) formals) (numbers_in dir.Out (k + 1) formals) (formal_somewhere formals (k + 1) n j (omega (arith, e)) h) where
      there : (d : Dir) (xs ys : List ℕ) → 1 ≤ times j xs + times j ys
          → 1 ≤ times j (if is_same_direction d dir.In then k ∷ xs else xs) + times j (if is_same_direction d dir.Out then k ∷ ys else ys)
      there dir.In xs ys h = omega (arith, h)
      there dir.Out xs ys h = omega (arith, h)

pub input_same : (f g : ℕ → Know) (inputs : List ℕ) (n : ℕ) → map f inputs ≡ map g inputs → 1 ≤ times n inputs → f n ≡ g n
input_same f g [] n e h = absurd (omega (arith, h))
input_same f g (x ∷ inputs) n e h = by_test (λ k. input_same f g inputs n (ap tail_of e) k) (x == n) refl h where
  by_test : (1 ≤ times n inputs → f n ≡ g n) → (b : Bool) → (x == n) ≡ b → 1 ≤ (if b then 1 else 0) + times n inputs → f n ≡ g n
  by_test later true i k = subst (λ j. f j ≡ g j) (eqb-true x n i) (ap (head_or Unknown) e)
  by_test later false i k = later (omega (arith, k))

pub output_same : (a b : Environment) (outputs : List ℕ) (stores : List Store) → length stores ≡ length outputs → AllByRecursion (λ (one : Met). AgreeAt one a b) (met_outputs outputs stores)
    → (n : ℕ) → 1 ≤ times n outputs → a.now (formal_instance n) ≡ b.now (formal_instance n)
output_same a b [] stores long all n h = absurd (omega (arith, h))
output_same a b (x ∷ outputs) [] long all n h = absurd (omega (arith, long))
output_same a b (x ∷ outputs) (s ∷ stores) long all n h = by_test (λ k. output_same a b outputs stores (omega (arith, long)) all.1 n k) (x == n) refl h where
  by_test : (1 ≤ times n outputs → a.now (formal_instance n) ≡ b.now (formal_instance n)) → (t : Bool) → (x == n) ≡ t → 1 ≤ (if t then 1 else 0) + times n outputs
      → a.now (formal_instance n) ≡ b.now (formal_instance n)
  by_test later true i k = subst (λ j. a.now (formal_instance j) ≡ b.now (formal_instance j)) (eqb-true x n i) all.0.now
  by_test later false i k = later (omega (arith, k))

module _ (m : Module) (c : Configuration) (row : List Value) (placed : IsConfiguration (program_of m) c) (a b : Environment)
    (first : HasInputs (program_of m) a row) (second : HasInputs (program_of m) b row)
    (agree : AllByRecursion (λ (one : Met). AgreeAt one a b) (step_met (program_of m) c)) where
  abbrev p : Program
  p = program_of m

  pub agree_parts : AllByRecursion (λ (one : Met). AgreeAt one a b) (met_outputs p.outputs c.outputs) × AllByRecursion (λ (one : Met). AgreeAt one a b) (met_at (layout_of p) c.place)
  agree_parts = all_parts (λ (one : Met). AgreeAt one a b) (met_outputs p.outputs c.outputs) (met_at (layout_of p) c.place) agree

  pub formals_same : (n : ℕ) → is_some (slice_get m.formals n) ≡ true → a.now (formal_instance n) ≡ b.now (formal_instance n)
  formals_same n h = by_order (cases_lt 0 (times n p.inputs)) where
    by_order : (0 < times n p.inputs) ⊎ (times n p.inputs ≤ 0) → a.now (formal_instance n) ≡ b.now (formal_instance n)
    by_order (inl more) = input_same (λ i. a.now (formal_instance i)) (λ i. b.now (formal_instance i)) p.inputs n (first ∙ sym second) (omega (arith, more))
    by_order (inr none) =
        let some = formal_somewhere m.formals 0 n n (omega arith) h in
        output_same a b p.outputs c.outputs placed.outputs agree_parts.0 n (omega (arith, none, some))
