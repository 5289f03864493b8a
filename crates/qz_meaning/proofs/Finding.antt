-- What is found among the instances that are met, and in a row of inputs.
use Rattle.std.proofs.Common.{◌≡◌, ℕ, Bool, true, false, List, [], ◌∷◌, map, Some, None, refl, sym, ap, ap₂, subst, ◌∙◌}
use Rattle.std.specs.Prelude.{◌==◌, if◌then◌else◌, unwrap_or}
use Rattle.std.specs.List.{AllByRecursion}
use Rattle.std.proofs.lemmas.Bool.{false≢true, eqb-true, and_parts}
use Rattle.qz_values.specs.declared.Value.{Value}
use Rattle.qz_values.specs.declared.Know.{Know}
use Rattle.qz_values.specs.declared.Know.TheVariants.{Known}
use Rattle.qz_syntax.specs.declared.expressions.Var.{Var}
use Rattle.qz_syntax.specs.declared.expressions.Var.TheVariants as var
use Rattle.qz_syntax.specs.declared.places.Mark.{Mark}
use Rattle.qz_syntax.specs.declared.places.Mark.TheVariants as mark
use Rattle.qz_meaning.specs.Instances.{Instance, is_same_variable, is_same_mark, is_same_instance, formal_instance}
use Rattle.qz_meaning.specs.Layouts.{Met}
use Rattle.qz_meaning.specs.Programs.{Program}
use Rattle.qz_meaning.specs.Settling.{Environment, input_of, given_to, given, met_as}
use Rattle.qz_meaning.specs.MacroSteps.{HasInputs}
use Rattle.qz_meaning.proofs.Lists.{none≢some}

same_variable : (x y : Var) → is_same_variable x y ≡ true → x ≡ y
same_variable (var.Formal m) (var.Formal n) h = ap (λ (k : ℕ). var.Formal k) (eqb-true m n h)
same_variable (var.Formal m) (var.Local n) h = absurd (false≢true h)
same_variable (var.Formal m) (var.Bound n) h = absurd (false≢true h)
same_variable (var.Local m) (var.Formal n) h = absurd (false≢true h)
same_variable (var.Local m) (var.Local n) h = ap (λ (k : ℕ). var.Local k) (eqb-true m n h)
same_variable (var.Local m) (var.Bound n) h = absurd (false≢true h)
same_variable (var.Bound m) (var.Formal n) h = absurd (false≢true h)
same_variable (var.Bound m) (var.Local n) h = absurd (false≢true h)
same_variable (var.Bound m) (var.Bound n) h = ap (λ (k : ℕ). var.Bound k) (eqb-true m n h)

pub same_mark : (x y : Mark) → is_same_mark x y ≡ true → x ≡ y
same_mark mark.Here mark.Here h = refl
same_mark mark.Here mark.Zero h = absurd (false≢true h)
same_mark mark.Here (mark.Loop n) h = absurd (false≢true h)
same_mark mark.Zero mark.Here h = absurd (false≢true h)
same_mark mark.Zero mark.Zero h = refl
same_mark mark.Zero (mark.Loop n) h = absurd (false≢true h)
same_mark (mark.Loop m) mark.Here h = absurd (false≢true h)
same_mark (mark.Loop m) mark.Zero h = absurd (false≢true h)
same_mark (mark.Loop m) (mark.Loop n) h = ap (λ (k : ℕ). mark.Loop k) (eqb-true m n h)

-- instances of which the test says that they are one are equal
pub same_from_test : (i j : Instance) → is_same_instance i j ≡ true → i ≡ j
same_from_test i j h =
    let two = and_parts _ _ h in
    ap₂ (λ (x : Var) (m : Mark). record { variable = x; mark = m }) (same_variable i.variable j.variable two.0) (same_mark i.mark j.mark two.1)

-- what is found is one of those that are met, and is the instance
pub met_found : (P : Met → Type 0) (met : List Met) (i : Instance) (one : Met) → AllByRecursion P met → met_as i met ≡ Some one → P one × (one.instance ≡ i)
met_found P [] i one all h = absurd (none≢some _ h)
met_found P (first ∷ met) i one all h = by_test (λ k. met_found P met i one all.1 k) (is_same_instance first.instance i) refl h where
  by_test : (met_as i met ≡ Some one → P one × (one.instance ≡ i)) → (same : Bool) → is_same_instance first.instance i ≡ same
      → (if same then Some first else met_as i met) ≡ Some one → P one × (one.instance ≡ i)
  by_test later true e k =
      let is : first ≡ one = ap (λ o. unwrap_or o first) k in
      subst (λ (it : Met). P it × (it.instance ≡ i)) is (all.0, same_from_test first.instance i e)
  by_test later false e k = later k

abbrev pub head_or : Know → List Know → Know
head_or d [] = d
head_or d (x ∷ xs) = x

abbrev pub tail_of : List Know → List Know
tail_of [] = []
tail_of (x ∷ xs) = xs

-- where a list of inputs has the values of a row, each has its own
row_known : (f : ℕ → Know) (inputs : List ℕ) (row : List Value) (n : ℕ) (v : Value) → map f inputs ≡ map (λ (x : Value). Known x) row
    → input_of inputs row n ≡ Some v → f n ≡ Known v
row_known f [] row n v h k = absurd (none≢some _ k)
row_known f (input ∷ inputs) [] n v h k = absurd (none≢some _ k)
row_known f (input ∷ inputs) (x ∷ row) n v h k = by_test (λ j. row_known f inputs row n v (ap tail_of h) j) (input == n) refl k where
  by_test : (input_of inputs row n ≡ Some v → f n ≡ Known v) → (same : Bool) → (input == n) ≡ same
      → (if same then Some x else input_of inputs row n) ≡ Some v → f n ≡ Known v
  by_test later true e j = ap f (sym (eqb-true input n e)) ∙ ap (head_or (f n)) h ∙ ap (λ o. Known (unwrap_or o x)) j
  by_test later false e j = later j

variable_known : (p : Program) (env : Environment) (row : List Value) (x : Var) (v : Value) → HasInputs p env row → given_to p row x ≡ Some v
    → env.now record { variable = x; mark = mark.Zero } ≡ Known v
variable_known p env row (var.Formal n) v h k = row_known (λ n. env.now (formal_instance n)) p.inputs row n v h k
variable_known p env row (var.Local n) v h k = absurd (none≢some _ k)
variable_known p env row (var.Bound n) v h k = absurd (none≢some _ k)

-- what the row gives to an instance is known of it
pub given_known : (p : Program) (env : Environment) (row : List Value) (i : Instance) (v : Value) → HasInputs p env row → given p row i ≡ Some v
    → env.now i ≡ Known v
given_known p env row i v h k = by_test (is_same_mark i.mark mark.Zero) refl k where
  by_test : (same : Bool) → is_same_mark i.mark mark.Zero ≡ same → (if same then given_to p row i.variable else None) ≡ Some v → env.now i ≡ Known v
  by_test true e j =
      ap (λ (m : Mark). env.now record { variable = i.variable; mark = m }) (same_mark i.mark mark.Zero e)
      ∙ variable_known p env row i.variable v h j
  by_test false e j = absurd (none≢some _ j)
