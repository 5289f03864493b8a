-- In a program whose variables have numbers of their own each instance is met once, and no input is met.
use Rattle.std.proofs.Common.{◌≡◌, ℕ, zero, suc, ◌+◌, ◌<◌, ◌≤◌, Bool, true, false, List, [], ◌∷◌, map, length, Option, Some, None, refl, sym, ap, ap₂, subst, ◌∙◌, arith}
use Rattle.std.specs.Prelude.{◌==◌, if◌then◌else◌}
use Rattle.std.specs.List.{AllByRecursion, range_with_len}
use Rattle.std.proofs.lemmas.Bool.{false≢true, eqb-true, and_from}
use Rattle.qz_values.specs.declared.Value.{Value}
use Rattle.qz_values.specs.declared.Know.{Know}
use Rattle.qz_values.specs.declared.Know.TheVariants.{Known}
use Rattle.qz_syntax.specs.declared.declarations.Dir.{Dir}
use Rattle.qz_syntax.specs.declared.declarations.Dir.TheVariants as dir
use Rattle.qz_syntax.specs.declared.declarations.Formal.{Formal}
use Rattle.qz_syntax.specs.declared.expressions.Var.{Var}
use Rattle.qz_syntax.specs.declared.expressions.Var.TheVariants as var
use Rattle.qz_syntax.specs.declared.modules.Module.{Module}
use Rattle.qz_syntax.specs.declared.places.Mark.{Mark}
use Rattle.qz_syntax.specs.declared.places.Mark.TheVariants as mark
use Rattle.qz_syntax.specs.declared.places.Store.{Store}
use Rattle.qz_syntax.specs.declared.places.Place.{Place}
use Rattle.qz_syntax.specs.declared.places.Place.TheVariants as place
use Rattle.qz_syntax.specs.Numbers.{locals_of, loops_of}
use Rattle.qz_syntax.specs.WellFormed.{IsNumbered}
use Rattle.qz_meaning.specs.Instances.{Instance, is_same_variable, is_same_mark, is_same_instance}
use Rattle.qz_meaning.specs.Layouts.{Met, Layout}
use Rattle.qz_meaning.specs.Programs.{Program, is_same_direction, numbers_in, times, HasOwnNumbers, program_of}
use Rattle.qz_meaning.specs.Configurations.{Configuration, layout_of}
use Rattle.qz_meaning.specs.Settling.{met_outputs, met_at, step_met, input_of, given_to, met_as}
use Rattle.qz_meaning.specs.Rounds.{given_or_unknown, first_round}
use Rattle.qz_meaning.specs.MacroSteps.{HasInputs}
use Rattle.qz_meaning.specs.MeetingLaws.{IsMetAlone}
use Rattle.qz_meaning.proofs.MetOnce.{met_times, met-append, local_times, one_most, at_mark_most, Once, walks_meet_once}

pub same_number : (n : ℕ) → (n == n) ≡ true
same_number n = grind arith

mark_self : (m : Mark) → is_same_mark m m ≡ true
mark_self mark.Here = refl
mark_self mark.Zero = refl
mark_self (mark.Loop n) = same_number n

pub variable_self : (x : Var) → is_same_variable x x ≡ true
variable_self (var.Formal n) = same_number n
variable_self (var.Local n) = same_number n
variable_self (var.Bound n) = same_number n

pub instance_self : (i : Instance) → is_same_instance i i ≡ true
instance_self i = and_from _ _ (variable_self i.variable) (mark_self i.mark)

pub all_both : {A : Type 0} (P Q R : A → Type 0) (xs : List A) → ((x : A) → P x → Q x → R x) → AllByRecursion P xs → AllByRecursion Q xs → AllByRecursion R xs
all_both P Q R [] f p q = tt
all_both P Q R (x ∷ xs) f p q = (f x p.0 q.0, all_both P Q R xs f p.1 q.1)

all_map : {A : Type 0} (P R : A → Type 0) (xs : List A) → ((x : A) → P x → R x) → AllByRecursion P xs → AllByRecursion R xs
all_map P R xs f p = all_both P P R xs (λ x a b. f x a) p p

-- what is met is met at least once
seen : (met : List Met) → AllByRecursion (λ (one : Met). 1 ≤ met_times one.instance met) met
seen [] = tt
seen (first ∷ met) = (
  once (is_same_instance first.instance first.instance) (instance_self first.instance),
  all_map (λ (one : Met). 1 ≤ met_times one.instance met) (λ (one : Met). 1 ≤ met_times one.instance (first ∷ met)) met (λ one h. omega (arith, h)) (seen met),
)
  where
    once : (b : Bool) → b ≡ true → 1 ≤ (if b then 1 else 0) + met_times first.instance met
    once true e = omega arith
    once false e = absurd (false≢true e)

if_first : (b : Bool) (first one : Met) (rest : Option Met) (n : ℕ) → (if b then 1 else 0) + n ≤ 1 → 1 ≤ n → rest ≡ Some one → (if b then Some first else rest) ≡ Some one
if_first true first one rest n h k e = absurd (omega (arith, h, k))
if_first false first one rest n h k e = e

-- what is met once is found
found_each : (met : List Met) → ((i : Instance) → met_times i met ≤ 1) → AllByRecursion (λ (one : Met). met_as one.instance met ≡ Some one) met
found_each [] h = tt
found_each (first ∷ met) h = (
  ap (λ (b : Bool). if b then Some first else met_as first.instance met) (instance_self first.instance),
  all_both (λ (one : Met). 1 ≤ met_times one.instance met) (λ (one : Met). met_as one.instance met ≡ Some one) (λ (one : Met). met_as one.instance (first ∷ met) ≡ Some one) met
      (λ one k e. if_first (is_same_instance first.instance one.instance) first one (met_as one.instance met) (met_times one.instance met) (h one.instance) k e)
      (seen met) (found_each met (λ i. let most = h i in omega (arith, most))),
)

-- how often a variable stands among the outputs
abbrev formal_times : Var → List ℕ → ℕ
formal_times (var.Formal n) outputs = times n outputs
formal_times (var.Local n) outputs = 0
formal_times (var.Bound n) outputs = 0

outputs_times : (x : Var) (m : Mark) (outputs : List ℕ) (stores : List Store) → met_times record { variable = x; mark = m } (met_outputs outputs stores) ≤ formal_times x outputs
outputs_times x m [] stores = omega arith
outputs_times x m (y ∷ outputs) [] = omega arith
outputs_times (var.Formal k) m (y ∷ outputs) (s ∷ stores) =
    let one = one_most (y == k) (is_same_mark mark.Zero m) in
    let more = outputs_times (var.Formal k) m outputs stores in
    omega (arith, one, more)
outputs_times (var.Local k) m (y ∷ outputs) (s ∷ stores) = let more = outputs_times (var.Local k) m outputs stores in omega (arith, more)
outputs_times (var.Bound k) m (y ∷ outputs) (s ∷ stores) = let more = outputs_times (var.Bound k) m outputs stores in omega (arith, more)

place_times : (l : Layout) (locals loops : List ℕ) (i : Instance) (where_it_is : Place) → Once l locals loops → met_times i (met_at l where_it_is) ≤ local_times i.variable locals
place_times l locals loops i place.NotStarted x =
    let start = x.start i mark.Zero in
    let most = at_mark_most (is_same_mark mark.Zero i.mark) (local_times i.variable locals) in
    omega (arith, start, most)
place_times l locals loops i (place.Rest r) x = x.resume i r
place_times l locals loops i place.Ended x = omega arith

not_input : (inputs : List ℕ) (row : List Value) (n : ℕ) → times n inputs ≡ 0 → input_of inputs row n ≡ None
not_input [] row n h = refl
not_input (input ∷ inputs) [] n h = refl
not_input (input ∷ inputs) (v ∷ row) n h = by_test (λ k. not_input inputs row n k) (input == n) h where
  by_test : (times n inputs ≡ 0 → input_of inputs row n ≡ None) → (b : Bool) → (if b then 1 else 0) + times n inputs ≡ 0 → (if b then Some v else input_of inputs row n) ≡ None
  by_test later true k = absurd (omega (arith, k))
  by_test later false k = later (omega (arith, k))

-- an input apart from the ones before it
apart : (n : ℕ) (xs : List ℕ) → times n xs ≡ 0 → AllByRecursion (λ x. (n == x) ≡ false) xs
apart n [] h = tt
apart n (x ∷ xs) h = (other (x == n) refl h, apart n xs (omega (arith, h))) where
  other : (b : Bool) → (x == n) ≡ b → (if b then 1 else 0) + times n xs ≡ 0 → (n == x) ≡ false
  other true e k = absurd (omega (arith, k))
  other false e k = grind (arith, e)

map_same : (f g : ℕ → Know) (xs : List ℕ) → AllByRecursion (λ x. f x ≡ g x) xs → map f xs ≡ map g xs
map_same f g [] h = refl
map_same f g (x ∷ xs) h = ap₂ (λ (k : Know) (l : List Know). k ∷ l) h.0 (map_same f g xs h.1)

row_given : (inputs : List ℕ) (row : List Value) → ((n : ℕ) → times n inputs ≤ 1) → length row ≡ length inputs
    → map (λ n. given_or_unknown (input_of inputs row n)) inputs ≡ map (λ (v : Value). Known v) row
row_given [] [] once long = refl
row_given [] (v ∷ row) once long = absurd (omega (arith, long))
row_given (n ∷ inputs) [] once long = absurd (omega (arith, long))
row_given (n ∷ inputs) (v ∷ row) once long =
    ap₂ (λ (k : Know) (l : List Know). k ∷ l) (ap (λ b. given_or_unknown (if b then Some v else input_of inputs row n)) (same_number n))
    (map_same (λ x. given_or_unknown (input_of (n ∷ inputs) (v ∷ row) x)) (λ x. given_or_unknown (input_of inputs row x)) inputs
    (all_map (λ x. (n == x) ≡ false) (λ x. given_or_unknown (input_of (n ∷ inputs) (v ∷ row) x) ≡ given_or_unknown (input_of inputs row x)) inputs
    (λ x e. ap (λ (b : Bool). given_or_unknown (if b then Some v else input_of inputs row x)) e) (apart n inputs (gone (n == n) (same_number n) (once n))))
    ∙ row_given inputs row (λ k. let most = once k in omega (arith, most)) (omega (arith, long)))
  where
    gone : (b : Bool) → b ≡ true → (if b then 1 else 0) + times n inputs ≤ 1 → times n inputs ≡ 0
    gone true e h = omega (arith, h)
    gone false e h = absurd (false≢true e)

module _ (p : Program) (own : HasOwnNumbers p) (c : Configuration) where
  met_most : (i : Instance) → met_times i (step_met p c) ≤ formal_times i.variable p.outputs + local_times i.variable (locals_of p.body)
  met_most i =
      let both = met-append i (met_outputs p.outputs c.outputs) (met_at (layout_of p) c.place) in
      let outputs = outputs_times i.variable i.mark p.outputs c.outputs in
      let inside = place_times (layout_of p) (locals_of p.body) (loops_of p.body) i c.place (walks_meet_once p.body own.loops) in
      omega (arith, both, outputs, inside)

  variable_most : (x : Var) → formal_times x p.outputs + local_times x (locals_of p.body) ≤ 1
  variable_most (var.Formal n) = let most = own.formals n in omega (arith, most)
  variable_most (var.Local n) = let most = own.locals n in omega (arith, most)
  variable_most (var.Bound n) = omega arith

  module _ (row : List Value) where
    variable_free : (x : Var) → 1 ≤ formal_times x p.outputs + local_times x (locals_of p.body) → given_to p row x ≡ None
    variable_free (var.Formal n) h = let most = own.formals n in not_input p.inputs row n (omega (arith, most, h))
    variable_free (var.Local n) h = refl
    variable_free (var.Bound n) h = refl

    if_free : (b : Bool) (o : Option Value) → o ≡ None → (if b then o else None) ≡ None
    if_free true o e = e
    if_free false o e = refl

    -- the row has a value for each input
    pub row_fits : length row ≡ length p.inputs → HasInputs p (first_round p row) row
    row_fits long = row_given p.inputs row (λ n. let most = own.formals n in omega (arith, most)) long

    -- each instance that is met is met once and is no input
    pub met_alone : AllByRecursion (IsMetAlone p c row) (step_met p c)
    met_alone =
        all_both (λ (one : Met). 1 ≤ met_times one.instance (step_met p c)) (λ (one : Met). met_as one.instance (step_met p c) ≡ Some one) (IsMetAlone p c row) (step_met p c)
        (λ one once found. record {
          found = found;
          free = if_free (is_same_mark one.instance.mark mark.Zero) (given_to p row one.instance.variable)
              (variable_free one.instance.variable (let most = met_most one.instance in omega (arith, once, most)));
        })
        (seen (step_met p c)) (found_each (step_met p c) (λ i. let most = met_most i in let one = variable_most i.variable in omega (arith, most, one)))

-- numbers from one on
pub range_once : (n a k : ℕ) → (times n (range_with_len a k) ≤ 1) × (n < a → times n (range_with_len a k) ≡ 0)
range_once n a zero = (omega arith, λ h. refl)
range_once n a (suc k) = let more = range_once n (a + 1) k in by_test (a == n) refl more.0 more.1 where
  by_test : (b : Bool) → (a == n) ≡ b → times n (range_with_len (a + 1) k) ≤ 1 → (n < a + 1 → times n (range_with_len (a + 1) k) ≡ 0)
      → ((if b then 1 else 0) + times n (range_with_len (a + 1) k) ≤ 1) × (n < a → (if b then 1 else 0) + times n (range_with_len (a + 1) k) ≡ 0)
  by_test true e most none =
      let is : a ≡ n = eqb-true a n e in
      let gone = none (omega (arith, is)) in
      (omega (arith, gone), λ h. absurd (omega (arith, is, h)))
  by_test false e most none = (omega (arith, most), λ h. let gone = none (omega (arith, h)) in omega (arith, gone))

formals_once : (n a : ℕ) (formals : List Formal)
    → (times n (numbers_in dir.In a formals) + times n (numbers_in dir.Out a formals) ≤ 1) × (n < a → times n (numbers_in dir.In a formals) + times n (numbers_in dir.Out a formals) ≡ 0)
formals_once n a [] = (omega arith, λ h. omega arith)
formals_once n a (formal ∷ formals) =
    let more = formals_once n (a + 1) formals in
    let sum = one_more formal.dir (numbers_in dir.In (a + 1) formals) (numbers_in dir.Out (a + 1) formals) in
    let all = by_test (a == n) refl (times n (numbers_in dir.In (a + 1) formals) + times n (numbers_in dir.Out (a + 1) formals)) more.0 more.1 in
    (subst (λ k. k ≤ 1) (sym sum) all.0, λ h. sum ∙ all.1 h)
  where
    one_more : (d : Dir) (xs ys : List ℕ)
        → times n (if is_same_direction d dir.In then a ∷ xs else xs) + times n (if is_same_direction d dir.Out then a ∷ ys else ys)
        ≡ (if a == n then 1 else 0) + (times n xs + times n ys)
    one_more dir.In xs ys = omega arith
    one_more dir.Out xs ys = omega arith

    by_test : (b : Bool) → (a == n) ≡ b → (k : ℕ) → k ≤ 1 → (n < a + 1 → k ≡ 0) → ((if b then 1 else 0) + k ≤ 1) × (n < a → (if b then 1 else 0) + k ≡ 0)
    by_test true e k most none =
        let is : a ≡ n = eqb-true a n e in
        let gone = none (omega (arith, is)) in
        (omega (arith, gone), λ h. absurd (omega (arith, is, h)))
    by_test false e k most none = (omega (arith, most), λ h. let gone = none (omega (arith, h)) in omega (arith, gone))

-- in a module that is numbered in tree order each has a number of its own
pub own_numbers : (m : Module) → IsNumbered m → HasOwnNumbers (program_of m)
own_numbers m numbered = record {
  formals = λ n. (formals_once n 0 m.formals).0;
  locals = λ n. subst (λ (xs : List ℕ). times n xs ≤ 1) (sym numbered.locals) (range_once n 0 (length m.decls)).0;
  loops = λ n. subst (λ (xs : List ℕ). times n xs ≤ 1) (sym numbered.loops) (range_once n 0 m.loops).0;
}
