-- Numbers of instances: where each of them stands, and that each one that a step meets has its own.
use Rattle.std.proofs.Common.{◌≡◌, ℕ, zero, suc, ◌+◌, ◌<◌, ◌≤◌, Bool, true, false, List, [], ◌∷◌, map, length, Some, refl, sym, ap, subst, ◌∙◌, inl, inr, arith}
use Rattle.std.specs.Prelude.{◌==◌, if◌then◌else◌, slice_get, unwrap_or}
use Rattle.std.specs.List.{flat_map, AllByRecursion, range_with_len}
use Rattle.std.proofs.lemmas.Bool.{eqb-true}
use Rattle.qz_syntax.specs.declared.declarations.Dir.TheVariants as dir
use Rattle.qz_syntax.specs.declared.modules.Module.{Module}
use Rattle.qz_syntax.specs.declared.places.Mark.{Mark}
use Rattle.qz_syntax.specs.declared.places.Mark.TheVariants as mark
use Rattle.qz_syntax.specs.declared.places.Store.{Store}
use Rattle.qz_syntax.specs.declared.places.Place.{Place}
use Rattle.qz_syntax.specs.declared.places.Place.TheVariants as place
use Rattle.qz_syntax.specs.Numbers.{locals_of}
use Rattle.qz_syntax.specs.Marks.{loops_round, marks_of_local}
use Rattle.qz_syntax.specs.WellFormed.{IsNumbered}
use Rattle.qz_meaning.specs.Instances.{Instance, formal_instance, local_instance}
use Rattle.qz_meaning.specs.Layouts.{Met}
use Rattle.qz_meaning.specs.Programs.{Program, formals_of, program_of, times}
use Rattle.qz_meaning.specs.Configurations.{Configuration, layout_of}
use Rattle.qz_meaning.specs.Settling.{met_at, met_outputs, step_met}
use Rattle.qz_meaning.proofs.Lists.{all_join, none≢some, some_same}
use Rattle.qz_meaning.proofs.Orderly.{own_numbers}
use Rattle.qz_closing.proofs.Getting.{get_left, get_right, get_mapped, get_range, range_cases}
use Rattle.closing_laws.proofs.Instanced.{stands_once}
use Rattle.closing_laws.proofs.MetNumbers.{IsMark, Starts, Resumes, Once, statements_numbered}

-- a number stands somewhere in a list
pub stands : (xs : List ℕ) (n : ℕ) → 1 ≤ times n xs → (k : ℕ) × (slice_get xs k ≡ Some n)
stands [] n h = absurd (omega (arith, h))
stands (x ∷ xs) n h = by (x == n) refl h (λ k. stands xs n k) where
  by : (t : Bool) → (x == n) ≡ t → 1 ≤ (if t then 1 else 0) + times n xs → (1 ≤ times n xs → (k : ℕ) × (slice_get xs k ≡ Some n))
      → (k : ℕ) × (slice_get (x ∷ xs) k ≡ Some n)
  by true is h later = (0, ap Some (eqb-true x n is))
  by false is h later = let one = later (omega (arith, h)) in (suc one.0, one.1)

-- what stands in one of some lists stands in all of them in a row
got_flat : {A B : Type 0} (f : A → List B) (xs : List A) (k j : ℕ) (x : A) (y : B) → slice_get xs k ≡ Some x → slice_get (f x) j ≡ Some y
    → (i : ℕ) × (slice_get (flat_map f xs) i ≡ Some y)
got_flat f [] k j x y e g = absurd (none≢some x e)
got_flat f (z ∷ xs) zero j x y e g = (j, get_left (f z) (flat_map f xs) j y (subst (λ (i : _). slice_get (f i) j ≡ Some y) (sym (some_same _ _ e)) g))
got_flat f (z ∷ xs) (suc k) j x y e g =
    let one = got_flat f xs k j x y e g in (length (f z) + one.0, get_right (f z) (flat_map f xs) one.0 ∙ one.1)

module _ (m : Module) (numbered : IsNumbered m) where
  abbrev p : Program
  p = program_of m

  abbrev O : List ℕ
  O = formals_of dir.Out m

  -- the instance is one of the program's
  pub record HasPlace (i : Instance) : Type 0 where
    pub number : ℕ
    pub at : slice_get p.instances number ≡ Some i

  output_place : (n : ℕ) → 1 ≤ times n O → HasPlace (formal_instance n)
  output_place n h =
      let one = stands O n h in
      record { number = one.0; at = get_left (map formal_instance O) _ one.0 (formal_instance n) (get_mapped formal_instance O one.0 n one.1) }

  abbrev locals : List Instance
  locals = flat_map (λ n. map (local_instance n) (marks_of_local m n)) (range_with_len 0 (length m.decls))

  mark_stands : (n : ℕ) (k : Mark) → IsMark (loops_round n m.body) k → (j : ℕ) × (slice_get (marks_of_local m n) j ≡ Some k)
  mark_stands n k (inl zero_mark) = (0, ap Some (sym zero_mark))
  mark_stands n k (inr (q, is, own)) =
      let one = stands (unwrap_or (loops_round n m.body) []) q own in
      (suc one.0, get_mapped mark.Loop (unwrap_or (loops_round n m.body) []) one.0 q one.1 ∙ ap Some (sym is))

  within : (n : ℕ) → 1 ≤ times n (locals_of m.body) → n < length m.decls
  within n own =
      let one = stands (locals_of m.body) n own in
      let two : slice_get (range_with_len 0 (length m.decls)) one.0 ≡ Some n = ap (λ (l : List ℕ). slice_get l one.0) (sym numbered.locals) ∙ one.1 in
      let range = range_cases 0 (length m.decls) one.0 n two in
      let same = range.0 in let less = range.1 in
      omega (arith, same, less)

  local_place : (n : ℕ) (k : Mark) → 1 ≤ times n (locals_of m.body) → IsMark (loops_round n m.body) k → HasPlace (local_instance n k)
  local_place n k own marked =
      let less = within n own in
      let one = mark_stands n k marked in
      let flat = got_flat (λ i. map (local_instance i) (marks_of_local m i)) (range_with_len 0 (length m.decls)) n one.0 n (local_instance n k)
      (get_range 0 (length m.decls) n less ∙ ap Some (let e : 0 + n ≡ n = omega arith in e)) (get_mapped (local_instance n) (marks_of_local m n) one.0 k one.1) in
      record { number = length (map formal_instance O) + flat.0; at = get_right (map formal_instance O) locals flat.0 ∙ flat.1 }

  -- a local's instance with mark zero
  pub local_zero : (n : ℕ) → n < length m.decls → HasPlace (local_instance n mark.Zero)
  local_zero n less =
      local_place n mark.Zero
      (stands_once (locals_of m.body) n n (ap (λ (l : List ℕ). slice_get l n) numbered.locals ∙ get_range 0 (length m.decls) n less ∙ ap Some (let e : 0 + n ≡ n = omega arith in e)))
      (inl refl)

  -- an output's only instance
  pub output_zero : (n : ℕ) → 1 ≤ times n O → HasPlace (formal_instance n)
  output_zero = output_place

  outputs_placed : (outputs : List ℕ) (stores : List Store) → ((n : ℕ) → times n outputs ≤ times n O) → AllByRecursion (λ (one : Met). HasPlace one.instance) (met_outputs outputs stores)
  outputs_placed [] stores less = tt
  outputs_placed (n ∷ outputs) [] less = tt
  outputs_placed (n ∷ outputs) (s ∷ stores) less = (
    output_place n
        (let one : (if n == n then 1 else 0) ≡ 1 = ap {B = ℕ} (λ (t : Bool). if t then 1 else 0) (let e : (n == n) ≡ true = grind arith in e) in
        let all = less n in omega (arith, one, all)),
    outputs_placed outputs stores (λ i. let all = less i in omega (arith, all)),
  )

  starts_placed : (met : List Met) → Starts (locals_of m.body) mark.Zero met → AllByRecursion (λ (one : Met). HasPlace one.instance) met
  starts_placed [] all = tt
  starts_placed (one ∷ met) all =
      let it = all.0 in
      (subst HasPlace (sym it.is) (local_place it.number mark.Zero it.own (inl refl)), starts_placed met all.1)

  resumes_placed : (met : List Met) → Resumes (locals_of m.body) (λ n. loops_round n m.body) met → AllByRecursion (λ (one : Met). HasPlace one.instance) met
  resumes_placed [] all = tt
  resumes_placed (one ∷ met) all =
      let it = all.0 in
      (subst HasPlace (sym it.is) (local_place it.number it.by_mark it.own it.marked), resumes_placed met all.1)

  once : Once (locals_of m.body)
  once = (own_numbers m numbered).locals

  place_met : (where_at : Place) → AllByRecursion (λ (one : Met). HasPlace one.instance) (met_at (layout_of p) where_at)
  place_met place.NotStarted = starts_placed _ ((statements_numbered m.body).start mark.Zero)
  place_met (place.Rest r) = resumes_placed _ ((statements_numbered m.body).resume once r)
  place_met place.Ended = tt

  -- each instance that a step meets has a number
  pub met_placed : (c : Configuration) → AllByRecursion (λ (one : Met). HasPlace one.instance) (step_met p c)
  met_placed c =
      all_join (λ (one : Met). HasPlace one.instance) (met_outputs p.outputs c.outputs) (met_at (layout_of p) c.place)
      (outputs_placed p.outputs c.outputs (λ n. omega arith)) (place_met c.place)
