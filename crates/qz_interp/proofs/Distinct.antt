-- In a module that is numbered in tree order each instance has one number.
use Rattle.std.proofs.Common.{◌≡◌, ℕ, zero, suc, ◌+◌, ◌≤◌, Bool, true, false, ◌&&◌, List, [], ◌∷◌, ◌++◌, map, length, Some, refl, sym, ap, subst, ◌∙◌, arith}
use Rattle.std.specs.Prelude.{◌==◌, if◌then◌else◌, unwrap_or, slice_get}
use Rattle.std.specs.List.{flat_map, range_with_len}
use Rattle.std.proofs.lemmas.Bool.{eqb-true}
use Rattle.qz_syntax.specs.declared.declarations.Dir.TheVariants as dir
use Rattle.qz_syntax.specs.declared.expressions.Var.{Var}
use Rattle.qz_syntax.specs.declared.expressions.Var.TheVariants as var
use Rattle.qz_syntax.specs.declared.places.Mark.{Mark}
use Rattle.qz_syntax.specs.declared.places.Mark.TheVariants as mark
use Rattle.qz_syntax.specs.declared.modules.Module.{Module}
use Rattle.qz_syntax.specs.Marks.{loops_round, marks_of_local}
use Rattle.qz_syntax.specs.WellFormed.{IsNumbered}
use Rattle.qz_meaning.specs.Instances.{Instance, is_same_mark, is_same_instance, formal_instance, local_instance}
use Rattle.qz_meaning.specs.Programs.{times, formals_of, instances_of, program_of, HasOwnNumbers}
use Rattle.qz_meaning.proofs.Lists.{none≢some, some_same}
use Rattle.qz_meaning.proofs.MetOnce.{one_most}
use Rattle.qz_meaning.proofs.Orderly.{instance_self, range_once, own_numbers}
use Rattle.qz_interp.specs.Numbering.{AreDistinct}
use Rattle.qz_interp.proofs.LoopsRound.{round_within}

-- how often an instance stands in a list
abbrev pub instance_times : Instance → List Instance → ℕ
instance_times i [] = 0
instance_times i (x ∷ xs) = (if is_same_instance x i then 1 else 0) + instance_times i xs

instance_times-append : (i : Instance) (xs ys : List Instance) → instance_times i (xs ++ ys) ≡ instance_times i xs + instance_times i ys
instance_times-append i [] ys = let e : instance_times i ys ≡ 0 + instance_times i ys = omega arith in e
instance_times-append i (x ∷ xs) ys = let more = instance_times-append i xs ys in omega (arith, more)

one_if : (b : Bool) → b ≡ true → ◌≡◌ {A = ℕ} (if b then 1 else 0) 1
one_if true h = refl
one_if false h = cc

-- what stands at a place stands there once at least
stands : (xs : List Instance) (k : ℕ) (a i : Instance) → slice_get xs k ≡ Some a → is_same_instance a i ≡ true → 1 ≤ instance_times i xs
stands [] k a i h same = absurd (none≢some _ h)
stands (x ∷ xs) zero a i h same =
    let here : is_same_instance x i ≡ true = subst (λ (y : Instance). is_same_instance y i ≡ true) (sym (some_same x a h)) same in
    let one = one_if (is_same_instance x i) here in omega (arith, one)
stands (x ∷ xs) (suc k) a i h same = let more = stands xs k a i h same in omega (arith, more)

-- where each instance stands once at most, none stands at two places
pub once_distinct : (xs : List Instance) → ((i : Instance) → instance_times i xs ≤ 1) → AreDistinct xs
once_distinct [] most j k a b at_j at_k same = absurd (none≢some _ at_j)
once_distinct (x ∷ xs) most zero zero a b at_j at_k same = refl
once_distinct (x ∷ xs) most zero (suc k) a b at_j at_k same =
    let here : is_same_instance x b ≡ true = subst (λ (y : Instance). is_same_instance y b ≡ true) (sym (some_same x a at_j)) same in
    let one = one_if (is_same_instance x b) here in
    let more = stands xs k b b at_k (instance_self b) in
    let all = most b in absurd (omega (arith, one, more, all))
once_distinct (x ∷ xs) most (suc j) zero a b at_j at_k same =
    let here : is_same_instance x b ≡ true = subst (λ (y : Instance). is_same_instance y b ≡ true) (sym (some_same x b at_k)) (instance_self b) in
    let one = one_if (is_same_instance x b) here in
    let more = stands xs j a b at_j same in
    let all = most b in absurd (omega (arith, one, more, all))
once_distinct (x ∷ xs) most (suc j) (suc k) a b at_j at_k same =
    ap suc (once_distinct xs (λ i. let all = most i in omega (arith, all)) j k a b at_j at_k same)

-- outputs
outputs_most : (n : ℕ) (m : Mark) (outputs : List ℕ) → instance_times record { variable = var.Formal n; mark = m } (map formal_instance outputs) ≤ times n outputs
outputs_most n m [] = omega arith
outputs_most n m (x ∷ xs) =
    let one = one_most (x == n) (is_same_mark mark.Zero m) in let more = outputs_most n m xs in omega (arith, one, more)

outputs_no_local : (n : ℕ) (m : Mark) (outputs : List ℕ) → instance_times record { variable = var.Local n; mark = m } (map formal_instance outputs) ≡ 0
outputs_no_local n m [] = refl
outputs_no_local n m (x ∷ xs) = let more = outputs_no_local n m xs in omega (arith, more)

outputs_no_bound : (n : ℕ) (m : Mark) (outputs : List ℕ) → instance_times record { variable = var.Bound n; mark = m } (map formal_instance outputs) ≡ 0
outputs_no_bound n m [] = refl
outputs_no_bound n m (x ∷ xs) = let more = outputs_no_bound n m xs in omega (arith, more)

-- the marks of a local
abbrev mark_times : Mark → List Mark → ℕ
mark_times m [] = 0
mark_times m (x ∷ xs) = (if is_same_mark x m then 1 else 0) + mark_times m xs

loop_marks : (q : ℕ) (loops : List ℕ) → mark_times (mark.Loop q) (map mark.Loop loops) ≡ times q loops
loop_marks q [] = refl
loop_marks q (x ∷ xs) = ap (λ n. (if x == q then 1 else 0) + n) (loop_marks q xs)

no_here : (loops : List ℕ) → mark_times mark.Here (map mark.Loop loops) ≡ 0
no_here [] = refl
no_here (x ∷ xs) = let more = no_here xs in omega (arith, more)

no_zero : (loops : List ℕ) → mark_times mark.Zero (map mark.Loop loops) ≡ 0
no_zero [] = refl
no_zero (x ∷ xs) = let more = no_zero xs in omega (arith, more)

marks_most : (m : Mark) (loops : List ℕ) → ((q : ℕ) → times q loops ≤ 1) → mark_times m (mark.Zero ∷ map mark.Loop loops) ≤ 1
marks_most mark.Here loops most = let none = no_here loops in omega (arith, none)
marks_most mark.Zero loops most = let none = no_zero loops in omega (arith, none)
marks_most (mark.Loop q) loops most = let same = loop_marks q loops in let one = most q in omega (arith, same, one)

-- the instances of one local
and_marks : (b c : Bool) → b ≡ true → ◌≡◌ {A = ℕ} (if b && c then 1 else 0) (if c then 1 else 0)
and_marks true c h = refl
and_marks false c h = cc

and_none : (b c : Bool) → b ≡ false → ◌≡◌ {A = ℕ} (if b && c then 1 else 0) 0
and_none true c h = cc
and_none false c h = refl

own_marks : (k n : ℕ) (m : Mark) → (k == n) ≡ true → (marks : List Mark)
    → instance_times record { variable = var.Local n; mark = m } (map (local_instance k) marks) ≡ mark_times m marks
own_marks k n m e [] = refl
own_marks k n m e (x ∷ xs) =
    let one = and_marks (k == n) (is_same_mark x m) e in let more = own_marks k n m e xs in omega (arith, one, more)

other_marks : (k n : ℕ) (m : Mark) → (k == n) ≡ false → (marks : List Mark)
    → instance_times record { variable = var.Local n; mark = m } (map (local_instance k) marks) ≡ 0
other_marks k n m e [] = refl
other_marks k n m e (x ∷ xs) =
    let one = and_none (k == n) (is_same_mark x m) e in let more = other_marks k n m e xs in omega (arith, one, more)

-- no local is a formal or a bound argument
no_formal : (n k : ℕ) (m : Mark) (marks : List Mark) → instance_times record { variable = var.Formal n; mark = m } (map (local_instance k) marks) ≡ 0
no_formal n k m [] = refl
no_formal n k m (x ∷ xs) = let more = no_formal n k m xs in omega (arith, more)

no_bound : (n k : ℕ) (m : Mark) (marks : List Mark) → instance_times record { variable = var.Bound n; mark = m } (map (local_instance k) marks) ≡ 0
no_bound n k m [] = refl
no_bound n k m (x ∷ xs) = let more = no_bound n k m xs in omega (arith, more)

module _ (marks_of : ℕ → List Mark) where
  -- the instances of some locals
  abbrev locals_at : List ℕ → List Instance
  locals_at locals = flat_map (λ n. map (local_instance n) (marks_of n)) locals

  locals_no_formal : (n : ℕ) (m : Mark) (locals : List ℕ) → instance_times record { variable = var.Formal n; mark = m } (locals_at locals) ≡ 0
  locals_no_formal n m [] = refl
  locals_no_formal n m (k ∷ ks) =
      let both = instance_times-append record { variable = var.Formal n; mark = m } (map (local_instance k) (marks_of k)) (locals_at ks) in
      let one = no_formal n k m (marks_of k) in let more = locals_no_formal n m ks in omega (arith, both, one, more)

  locals_no_bound : (n : ℕ) (m : Mark) (locals : List ℕ) → instance_times record { variable = var.Bound n; mark = m } (locals_at locals) ≡ 0
  locals_no_bound n m [] = refl
  locals_no_bound n m (k ∷ ks) =
      let both = instance_times-append record { variable = var.Bound n; mark = m } (map (local_instance k) (marks_of k)) (locals_at ks) in
      let one = no_bound n k m (marks_of k) in let more = locals_no_bound n m ks in omega (arith, both, one, more)

  locals_most : (n : ℕ) (m : Mark) → mark_times m (marks_of n) ≤ 1 → (locals : List ℕ)
      → instance_times record { variable = var.Local n; mark = m } (locals_at locals) ≤ times n locals
  locals_most n m most [] = omega arith
  locals_most n m most (k ∷ ks) =
      let i : Instance = record { variable = var.Local n; mark = m } in
      let both = instance_times-append i (map (local_instance k) (marks_of k)) (locals_at ks) in
      let more = locals_most n m most ks in
      let one = own_most (k == n) refl in omega (arith, both, one, more)
    where
      own_most : (b : Bool) → (k == n) ≡ b
          → instance_times record { variable = var.Local n; mark = m } (map (local_instance k) (marks_of k)) ≤ (if k == n then 1 else 0)
      own_most true e =
          let is : k ≡ n = eqb-true k n e in
          let same : marks_of k ≡ marks_of n = ap marks_of is in
          let all = own_marks k n m e (marks_of k) ∙ ap (mark_times m) same in
          let here = one_if (k == n) e in omega (arith, all, most, here)
      own_most false e = let none = other_marks k n m e (marks_of k) in omega (arith, none)

module _ (m : Module) (numbered : IsNumbered m) where
  own : HasOwnNumbers (program_of m)
  own = own_numbers m numbered

  once : (i : Instance) → instance_times i (instances_of m) ≤ 1
  once i = by_variable i.variable i.mark where
    by_variable : (x : Var) (k : Mark) → instance_times record { variable = x; mark = k } (instances_of m) ≤ 1
    by_variable (var.Formal n) k =
        let both = instance_times-append record { variable = var.Formal n; mark = k } (map formal_instance (formals_of dir.Out m)) (locals_at (marks_of_local m) (range_with_len 0 (length m.decls))) in
        let one = outputs_most n k (formals_of dir.Out m) in
        let none = locals_no_formal (marks_of_local m) n k (range_with_len 0 (length m.decls)) in
        let most = own.formals n in omega (arith, both, one, none, most)
    by_variable (var.Local n) k =
        let both = instance_times-append record { variable = var.Local n; mark = k } (map formal_instance (formals_of dir.Out m)) (locals_at (marks_of_local m) (range_with_len 0 (length m.decls))) in
        let none = outputs_no_local n k (formals_of dir.Out m) in
        let marks = marks_most k (unwrap_or (loops_round n m.body) []) (λ q. let in_body = round_within n m.body q in let most = own.loops q in omega (arith, in_body, most)) in
        let one = locals_most (marks_of_local m) n k marks (range_with_len 0 (length m.decls)) in
        let most = (range_once n 0 (length m.decls)).0 in omega (arith, both, one, none, most)
    by_variable (var.Bound n) k =
        let both = instance_times-append record { variable = var.Bound n; mark = k } (map formal_instance (formals_of dir.Out m)) (locals_at (marks_of_local m) (range_with_len 0 (length m.decls))) in
        let one = outputs_no_bound n k (formals_of dir.Out m) in
        let none = locals_no_bound (marks_of_local m) n k (range_with_len 0 (length m.decls)) in omega (arith, both, one, none)

  pub instances_distinct : AreDistinct (instances_of m)
  instances_distinct = once_distinct (instances_of m) once

  -- a formal among the instances is an output
  pub formal_stands : (k n : ℕ) (mark : Mark) → slice_get (instances_of m) k ≡ Some (record { variable = var.Formal n; mark = mark }) → 1 ≤ times n (formals_of dir.Out m)
  formal_stands k n mark h =
      let i : Instance = record { variable = var.Formal n; mark = mark } in
      let there = stands (instances_of m) k i i h (instance_self i) in
      let both = instance_times-append i (map formal_instance (formals_of dir.Out m)) (locals_at (marks_of_local m) (range_with_len 0 (length m.decls))) in
      let one = outputs_most n mark (formals_of dir.Out m) in
      let none = locals_no_formal (marks_of_local m) n mark (range_with_len 0 (length m.decls)) in omega (arith, there, both, one, none)
