-- The first place of an instance in a list.
use Rattle.std.proofs.Common.{◌≡◌, ℕ, ◌+◌, Bool, true, false, ◌&&◌, List, [], ◌∷◌, map, length, Option, Some, None, refl, sym, ap, ◌∙◌, arith}
use Rattle.std.specs.Prelude.{◌==◌, ◌||◌, if◌then◌else◌, unwrap_or}
use Rattle.std.specs.Option.{option_map_or}
use Rattle.qz_syntax.specs.declared.declarations.Dir.TheVariants as dir
use Rattle.qz_syntax.specs.declared.expressions.Var.{Var}
use Rattle.qz_syntax.specs.declared.expressions.Var.TheVariants as var
use Rattle.qz_syntax.specs.declared.modules.Module.{Module}
use Rattle.qz_syntax.specs.Numbers.{contains}
use Rattle.qz_meaning.specs.Instances.{Instance, is_same_instance, formal_instance}
use Rattle.qz_meaning.specs.Programs.{formals_of}
use Rattle.qz_meaning.proofs.Lists.{none≢some}
use Rattle.qz_system.specs.declared.parts.SystemLeaf.{SystemLeaf}
use Rattle.qz_system.specs.declared.parts.SystemLeaf.TheVariants as leaf
use Rattle.qz_closing.specs.ProgramParts.{place_of, cell_number}
use Rattle.qz_single.specs.Numbering.{place_among, instance_place, formal_leaf}
use Rattle.qz_single.specs.Numbered.{place_from}

abbrev or_count : ℕ → Option ℕ → ℕ
or_count count place = option_map_or (λ (n : ℕ). n) place count

-- the place, or how many there are
counted : (k : ℕ) (i : Instance) (xs : List Instance) → or_count (k + length xs) (place_from k i xs) ≡ k + place_among i xs
counted k i [] = refl
counted k i (x ∷ xs) = by (is_same_instance x i) (counted (k + 1) i xs)
  where
    by : (same : Bool) → or_count (k + 1 + length xs) (place_from (k + 1) i xs) ≡ k + 1 + place_among i xs
        → or_count (k + length (x ∷ xs)) (if same then Some k else place_from (k + 1) i xs) ≡ k + (if same then 0 else place_among i xs + 1)
    by true h = omega arith
    by false h =
        let e : k + length (x ∷ xs) ≡ k + 1 + length xs = omega arith in
        let f : k + 1 + place_among i xs ≡ k + (place_among i xs + 1) = omega arith in
        ap (λ count. or_count count (place_from (k + 1) i xs)) e ∙ h ∙ f

number_is : (i : Instance) (xs : List Instance) (count : ℕ) → count ≡ length xs → or_count count (place_from 0 i xs) ≡ place_among i xs
number_is i xs count h =
    let e : count ≡ 0 + length xs = omega (arith, h) in
    let f : 0 + place_among i xs ≡ place_among i xs = omega arith in
    ap (λ n. or_count n (place_from 0 i xs)) e ∙ counted 0 i xs ∙ f

pub number_of : (i : Instance) (xs : List Instance) (count : ℕ) (place : Option ℕ) → count ≡ length xs → place ≡ place_from 0 i xs → or_count count place ≡ place_among i xs
number_of i xs count place h e = ap (λ p. or_count count p) e ∙ number_is i xs count h

-- the place of a number, if it is among these
abbrev place_if : ℕ → ℕ → List ℕ → Option ℕ
place_if k n xs = if contains xs n then Some (k + place_of n xs) else None

formal_from : (k n : ℕ) (xs : List ℕ) → place_from k (formal_instance n) (map formal_instance xs) ≡ place_if k n xs
formal_from k n [] = refl
formal_from k n (x ∷ xs) = by (x == n) (formal_from (k + 1) n xs)
  where
    further : (b : Bool) → (if b then Some (k + 1 + place_of n xs) else None) ≡ (if b then Some (k + (place_of n xs + 1)) else None)
    further true = let e : k + 1 + place_of n xs ≡ k + (place_of n xs + 1) = omega arith in ap (λ (p : ℕ). Some p) e
    further false = refl

    by : (same : Bool) → place_from (k + 1) (formal_instance n) (map formal_instance xs) ≡ place_if (k + 1) n xs
        → (if same && true then Some k else place_from (k + 1) (formal_instance n) (map formal_instance xs))
        ≡ (if same || contains xs n then Some (k + (if same then 0 else place_of n xs + 1)) else None)
    by true h = let e : k ≡ k + 0 = omega arith in ap (λ (p : ℕ). Some p) e
    by false h = h ∙ further (contains xs n)

formal_place : (n : ℕ) (xs : List ℕ) → place_from 0 (formal_instance n) (map formal_instance xs) ≡ (if contains xs n then Some (place_of n xs) else None)
formal_place n xs = formal_from 0 n xs ∙ by (contains xs n)
  where
    by : (b : Bool) → (if b then Some (0 + place_of n xs) else None) ≡ (if b then Some (place_of n xs) else None)
    by true = let e : 0 + place_of n xs ≡ place_of n xs = omega arith in ap (λ (p : ℕ). Some p) e
    by false = refl

pub formal_among : (n : ℕ) (xs : List ℕ) → place_among (formal_instance n) (map formal_instance xs) ≡ place_of n xs
formal_among n [] = refl
formal_among n (x ∷ xs) = by (x == n) (formal_among n xs)
  where
    by : (same : Bool) → place_among (formal_instance n) (map formal_instance xs) ≡ place_of n xs
        → (if same && true then 0 else place_among (formal_instance n) (map formal_instance xs) + 1) ≡ (if same then 0 else place_of n xs + 1)
    by true h = refl
    by false h = ap (λ p. p + 1) h

found_input : (b : Bool) (input place : ℕ) (other : SystemLeaf) → Some input ≡ (if b then Some place else None) → leaf.Input input ≡ (if b then leaf.Input place else other)
found_input true input place other h = ap (λ o. leaf.Input (unwrap_or o input)) h
found_input false input place other h = absurd (none≢some _ (sym h))

found_none : (b : Bool) (place : ℕ) (one other : SystemLeaf) → None ≡ (if b then Some place else None) → one ≡ other → one ≡ (if b then leaf.Input place else other)
found_none true place one other h e = absurd (none≢some _ h)
found_none false place one other h e = e

module _ (m : Module) (n : ℕ) (i : Instance) (is : i ≡ formal_instance n) where
  abbrev inputs : List ℕ
  inputs = formals_of dir.In m

  at_place : (place : Option ℕ) → place ≡ place_from 0 i (map formal_instance inputs) → place ≡ (if contains inputs n then Some (place_of n inputs) else None)
  at_place place h = h ∙ ap (λ j. place_from 0 j (map formal_instance inputs)) is ∙ formal_place n inputs

  pub input_leaf : (input : ℕ) → Some input ≡ place_from 0 i (map formal_instance inputs) → leaf.Input input ≡ formal_leaf m n
  input_leaf input h = found_input (contains inputs n) input (place_of n inputs) (leaf.Now (instance_place m (formal_instance n))) (at_place (Some input) h)

  pub output_leaf : (number : ℕ) → None ≡ place_from 0 i (map formal_instance inputs) → number ≡ instance_place m (formal_instance n) → leaf.Now number ≡ formal_leaf m n
  output_leaf number h e =
      found_none (contains inputs n) (place_of n inputs) (leaf.Now number) (leaf.Now (instance_place m (formal_instance n))) (at_place None h) (ap (λ (k : ℕ). leaf.Now k) e)

  pub output_cell : (number : ℕ) (x : Var) → number ≡ place_among i (map formal_instance (formals_of dir.Out m)) → x ≡ var.Formal n → number ≡ cell_number m x
  output_cell number x h e =
      h ∙ ap (λ j. place_among j (map formal_instance (formals_of dir.Out m))) is ∙ formal_among n (formals_of dir.Out m) ∙ ap (cell_number m) (sym e)
