-- Lists of what passes a test, one by one.
use Rattle.std.proofs.Common.{◌≡◌, ℕ, zero, suc, ◌+◌, Bool, true, false, List, [], ◌∷◌, ◌++◌, map, refl, sym, ap, ◌∙◌, append_assoc, append-nil, add-zero, add-one, zero-add, arith}
use Rattle.std.specs.Prelude.{if◌then◌else◌}
use Rattle.std.specs.List.{range_with_len}
use Rattle.std.proofs.lemmas.Simd.{map-map}
use Rattle.qz_syntax.specs.declared.declarations.Dir.{Dir}
use Rattle.qz_syntax.specs.declared.declarations.Formal.{Formal}
use Rattle.qz_syntax.specs.declared.declarations.Port.{Port}
use Rattle.qz_syntax.specs.declared.expressions.Var.{Var}
use Rattle.qz_syntax.specs.declared.expressions.Var.TheVariants as var
use Rattle.qz_meaning.specs.Instances.{Instance, formal_instance}
use Rattle.qz_meaning.specs.Programs.{numbers_in, is_same_direction}
use Rattle.qz_react.specs.declared.instances.Instance.{Instance as Named}
use Rattle.qz_react.specs.Seeing.{instance_of}
use Rattle.qz_closing.specs.ProgramParts.{port_of, ports_in}

chosen : {A : Type 0} (b : Bool) (x : A) (xs ys : List A) → (xs ++ (if b then x ∷ [] else [])) ++ ys ≡ xs ++ (if b then x ∷ ys else ys)
chosen true x xs ys = append_assoc xs (x ∷ []) ys
chosen false x xs ys = ap (λ zs. zs ++ ys) (append-nil xs)

pub port_more : (side : Dir) (before after all : List Port) (formal : Formal) (formals : List Formal)
    → after ≡ before ++ (if is_same_direction formal.dir side then port_of formal ∷ [] else [])
    → before ++ ports_in side (formal ∷ formals) ≡ all → after ++ ports_in side formals ≡ all
port_more side before after all formal formals e h =
    ap (λ xs. xs ++ ports_in side formals) e
    ∙ chosen (is_same_direction formal.dir side) (port_of formal) before (ports_in side formals) ∙ h

mapped : (b : Bool) (n : ℕ) (xs : List Instance) (ys : List ℕ)
    → (xs ++ map formal_instance (if b then n ∷ [] else [])) ++ map formal_instance ys ≡ xs ++ map formal_instance (if b then n ∷ ys else ys)
mapped true n xs ys = append_assoc xs (formal_instance n ∷ []) (map formal_instance ys)
mapped false n xs ys = ap (λ zs. zs ++ map formal_instance ys) (append-nil xs)

pub formal_more : (side : Dir) (before after all : List Instance) (n : ℕ) (formal : Formal) (formals : List Formal)
    → after ≡ before ++ map formal_instance (if is_same_direction formal.dir side then n ∷ [] else [])
    → before ++ map formal_instance (numbers_in side n (formal ∷ formals)) ≡ all
    → after ++ map formal_instance (numbers_in side (n + 1) formals) ≡ all
formal_more side before after all n formal formals e h =
    ap (λ xs. xs ++ map formal_instance (numbers_in side (n + 1) formals)) e
    ∙ mapped (is_same_direction formal.dir side) n before (numbers_in side (n + 1) formals) ∙ h

range_longer : (from n : ℕ) → range_with_len from (suc n) ≡ range_with_len from n ++ (from + n) ∷ []
range_longer from zero = rw add-zero refl
range_longer from (suc n) =
    let e : from + 1 + n ≡ from + suc n = omega arith in
    ap (λ xs. from ∷ xs) (range_longer (from + 1) n ∙ ap (λ k. range_with_len (from + 1) n ++ k ∷ []) e)

map-append_one : (xs : List ℕ) (n : ℕ) → map var.Local (xs ++ n ∷ []) ≡ map var.Local xs ++ var.Local n ∷ []
map-append_one [] n = refl
map-append_one (x ∷ xs) n = ap (λ ys. var.Local x ∷ ys) (map-append_one xs n)

pub local_more : (before now after : List Var) (n : ℕ) → now ≡ before ++ map var.Local (range_with_len 0 n) → after ≡ now ++ var.Local n ∷ []
    → after ≡ before ++ map var.Local (range_with_len 0 (n + 1))
local_more before now after n h e =
    let longer : range_with_len 0 (n + 1) ≡ range_with_len 0 n ++ n ∷ [] = rw add-one (range_longer 0 n ∙ ap (λ k. range_with_len 0 n ++ k ∷ []) (zero-add n)) in
    e ∙ ap (λ xs. xs ++ var.Local n ∷ []) h ∙ append_assoc before (map var.Local (range_with_len 0 n)) (var.Local n ∷ [])
    ∙ ap (λ xs. before ++ xs) (sym (ap (map var.Local) longer ∙ map-append_one (range_with_len 0 n) n))

-- the variables of outputs, which were found as instances
pub variables_of_outputs : (all : List Named) (numbers : List ℕ) → map instance_of all ≡ map formal_instance numbers
    → map (λ (i : Named). i.variable) all ≡ map var.Formal numbers
variables_of_outputs all numbers h =
    sym (map-map (λ (i : Instance). i.variable) instance_of all) ∙ ap (map (λ (i : Instance). i.variable)) h
    ∙ map-map (λ (i : Instance). i.variable) formal_instance numbers

-- what is made of each instance of a program
pub of_instances : {A : Type 0} (f : Instance → A) (all : List Named) (instances : List Instance) → map instance_of all ≡ instances
    → map (λ (i : Named). f (instance_of i)) all ≡ map f instances
of_instances f all instances h = sym (map-map f instance_of all) ∙ ap (map f) h
