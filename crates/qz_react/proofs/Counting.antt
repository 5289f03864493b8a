-- Lists of numbers and instances, one by one.
use Rattle.std.proofs.Common.{◌≡◌, ℕ, zero, suc, ◌+◌, Bool, true, false, List, [], ◌∷◌, ◌++◌, map, flat_map, refl, sym, ap, ◌∙◌, append_assoc, append-nil, add-zero, add-one, zero-add, arith}
use Rattle.std.specs.Prelude.{if◌then◌else◌}
use Rattle.std.specs.List.{range_with_len}
use Rattle.qz_syntax.specs.declared.declarations.Dir.{Dir}
use Rattle.qz_syntax.specs.declared.declarations.Dir.TheVariants as dir
use Rattle.qz_syntax.specs.declared.declarations.Formal.{Formal}
use Rattle.qz_syntax.specs.declared.modules.Module.{Module}
use Rattle.qz_syntax.specs.Marks.{marks_of_local}
use Rattle.qz_meaning.specs.Instances.{Instance, local_instance, formal_instance}
use Rattle.qz_meaning.specs.Programs.{numbers_in, is_same_direction}

chosen : {A : Type 0} (b : Bool) (x : A) (xs ys : List A) → (xs ++ (if b then x ∷ [] else [])) ++ ys ≡ xs ++ (if b then x ∷ ys else ys)
chosen true x xs ys = append_assoc xs (x ∷ []) ys
chosen false x xs ys = ap (λ zs. zs ++ ys) (append-nil xs)

pub input_more : (before after all : List ℕ) (n : ℕ) (formal : Formal) (formals : List Formal)
    → after ≡ before ++ (if is_same_direction formal.dir dir.In then n ∷ [] else [])
    → before ++ numbers_in dir.In n (formal ∷ formals) ≡ all → after ++ numbers_in dir.In (n + 1) formals ≡ all
input_more before after all n formal formals e h =
    ap (λ xs. xs ++ numbers_in dir.In (n + 1) formals) e
    ∙ chosen (is_same_direction formal.dir dir.In) n before (numbers_in dir.In (n + 1) formals) ∙ h

map_chosen : (b : Bool) (n : ℕ) (xs : List Instance) (ys : List ℕ)
    → (xs ++ map formal_instance (if b then n ∷ [] else [])) ++ map formal_instance ys ≡ xs ++ map formal_instance (if b then n ∷ ys else ys)
map_chosen true n xs ys = append_assoc xs (formal_instance n ∷ []) (map formal_instance ys)
map_chosen false n xs ys = ap (λ zs. zs ++ map formal_instance ys) (append-nil xs)

pub output_more : (before after all : List Instance) (n : ℕ) (formal : Formal) (formals : List Formal)
    → after ≡ before ++ map formal_instance (if is_same_direction formal.dir dir.Out then n ∷ [] else [])
    → before ++ map formal_instance (numbers_in dir.Out n (formal ∷ formals)) ≡ all
    → after ++ map formal_instance (numbers_in dir.Out (n + 1) formals) ≡ all
output_more before after all n formal formals e h =
    ap (λ xs. xs ++ map formal_instance (numbers_in dir.Out (n + 1) formals)) e
    ∙ map_chosen (is_same_direction formal.dir dir.Out) n before (numbers_in dir.Out (n + 1) formals) ∙ h

range_longer : (from n : ℕ) → range_with_len from (suc n) ≡ range_with_len from n ++ (from + n) ∷ []
range_longer from zero = rw add-zero refl
range_longer from (suc n) =
    let e : from + 1 + n ≡ from + suc n = omega arith in
    ap (λ xs. from ∷ xs) (range_longer (from + 1) n ∙ ap (λ k. range_with_len (from + 1) n ++ k ∷ []) e)

flat_longer : (f : ℕ → List Instance) (xs : List ℕ) (n : ℕ) → flat_map f (xs ++ n ∷ []) ≡ flat_map f xs ++ f n
flat_longer f [] n = append-nil (f n)
flat_longer f (x ∷ xs) n = ap (λ ys. f x ++ ys) (flat_longer f xs n) ∙ sym (append_assoc (f x) (flat_map f xs) (f n))

-- the instances of the locals up to this one
abbrev pub of_locals : Module → ℕ → List Instance
of_locals m n = flat_map (λ k. map (local_instance k) (marks_of_local m k)) (range_with_len 0 n)

pub one_local_more : (m : Module) (outputs before after : List Instance) (n : ℕ) → before ≡ outputs ++ of_locals m n
    → after ≡ before ++ map (local_instance n) (marks_of_local m n) → after ≡ outputs ++ of_locals m (n + 1)
one_local_more m outputs before after n h e =
    let f = λ (k : ℕ). map (local_instance k) (marks_of_local m k) in
    let longer : range_with_len 0 (n + 1) ≡ range_with_len 0 n ++ n ∷ [] = rw add-one (range_longer 0 n ∙ ap (λ k. range_with_len 0 n ++ k ∷ []) (zero-add n)) in
    e ∙ ap (λ xs. xs ++ f n) h ∙ append_assoc outputs (of_locals m n) (f n)
    ∙ ap (λ xs. outputs ++ xs) (sym (ap (flat_map f) longer ∙ flat_longer f (range_with_len 0 n) n))
