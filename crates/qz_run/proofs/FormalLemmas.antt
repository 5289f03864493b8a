-- The types of a module's formals, and rows of its inputs.
use Rattle.std.proofs.Common.{◌≡◌, ◌<◌, ◌^◌, ℕ, zero, suc, ◌+◌, Bool, true, false, List, [], ◌∷◌, ◌++◌, map, length, get_or, drop, Option, Some, Result, Ok, Err, IfOk, Vec, refl, sym, ap, ap₂, subst, ◌∙◌, append_assoc, arith}
use Rattle.std.specs.Prelude.{if◌then◌else◌, slice_get, nat_lt, nat_le, ◌≤◌, ◌&&◌}
use Rattle.std.specs.declared.alloc.Global.{Global}
use Rattle.std.specs.declared.alloc.AllocError.{AllocError}
use Rattle.std.specs.Option.{option_map_or}
use Rattle.std.proofs.lemmas.List.{length-map}
use Rattle.std.specs.List.{AllByRecursion}
use Rattle.std.proofs.lemmas.Bool.{and_parts}
use Rattle.std.proofs.lemmas.Bool.Decides.{nat_tests}
use Rattle.qz_values.specs.declared.Ty.{Ty}
use Rattle.qz_values.specs.declared.Ty.TheVariants as ty
use Rattle.qz_values.specs.declared.Value.{Value}
use Rattle.qz_values.specs.Values.{value_of, IsValue}
use Rattle.qz_values.specs.Types.{IsType, is_type, is_same_type, width_of}
use Rattle.qz_syntax.specs.declared.declarations.Dir.{Dir}
use Rattle.qz_syntax.specs.declared.declarations.Dir.TheVariants as dir
use Rattle.qz_syntax.specs.declared.declarations.Formal.{Formal}
use Rattle.qz_syntax.specs.declared.expressions.Var.TheVariants as var
use Rattle.qz_syntax.specs.declared.modules.Module.{Module}
use Rattle.qz_syntax.specs.WellFormed.{have_types, IsWellFormed}
use Rattle.qz_meaning.specs.Programs.{Program, program_of, formals_of, numbers_in, is_same_direction, type_in}
use Rattle.qz_meaning.specs.Configurations.{are_inputs}
use Rattle.qz_trace.specs.Rows.{IsRow}
use Rattle.qz_run.specs.Inputs.{input_types, types_of, values_of}

-- the types of the formals of one direction are those of their numbers
types_stand : (side : Dir) (f : ℕ → Ty) (k : ℕ) (formals : List Formal) → ((j : ℕ) (formal : Formal) → slice_get formals j ≡ Some formal → f (k + j) ≡ formal.ty)
    → types_of side formals ≡ map f (numbers_in side k formals)
types_stand side f k [] stands = refl
types_stand side f k (formal ∷ formals) stands =
    by_direction (is_same_direction formal.dir side) (types_stand side f (k + 1) formals later_ones)
  where
    later_ones : (j : ℕ) (other : Formal) → slice_get formals j ≡ Some other → f ((k + 1) + j) ≡ other.ty
    later_ones j other h = let next : k + suc j ≡ (k + 1) + j = omega arith in subst (λ q. f q ≡ other.ty) next (stands (suc j) other h)

    here : f k ≡ formal.ty
    here = let none : k + 0 ≡ k = omega arith in subst (λ q. f q ≡ formal.ty) none (stands 0 formal refl)

    by_direction : (b : Bool) → types_of side formals ≡ map f (numbers_in side (k + 1) formals)
        → (if b then formal.ty ∷ types_of side formals else types_of side formals)
        ≡ map f (if b then k ∷ numbers_in side (k + 1) formals else numbers_in side (k + 1) formals)
    by_direction true rest = ap₂ (λ (x : Ty) (xs : List Ty). x ∷ xs) (sym here) rest
    by_direction false rest = rest

pub types_told : (side : Dir) (m : Module) → types_of side m.formals ≡ map (λ n. type_in m (var.Formal n)) (formals_of side m)
types_told side m = types_stand side (λ n. type_in m (var.Formal n)) 0 m.formals stands where
  stands : (j : ℕ) (formal : Formal) → slice_get m.formals j ≡ Some formal → type_in m (var.Formal (0 + j)) ≡ formal.ty
  stands j formal h =
      let none : 0 + j ≡ j = omega arith in
      ap (λ n. type_in m (var.Formal n)) none ∙ ap (λ (found : Option Formal). option_map_or (λ (one : Formal). one.ty) found ty.Bool) h

-- the same of what was collected, or of want of memory
pub input_types_told : (m : Module) (formals : List Formal) (r : Result (Vec Ty Global) AllocError) → formals ≡ m.formals → IfOk r (λ types. types.items ≡ types_of dir.In formals)
    → IfOk r (λ types. types.items ≡ input_types (program_of m))
input_types_told m formals (Ok types) same told = told ∙ ap (types_of dir.In) same ∙ types_told dir.In m
input_types_told m formals (Err fault) same told = tt

pub output_count_told : (m : Module) (formals : List Formal) (types : List Ty) → formals ≡ m.formals → types ≡ types_of dir.Out formals → length types ≡ length (program_of m).outputs
output_count_told m formals types same told =
    ap length (told ∙ ap (types_of dir.Out) same ∙ types_told dir.Out m) ∙ length-map (formals_of dir.Out m) (λ n. type_in m (var.Formal n))

-- one formal more
pub types_more : (side : Dir) (before after all : List Ty) (formal : Formal) (formals : List Formal)
    → after ≡ before ++ (if is_same_direction formal.dir side then formal.ty ∷ [] else [])
    → before ++ types_of side (formal ∷ formals) ≡ all → after ++ types_of side formals ≡ all
types_more side before after all formal formals e h =
    ap (λ xs. xs ++ types_of side formals) e ∙ chosen (is_same_direction formal.dir side) ∙ h
  where
    chosen : (b : Bool) → (before ++ (if b then formal.ty ∷ [] else [])) ++ types_of side formals ≡ before ++ (if b then formal.ty ∷ types_of side formals else types_of side formals)
    chosen true = append_assoc before (formal.ty ∷ []) (types_of side formals)
    chosen false = append_assoc before [] (types_of side formals)

is_a_type : (t : Ty) → is_type t ≡ true → IsType t
is_a_type t h =
    let two = and_parts (nat_le 1 (width_of t)) (nat_le (width_of t) 64) h in
    record { at_least_1 = least 1 (width_of t) two.0; at_most_64 = least (width_of t) 64 two.1 }
  where
    least : (a b : ℕ) → nat_le a b ≡ true → a ≤ b
    least a b it = grind (arith, nat_tests)

-- the types of well-formed formals are types
pub formal_types : (side : Dir) (formals : List Formal) → have_types formals ≡ true → AllByRecursion IsType (types_of side formals)
formal_types side [] h = tt
formal_types side (formal ∷ formals) h =
    let two = and_parts (is_type formal.ty) (have_types formals) h in
    by_direction (is_same_direction formal.dir side) (is_a_type formal.ty two.0) (formal_types side formals two.1)
  where
    by_direction : (b : Bool) → IsType formal.ty → AllByRecursion IsType (types_of side formals)
        → AllByRecursion IsType (if b then formal.ty ∷ types_of side formals else types_of side formals)
    by_direction true here rest = (here, rest)
    by_direction false here rest = rest

-- and so are those of a well-formed module's inputs
pub inputs_typed : (m : Module) (types : List Ty) → IsWellFormed [] m → types ≡ input_types (program_of m) → AllByRecursion IsType types
inputs_typed m types well same = subst (AllByRecursion IsType) (types_told dir.In m ∙ sym same) (formal_types dir.In m.formals well.formal_types)

same_type : (t : Ty) → is_same_type t t ≡ true
same_type ty.Bool = refl
same_type (ty.Bv w) = grind (arith, nat_tests)

-- numbers that fit the types of some inputs are a row of values for them
pub row_told : (p : Program) (inputs : List ℕ) (numbers : List ℕ) → IsRow (map (λ n. p.type_of (var.Formal n)) inputs) numbers
    → are_inputs p inputs (values_of (map (λ n. p.type_of (var.Formal n)) inputs) numbers) ≡ true
row_told p [] [] h = refl
row_told p [] (n ∷ numbers) h = absurd h
row_told p (i ∷ inputs) [] h = absurd h
row_told p (i ∷ inputs) (n ∷ numbers) h =
    let t = p.type_of (var.Formal i) in
    let fits : nat_lt n (2 ^ width_of t) ≡ true = less n (2 ^ width_of t) h.0 in
    both (is_same_type t t) (nat_lt n (2 ^ width_of t)) _ (same_type t) fits (row_told p inputs numbers h.1)
  where
    less : (a b : ℕ) → a < b → nat_lt a b ≡ true
    less a b it = grind (arith, nat_tests)

    both : (a b c : Bool) → a ≡ true → b ≡ true → c ≡ true → ((a && b) && c) ≡ true
    both a b c ea eb ec = ap (λ x. (x && b) && c) ea ∙ (ap (λ x. (true && x) && c) eb ∙ ap (λ x. (true && true) && x) ec)

-- each number of a row makes a value of its type
pub value_fits : (types : List Ty) (numbers : List ℕ) (k : ℕ) (d : Ty) → AllByRecursion IsType types → IsRow types numbers → k < length types
    → IsValue (value_of (get_or types k d) (get_or numbers k 0))
value_fits [] numbers k d typed row below = absurd (omega (arith, below))
value_fits (t ∷ types) [] k d typed row below = absurd row
value_fits (t ∷ types) (n ∷ numbers) zero d typed row below = record { typed = typed.0; fits = row.0 }
value_fits (t ∷ types) (n ∷ numbers) (suc k) d typed row below = value_fits types numbers k d typed.1 row.1 (omega (arith, below))

-- one number more
pub values_step : (types : List Ty) (numbers : List ℕ) (k : ℕ) (d : Ty) → IsRow types numbers → k < length types
    → values_of (drop k types) (drop k numbers) ≡ value_of (get_or types k d) (get_or numbers k 0) ∷ values_of (drop (k + 1) types) (drop (k + 1) numbers)
values_step [] numbers k d row below = absurd (omega (arith, below))
values_step (t ∷ types) [] k d row below = absurd row
values_step (t ∷ types) (n ∷ numbers) zero d row below = refl
values_step (t ∷ types) (n ∷ numbers) (suc k) d row below =
    let next : suc (k + 1) ≡ suc k + 1 = omega arith in
    subst (λ (j : ℕ). values_of (drop k types) (drop k numbers) ≡ value_of (get_or types k d) (get_or numbers k 0) ∷ values_of (drop j (t ∷ types)) (drop j (n ∷ numbers))) next
    (values_step types numbers k d row.1 (omega (arith, below)))

-- the values so far and those that are left, with one value more
pub values_more : (types : List Ty) (numbers : List ℕ) (k : ℕ) (d : Ty) (before after : List Value) (v : Value) → IsRow types numbers → k < length types
    → after ≡ before ++ v ∷ [] → v ≡ value_of (get_or types k d) (get_or numbers k 0)
    → before ++ values_of (drop k types) (drop k numbers) ≡ values_of types numbers
    → after ++ values_of (drop (k + 1) types) (drop (k + 1) numbers) ≡ values_of types numbers
values_more types numbers k d before after v row below longer is so_far =
    let rest = values_of (drop (k + 1) types) (drop (k + 1) numbers) in
    ap (λ l. l ++ rest) longer ∙ append_assoc before (v ∷ []) rest ∙ ap (λ w. before ++ w ∷ rest) is
    ∙ ap (λ l. before ++ l) (sym (values_step types numbers k d row below)) ∙ so_far
