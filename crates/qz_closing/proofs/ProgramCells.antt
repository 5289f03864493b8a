-- The cells of a program by their numbers, and the types of its variables.
use Rattle.std.proofs.Common.{◌≡◌, ℕ, suc, ◌+◌, ◌<◌, Bool, true, false, List, [], ◌∷◌, map, length, Option, Some, None, refl, ap, subst, ◌∙◌, ◌⊎◌, inl, inr, arith}
use Rattle.std.specs.Prelude.{slice_get, if◌then◌else◌}
use Rattle.std.specs.Option.{option_map_or}
use Rattle.std.specs.List.{range_with_len}
use lib.ListN.{length-map, length-append}
use Rattle.std.proofs.lemmas.List.FromFn.{length-range_with_len}
use Rattle.qz_values.specs.declared.Ty.TheVariants as ty
use Rattle.qz_values.specs.Types.{is_type}
use Rattle.qz_syntax.specs.declared.declarations.Dir.{Dir}
use Rattle.qz_syntax.specs.declared.declarations.Dir.TheVariants as dir
use Rattle.qz_syntax.specs.declared.declarations.Formal.{Formal}
use Rattle.qz_syntax.specs.declared.declarations.Decl.{Decl}
use Rattle.qz_syntax.specs.declared.expressions.Var.{Var}
use Rattle.qz_syntax.specs.declared.expressions.Var.TheVariants as var
use Rattle.qz_syntax.specs.declared.modules.Whole.{Whole}
use Rattle.qz_syntax.specs.WellFormed.{IsWellFormed}
use Rattle.qz_meaning.specs.Programs.{is_same_direction, numbers_in, formals_of, type_in}
use Rattle.qz_system.specs.declared.parts.Cell.{Cell}
use Rattle.qz_closing.specs.ProgramParts.{ports_in, variables_of, cell_of, cells_of}
use Rattle.qz_closing.proofs.Getting.{get_left, get_right, get_cases, get_mapped, mapped_cases, get_range, range_cases, at_all}

-- as many ports as numbers of formals
pub ports_long : (d : Dir) (k : ℕ) (formals : List Formal) → length (ports_in d formals) ≡ length (numbers_in d k formals)
ports_long d k [] = refl
ports_long d k (formal ∷ formals) = by (is_same_direction formal.dir d) (ports_long d (k + 1) formals) where
  by : (t : Bool) → length (ports_in d formals) ≡ length (numbers_in d (k + 1) formals)
      → length (if t then record { name = formal.name; ty = formal.ty } ∷ ports_in d formals else ports_in d formals)
      ≡ length (if t then k ∷ numbers_in d (k + 1) formals else numbers_in d (k + 1) formals)
  by true e = ap suc e
  by false e = e

module _ (w : Whole) where
  abbrev O : List ℕ
  O = formals_of dir.Out w.module

  abbrev N : ℕ
  N = length w.module.decls

  pub variables_long : length (variables_of w.module) ≡ length O + N
  variables_long =
      length-append (map var.Formal O) (map var.Local (range_with_len 0 N))
      ∙ let one : length (map var.Formal O) ≡ length O = length-map O var.Formal in
      let two : length (map var.Local (range_with_len 0 N)) ≡ length (range_with_len 0 N) = length-map (range_with_len 0 N) var.Local in
      let three : length (range_with_len 0 N) ≡ N = length-range_with_len 0 N in
      omega (arith, one, two, three)

  pub cells_long : length (cells_of w) ≡ length O + N
  cells_long = length-map (variables_of w.module) (cell_of w) ∙ variables_long

  pub cell_output : (k n : ℕ) → slice_get O k ≡ Some n → slice_get (cells_of w) k ≡ Some (cell_of w (var.Formal n))
  cell_output k n e = get_mapped (cell_of w) (variables_of w.module) k (var.Formal n) (get_left (map var.Formal O) _ k (var.Formal n) (get_mapped var.Formal O k n e))

  pub cell_local : (n : ℕ) → n < N → slice_get (cells_of w) (length O + n) ≡ Some (cell_of w (var.Local n))
  cell_local n h =
      get_mapped (cell_of w) (variables_of w.module) (length O + n) (var.Local n)
      (subst (λ i. slice_get (variables_of w.module) (i + n) ≡ Some (var.Local n)) (length-map O var.Formal)
      (get_right (map var.Formal O) (map var.Local (range_with_len 0 N)) n ∙ get_mapped var.Local (range_with_len 0 N) n n (get_range 0 N n h ∙ ap Some (let e : 0 + n ≡ n = omega arith in e))))

  -- the cell of an output, by its place among them
  pub record IsOutputCell (k : ℕ) (cell : Cell) : Type 0 where
    pub number : ℕ
    pub found : slice_get O k ≡ Some number
    pub is : cell ≡ cell_of w (var.Formal number)

  -- the cell of a local, by its number
  pub record IsLocalCell (k : ℕ) (cell : Cell) : Type 0 where
    pub number : ℕ
    pub small : number < N
    pub at : k ≡ length O + number
    pub is : cell ≡ cell_of w (var.Local number)

  pub cell_cases : (k : ℕ) (cell : Cell) → slice_get (cells_of w) k ≡ Some cell → IsOutputCell k cell ⊎ IsLocalCell k cell
  cell_cases k cell e = by_variable (mapped_cases (cell_of w) (variables_of w.module) k cell e) where
    by_side : (x : Var) → cell ≡ cell_of w x → (slice_get (map var.Formal O) k ≡ Some x) ⊎ ((j : ℕ) × (k ≡ length (map var.Formal O) + j) × (slice_get (map var.Local (range_with_len 0 N)) j ≡ Some x))
        → IsOutputCell k cell ⊎ IsLocalCell k cell
    by_side x is (inl h) = let one = mapped_cases var.Formal O k x h in inl record { number = one.0; found = one.1; is = is ∙ ap (cell_of w) one.2 }
    by_side x is (inr (j, at, h)) =
        let one = mapped_cases var.Local (range_with_len 0 N) j x h in
        let range = range_cases 0 N j one.0 one.1 in
        let same : one.0 ≡ j = let e = range.0 in omega (arith, e) in
        inr record {
          number = j;
          small = range.1;
          at = at ∙ ap (λ i. i + j) (length-map O var.Formal);
          is = is ∙ ap (cell_of w) (one.2 ∙ ap var.Local same);
        }

    by_variable : (x : Var) × (slice_get (variables_of w.module) k ≡ Some x) × (cell ≡ cell_of w x) → IsOutputCell k cell ⊎ IsLocalCell k cell
    by_variable (x, found, is) = by_side x is (get_cases (map var.Formal O) (map var.Local (range_with_len 0 N)) k x found)

  module _ (well : IsWellFormed [] w.module) where
    formal_typed : (n : ℕ) → is_type (type_in w.module (var.Formal n)) ≡ true
    formal_typed n = by (slice_get w.module.formals n) refl where
      by : (o : Option Formal) → slice_get w.module.formals n ≡ o → is_type (option_map_or (λ (formal : Formal). formal.ty) o ty.Bool) ≡ true
      by None e = refl
      by (Some formal) e = at_all (λ (one : Formal). is_type one.ty) w.module.formals well.formal_types n formal e

    local_typed : (n : ℕ) → is_type (type_in w.module (var.Local n)) ≡ true
    local_typed n = by (slice_get w.module.decls n) refl where
      by : (o : Option Decl) → slice_get w.module.decls n ≡ o → is_type (option_map_or (λ (decl : Decl). decl.ty) o ty.Bool) ≡ true
      by None e = refl
      by (Some decl) e = at_all (λ (one : Decl). is_type one.ty) w.module.decls well.local_types n decl e

    pub variable_typed : (x : Var) → is_type (type_in w.module x) ≡ true
    variable_typed (var.Formal n) = formal_typed n
    variable_typed (var.Local n) = local_typed n
    variable_typed (var.Bound n) = refl
