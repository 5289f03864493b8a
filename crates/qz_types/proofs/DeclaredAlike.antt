-- The names of formals and of locals stand for the same variables in a file and in its core tree.
use Rattle.std.proofs.Common.{◌≡◌, ℕ, ◌+◌, ◌==◌, Bool, true, false, ◌||◌, length, map, List, [], ◌∷◌, ◌++◌, Some, None, refl, ap, subst, ◌∙◌, length-append, arith, if◌then◌else◌}
use Rattle.std.specs.List.{flat_map, range_with_len, slice_get}
use Rattle.std.specs.Option.{option_map, option_and_then}
use Rattle.std.proofs.lemmas.Bool.{false≢true}
use Rattle.std.proofs.lemmas.Bool.Decides.{nat_tests}
use Rattle.qz_values.specs.declared.Ty.{Ty}
use Rattle.qz_syntax.specs.declared.names.Name.{Name}
use Rattle.qz_syntax.specs.declared.declarations.Class.{Class}
use Rattle.qz_syntax.specs.declared.declarations.Dir.{Dir}
use Rattle.qz_syntax.specs.declared.declarations.Dir.TheVariants as dir
use Rattle.qz_syntax.specs.declared.declarations.Decl.{Decl}
use Rattle.qz_syntax.specs.declared.declarations.Formal.{Formal}
use Rattle.qz_syntax.specs.declared.expressions.Var.TheVariants as var
use Rattle.qz_syntax.specs.declared.file_expressions.NameAt.{NameAt}
use Rattle.qz_syntax.specs.declared.files.FileDecl.{FileDecl}
use Rattle.qz_syntax.specs.declared.files.FileFormal.{FileFormal}
use Rattle.qz_syntax.specs.Numbers.{contains}
use Rattle.qz_syntax.specs.Typing.{Declared, Sight, formal_target, decl_target}
use Rattle.qz_types.specs.declared.variables.Variable.{Variable}
use Rattle.qz_types.specs.WrittenTypes.{type_of_text, type_faults}
use Rattle.qz_types.specs.ArgumentFaults.{is_writable}
use Rattle.qz_types.specs.Declarations.{Declaration, formal_variables, all_named, local_variable, local_variables}
use Rattle.qz_types.specs.CoreExpressions.{core_type}
use Rattle.qz_types.specs.CoreDeclarations.{core_formal, formal_numbers, local_names, local_numbers, core_local, core_decls}
use Rattle.qz_types.proofs.Faultless.{first_nil, second_nil}
use Rattle.qz_types.proofs.Differing.{there, push}
use Rattle.qz_types.proofs.Alike.{Stands, Parallel, text_named, later_true}

-- the entries from a number on
abbrev pub Entries : {X : Type 0} → List X → ℕ → List X → Type 0
Entries all k [] = Unit {0}
Entries all k (x ∷ xs) = (slice_get all k ≡ Some x) × Entries all (k + 1) xs

pub entries : {X : Type 0} (before xs after : List X) → Entries (before ++ (xs ++ after)) (length before) xs
entries before [] after = tt
entries {X} before (x ∷ xs) after =
    let rest : Entries ((before ++ x ∷ []) ++ (xs ++ after)) (length (before ++ x ∷ [])) xs = entries (before ++ x ∷ []) xs after in
    let moved : Entries (before ++ (x ∷ (xs ++ after))) (length before + 1) xs =
    subst (λ k. Entries (before ++ (x ∷ (xs ++ after))) k xs) (length-append before (x ∷ []))
    (subst (λ (all : List X). Entries all (length (before ++ x ∷ [])) xs) (push before x (xs ++ after)) rest) in
    (there before x (xs ++ after), moved)

-- an output, as it is written
as_output : (class : Class) (ty : Ty) (direction : Dir) (name : Name) → is_writable direction ≡ true
    → formal_target (record { class = class; dir = direction; ty = ty; name = name }) ≡ Some (record { class = class; ty = ty })
as_output class ty dir.In name w = absurd (false≢true w)
as_output class ty dir.Out name w = refl

-- a formal, as it is read and written
formal_stands : (d : Declared) (sight : Sight) (k : ℕ) (formal : FileFormal) → type_faults formal.ty ≡ [] → slice_get d.formals k ≡ Some (core_formal formal)
    → Stands d sight (record { class = formal.class; dir = formal.dir; ty = type_of_text formal.ty }) (var.Formal k)
formal_stands d sight k formal e found = record {
  ty = core_type formal.ty;
  has_type = text_named formal.ty e;
  read = ap (λ o. option_map (λ (f : Formal). f.ty) o) found;
  written = λ w. ap (λ o. option_and_then formal_target o) found ∙ as_output formal.class (core_type formal.ty) formal.dir formal.name.name w;
}

pub formals_parallel : (d : Declared) (sight : Sight) (k : ℕ) (formals : List FileFormal) → flat_map (λ (formal : FileFormal). type_faults formal.ty) formals ≡ []
    → Entries d.formals k (map core_formal formals) → Parallel d sight (formal_variables formals) (formal_numbers k formals)
formals_parallel d sight k [] e found = tt
formals_parallel d sight k (formal ∷ formals) e found =
    let rest = flat_map (λ (formal : FileFormal). type_faults formal.ty) formals in (
      refl,
      formal_stands d sight k formal (first_nil (type_faults formal.ty) rest e) found.0,
      formals_parallel d sight (k + 1) formals (second_nil (type_faults formal.ty) rest e) found.1,
    )

-- each number from one on is among these, as far as a list goes
abbrev pub InSight : {X : Type 0} → List ℕ → ℕ → List X → Type 0
InSight locals k [] = Unit {0}
InSight locals k (x ∷ xs) = (contains locals k ≡ true) × InSight locals (k + 1) xs

in_sight_more : {X : Type 0} (m : ℕ) (locals : List ℕ) (k : ℕ) (xs : List X) → InSight locals k xs → InSight (m ∷ locals) k xs
in_sight_more m locals k [] i = tt
in_sight_more m locals k (x ∷ xs) i = (later_true (m == k) (contains locals k) i.0, in_sight_more m locals (k + 1) xs i.1)

same_number : (k : ℕ) (b : Bool) → ((k == k) || b) ≡ true
same_number k b = let e : (k == k) ≡ true = grind (arith, nat_tests) in ap (λ (c : Bool). c || b) e

pub in_sight : {X : Type 0} (k : ℕ) (xs : List X) (outer : List ℕ) → InSight (range_with_len k (length xs) ++ outer) k xs
in_sight k [] outer = tt
in_sight k (x ∷ xs) outer =
    let later = range_with_len (k + 1) (length xs) ++ outer in
    (same_number k (contains later k), in_sight_more k later (k + 1) xs (in_sight (k + 1) xs outer))

-- a local, as it is read and written
local_stands : (d : Declared) (sight : Sight) (k : ℕ) (decl : FileDecl) (name : NameAt) → type_faults decl.ty ≡ [] → slice_get d.decls k ≡ Some (core_local decl name)
    → contains sight.locals k ≡ true → Stands d sight (local_variable decl) (var.Local k)
local_stands d sight k decl name e found inside = record {
  ty = core_type decl.ty;
  has_type = text_named decl.ty e;
  read = ap (λ b. if b then option_map (λ (x : Decl). x.ty) (slice_get d.decls k) else None) inside ∙ ap (λ o. option_map (λ (x : Decl). x.ty) o) found;
  written = λ w. ap (λ b. if b then option_map decl_target (slice_get d.decls k) else None) inside ∙ ap (λ o. option_map decl_target o) found;
}

-- the names of one declaration, and then others
names_parallel : (d : Declared) (sight : Sight) (k : ℕ) (decl : FileDecl) (names rest : List NameAt) (more : List (Declaration Variable)) (decls : List Decl) → type_faults decl.ty ≡ []
    → Entries d.decls k (map (core_local decl) names ++ decls) → InSight sight.locals k (map (core_local decl) names ++ decls)
    → ((j : ℕ) → Entries d.decls j decls → InSight sight.locals j decls → Parallel d sight more (local_numbers j rest))
    → Parallel d sight (all_named (local_variable decl) names ++ more) (local_numbers k (names ++ rest))
names_parallel d sight k decl [] rest more decls e found inside rest_is = rest_is k found inside
names_parallel d sight k decl (name ∷ names) rest more decls e found inside rest_is =
    (refl, local_stands d sight k decl name e found.0 inside.0, names_parallel d sight (k + 1) decl names rest more decls e found.1 inside.1 rest_is)

pub locals_parallel : (d : Declared) (sight : Sight) (k : ℕ) (decls : List FileDecl) → flat_map (λ (decl : FileDecl). type_faults decl.ty) decls ≡ []
    → Entries d.decls k (core_decls decls) → InSight sight.locals k (core_decls decls) → Parallel d sight (local_variables decls) (local_numbers k (local_names decls))
locals_parallel d sight k [] e found inside = tt
locals_parallel d sight k (decl ∷ decls) e found inside =
    let rest = flat_map (λ (decl : FileDecl). type_faults decl.ty) decls in
    names_parallel d sight k decl decl.names (local_names decls) (local_variables decls) (core_decls decls) (first_nil (type_faults decl.ty) rest e) found inside
    (λ j x y. locals_parallel d sight j decls (second_nil (type_faults decl.ty) rest e) x y)
