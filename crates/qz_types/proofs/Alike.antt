-- Names that stand for the same variables in a file and in its core tree.
use Rattle.std.proofs.Common.{◌≡◌, ℕ, ◌==◌, Bool, true, false, ◌||◌, List, [], ◌∷◌, ◌++◌, Option, Some, None, refl, ap, subst, ◌∙◌, if◌then◌else◌, unwrap_or}
use Rattle.std.specs.List.{slice_get}
use Rattle.std.specs.Option.{option_map}
use Rattle.std.specs.Str.{bytes_eq}
use Rattle.std.proofs.lemmas.List.Folds.{list_any-append}
use Rattle.qz_values.specs.declared.Ty.{Ty}
use Rattle.qz_values.specs.declared.Ty.TheVariants.{Bool as Truth, Bv}
use Rattle.qz_values.specs.Types.{is_type}
use Rattle.qz_syntax.specs.declared.declarations.Decl.{Decl}
use Rattle.qz_syntax.specs.declared.expressions.Var.{Var}
use Rattle.qz_syntax.specs.declared.expressions.Var.TheVariants as var
use Rattle.qz_syntax.specs.declared.file_expressions.NameAt.{NameAt}
use Rattle.qz_syntax.specs.declared.files.TypeText.{TypeText}
use Rattle.qz_syntax.specs.declared.files.TypeText.TheVariants as text
use Rattle.qz_syntax.specs.Numbers.{contains}
use Rattle.qz_syntax.specs.Typing.{Declared, Sight, read_type, written_as, decl_target}
use Rattle.qz_syntax.specs.Sound.{in_scope}
use Rattle.qz_types.specs.declared.variables.Variable.{Variable}
use Rattle.qz_types.specs.declared.faults.TypeKind.TheVariants.{WidthRange}
use Rattle.qz_types.specs.Meanings.{Meanings, updated}
use Rattle.qz_types.specs.WrittenTypes.{type_of_text, type_faults}
use Rattle.qz_types.specs.ArgumentFaults.{is_writable}
use Rattle.qz_types.specs.Declarations.{Declaration, declared}
use Rattle.qz_types.specs.CoreExpressions.{core_type}
use Rattle.qz_types.proofs.Faultless.{test_holds}

-- what is known of a variable in the file holds of it in the core tree
pub record Stands (d : Declared) (sight : Sight) (known : Variable) (variable : Var) : Type 0 where
  pub ty : Ty
  pub has_type : known.ty ≡ Some ty
  pub read : read_type d sight variable ≡ Some ty
  pub written : is_writable known.dir ≡ true → written_as d sight variable ≡ Some (record { class = known.class; ty = ty })

-- what stands for a variable in the file stands for it in the core tree
abbrev pub StandsIf : Declared → Sight → Option Variable → Option Var → Type 0
StandsIf d sight None found = Unit {0}
StandsIf d sight (Some known) None = ⊥
StandsIf d sight (Some known) (Some variable) = Stands d sight known variable

-- names stand for the same variables
pub record Alike (d : Declared) (sight : Sight) (file : Meanings Variable) (names : Meanings Var) : Type 0 where
  pub stands : (name : List ℕ) → StandsIf d sight (file name) (names name)

-- a declared name, on both sides
alike_updated : (d : Declared) (sight : Sight) (file : Meanings Variable) (names : Meanings Var) (name : List ℕ) (known : Variable) (variable : Var)
    → Stands d sight known variable → Alike d sight file names → Alike d sight (updated file name (Some known)) (updated names name (Some variable))
alike_updated d sight file names name known variable s a = record { stands = λ other. stands_either (bytes_eq name other) other }
  where
    stands_either : (b : Bool) (other : List ℕ) → StandsIf d sight (if b then Some known else file other) (if b then Some variable else names other)
    stands_either true other = s
    stands_either false other = a.stands other

-- declarations of the same names, as the same variables
abbrev pub Parallel : Declared → Sight → List (Declaration Variable) → List (Declaration Var) → Type 0
Parallel d sight [] [] = Unit {0}
Parallel d sight [] (y ∷ ys) = ⊥
Parallel d sight (x ∷ xs) [] = ⊥
Parallel d sight (x ∷ xs) (y ∷ ys) = (x.name ≡ y.name) × Stands d sight x.meaning y.meaning × Parallel d sight xs ys

pub alike_declared : (d : Declared) (sight : Sight) (xs : List (Declaration Variable)) (ys : List (Declaration Var)) (file : Meanings Variable) (names : Meanings Var)
    → Parallel d sight xs ys → Alike d sight file names → Alike d sight (declared xs file) (declared ys names)
alike_declared d sight [] [] file names p a = a
alike_declared d sight [] (y ∷ ys) file names p a = absurd p
alike_declared d sight (x ∷ xs) [] file names p a = absurd p
alike_declared d sight (x ∷ xs) (y ∷ ys) file names p a =
    alike_declared d sight xs ys (updated file x.name.name (Some x.meaning)) (updated names y.name.name (Some y.meaning)) p.2
    (subst (λ (name : NameAt). Alike d sight (updated file x.name.name (Some x.meaning)) (updated names name.name (Some y.meaning))) p.0
    (alike_updated d sight file names x.name.name x.meaning y.meaning p.1 a))

-- a type at which nothing is said is the core tree's
pub text_named : (t : TypeText) → type_faults t ≡ [] → type_of_text t ≡ Some (core_type t)
text_named text.Bool e = refl
text_named (text.Bv width at) e = by_test (is_type (Bv width)) (test_holds (is_type (Bv width)) WidthRange at e)
  where
    by_test : (b : Bool) → b ≡ true → (if b then Some (Bv width) else None) ≡ Some (unwrap_or (if b then Some (Bv width) else None) Truth)
    by_test true f = refl
    by_test false f = cc

-- what is seen where a test holds
opened : {X : Type 0} (b : Bool) (o : Option X) (x : X) → (if b then o else None) ≡ Some x → (b ≡ true) × (o ≡ Some x)
opened true o x e = (refl, e)
opened false o x e = cc

pub later_true : (a b : Bool) → b ≡ true → (a || b) ≡ true
later_true true b e = refl
later_true false b e = e

still_there : {X : Type 0} (locals outer : List ℕ) (n : ℕ) (o : Option X) (x : X) → (if contains outer n then o else None) ≡ Some x
    → (if contains (locals ++ outer) n then o else None) ≡ Some x
still_there locals outer n o x e =
    let both = opened (contains outer n) o x e in
    ap (λ b. if b then o else None) (list_any-append (λ number. number == n) locals outer ∙ later_true (contains locals n) (contains outer n) both.0) ∙ both.1

-- what may be named outside a scope may be named inside it
stands_inside : (d : Declared) (sight : Sight) (locals : List ℕ) (known : Variable) (variable : Var) → Stands d sight known variable
    → Stands d (in_scope sight locals) known variable
stands_inside d sight locals known (var.Formal n) s = record { ty = s.ty; has_type = s.has_type; read = s.read; written = s.written }
stands_inside d sight locals known (var.Bound n) s = record { ty = s.ty; has_type = s.has_type; read = s.read; written = s.written }
stands_inside d sight locals known (var.Local n) s = record {
  ty = s.ty;
  has_type = s.has_type;
  read = still_there locals sight.locals n (option_map (λ (decl : Decl). decl.ty) (slice_get d.decls n)) s.ty s.read;
  written = λ w. still_there locals sight.locals n (option_map decl_target (slice_get d.decls n)) (record { class = known.class; ty = s.ty }) (s.written w);
}

pub alike_inside : (d : Declared) (sight : Sight) (locals : List ℕ) (file : Meanings Variable) (names : Meanings Var) → Alike d sight file names
    → Alike d (in_scope sight locals) file names
alike_inside d sight locals file names a = record { stands = λ name. if_inside (file name) (names name) (a.stands name) }
  where
    if_inside : (known : Option Variable) (variable : Option Var) → StandsIf d sight known variable → StandsIf d (in_scope sight locals) known variable
    if_inside None found s = tt
    if_inside (Some known) None s = absurd s
    if_inside (Some known) (Some variable) s = stands_inside d sight locals known variable s
