-- Names that are declared after others.
use Rattle.std.proofs.Common.{◌≡◌, ℕ, List, [], ◌∷◌, ◌++◌, Option, Some, refl, ap, append_assoc, sym, ◌∙◌}
use Rattle.qz_types.specs.declared.faults.TypeKind.TheVariants.{DoubleName}
use Rattle.qz_types.specs.Faults.{unless}
use Rattle.qz_types.specs.Meanings.{Meanings, updated}
use Rattle.qz_syntax.specs.declared.file_expressions.NameAt.{NameAt}
use Rattle.qz_types.specs.declared.faults.Fault.{Fault}
use Rattle.qz_types.proofs.FaultLemmas.{first_with_append}
use Rattle.qz_types.specs.Declarations.{Declaration, declared, double_names, Declares, all_named, label_names}
use Rattle.std.specs.Option.{is_none}

pub declared_append : {T : Type 0} (xs ys : List (Declaration T)) (m : Meanings T) → declared (xs ++ ys) m ≡ declared ys (declared xs m)
declared_append [] ys m = refl
declared_append (x ∷ xs) ys m = declared_append xs ys (updated m x.name.name (Some x.meaning))

pub double_names_append : {T : Type 0} (xs ys : List (Declaration T)) (m : Meanings T)
    → double_names (xs ++ ys) m ≡ double_names xs m ++ double_names ys (declared xs m)
double_names_append [] ys m = refl
double_names_append (x ∷ xs) ys m =
    ap (λ rest. unless (is_none (m x.name.name)) DoubleName x.name.at ++ rest) (double_names_append xs ys (updated m x.name.name (Some x.meaning)))
    ∙ sym (append_assoc (unless (is_none (m x.name.name)) DoubleName x.name.at) (double_names xs (updated m x.name.name (Some x.meaning)))
    (double_names ys (declared xs (updated m x.name.name (Some x.meaning)))))

-- some declarations, and then some more
pub declares_more : {T : Type 0} (xs ys : List (Declaration T)) (m n k : Meanings T) (f g h : Option Fault)
    → Declares xs m n f g → Declares ys n k g h → Declares (xs ++ ys) m k f h
declares_more xs ys m n k f g h some more = record {
  names = rw (declared_append xs ys m, ← some.names) more.names;
  faults = rw (double_names_append xs ys m, first_with_append, ← some.faults, ← some.names) more.faults;
}

pub all_named_append : {T : Type 0} (meaning : T) (xs ys : List NameAt) → all_named meaning (xs ++ ys) ≡ all_named meaning xs ++ all_named meaning ys
all_named_append meaning [] ys = refl
all_named_append meaning (x ∷ xs) ys = ap (λ rest. record { name = x; meaning = meaning } ∷ rest) (all_named_append meaning xs ys)
