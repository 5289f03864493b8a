-- What a test of all of a list, and of two lists side by side, says of one of them.
use Rattle.std.proofs.Common.{◌≡◌, ℕ, zero, suc, ◌<◌, ◌^◌, Bool, true, false, List, [], ◌∷◌, Option, Some, None, get_or, refl, sym, ap, subst, ◌∙◌}
use Rattle.std.specs.Prelude.{◌&&◌, ◌||◌, slice_get}
use Rattle.std.specs.List.{list_all, list_any}
use Rattle.std.specs.Str.{bytes_eq}
use Rattle.qz_syntax.specs.declared.declarations.Port.{Port}
use Rattle.qz_syntax.specs.declared.names.Name.{Name}
use Rattle.qz_syntax.specs.DoubleNames.{is_among}
use Rattle.std.specs.Option.{option_map, option_map_or}
use Rattle.std.proofs.lemmas.Bool.{and_parts, false≢true}
use Rattle.qz_values.specs.declared.Ty.{Ty}
use Rattle.qz_values.specs.Types.{is_same_type}
use Rattle.qz_values.proofs.Typed.{same-is_same_type}
use Rattle.qz_system.specs.Parts.{is_the, are_one, port_names}

pub some_same : {A : Type 0} (x y : A) → Some x ≡ Some y → x ≡ y
some_same x y h = cc

pub all_at : {A : Type 0} (p : A → Bool) (xs : List A) → list_all p xs ≡ true → (n : ℕ) (x : A) → slice_get xs n ≡ Some x → p x ≡ true
all_at p [] all n x at = absurd (cc)
all_at p (y ∷ ys) all zero x at = let same : y ≡ x = cc in subst (λ z. p z ≡ true) same (and_parts (p y) (list_all p ys) all).0
all_at p (y ∷ ys) all (suc n) x at = all_at p ys (and_parts (p y) (list_all p ys) all).1 n x at

-- a type that is there, and is this one
pub the_type : (ty : Ty) (o : Option Ty) → is_the ty o ≡ true → o ≡ Some ty
the_type ty None h = absurd (false≢true h)
the_type ty (Some t) h = ap Some (same-is_same_type t ty h)

-- two types that are there, and are one
pub one_type : (a b : Option Ty) → are_one a b ≡ true → (ty : Ty) → a ≡ Some ty → b ≡ Some ty
one_type None b h ty is = absurd (cc)
one_type (Some t) b h ty is = let same : t ≡ ty = cc in subst (λ x. b ≡ Some x) same (the_type t b h)

-- a name among those of some ports
pub among_ports : (name : Name) (ports : List Port) → is_among (port_names ports) name ≡ list_any (λ (port : Port). bytes_eq port.name name) ports
among_ports name [] = refl
among_ports name (port ∷ ports) = ap (λ b. bytes_eq port.name name || b) (among_ports name ports)
