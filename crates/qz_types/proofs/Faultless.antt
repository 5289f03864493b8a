-- What holds where nothing is said against names and formals.
use Rattle.std.proofs.Common.{◌≡◌, ℕ, ◌+◌, ◌≤◌, ◌<◌, Bool, true, false, not, ◌&&◌, ◌||◌, length, map, List, [], ◌∷◌, ◌++◌, Option, Some, None, is_some, refl, sym, ap, ap₂, subst, ◌∙◌, arith, inl, inr, if◌then◌else◌, nat_le, unwrap_or}
use Rattle.std.specs.Option.{is_none, option_map_or}
use Rattle.std.specs.List.{flat_map, list_all, list_any, slice_get}
use Rattle.std.specs.Str.{bytes_eq}
use Rattle.std.proofs.lemmas.Option.{slice_get_cases}
use Rattle.std.proofs.lemmas.List.{length-map}
use Rattle.std.proofs.lemmas.Bool.Decides.{nat_tests}
use Rattle.std.proofs.lemmas.Slice.Eq.{bytes_eq-Decides}
use Rattle.qz_values.specs.Types.{is_type}
use Rattle.qz_values.specs.declared.Ty.{Ty}
use Rattle.qz_values.specs.declared.Ty.TheVariants.{Bool as Truth, Bv}
use Rattle.qz_syntax.specs.declared.declarations.Formal.{Formal}
use Rattle.qz_syntax.specs.declared.declarations.Proto.{Proto}
use Rattle.qz_syntax.specs.declared.names.Name.{Name}
use Rattle.qz_syntax.specs.declared.files.FileFormal.{FileFormal}
use Rattle.qz_syntax.specs.declared.files.FileProto.{FileProto}
use Rattle.qz_syntax.specs.declared.files.TypeText.{TypeText}
use Rattle.qz_syntax.specs.declared.files.TypeText.TheVariants as text
use Rattle.qz_syntax.specs.DoubleNames.{is_among, are_distinct, formal_names, proto_names}
use Rattle.qz_syntax.specs.WellFormed.{have_types}
use Rattle.qz_types.specs.declared.faults.Fault.{Fault}
use Rattle.qz_types.specs.declared.faults.TypeKind.{TypeKind}
use Rattle.qz_types.specs.declared.faults.TypeKind.TheVariants.{DoubleName, WidthRange, TooMany}
use Rattle.qz_types.specs.Faults.{unless, fault_at}
use Rattle.qz_types.specs.Meanings.{Meanings, no_meanings, updated}
use Rattle.qz_types.specs.WrittenTypes.{type_of_text, type_faults}
use Rattle.qz_types.specs.Declarations.{Declaration, declared, double_names, formal_variables, formal_faults, proto_numbers, too_many}
use Rattle.qz_types.specs.CoreExpressions.{core_type}
use Rattle.qz_types.specs.CoreDeclarations.{core_formal, core_proto}

-- two lists of which nothing is left
pub first_nil : {X : Type 0} (xs ys : List X) → xs ++ ys ≡ [] → xs ≡ []
first_nil [] ys e = refl
first_nil (x ∷ xs) ys e = cc

pub second_nil : {X : Type 0} (xs ys : List X) → xs ++ ys ≡ [] → ys ≡ []
second_nil [] ys e = e
second_nil (x ∷ xs) ys e = cc

-- a test at which nothing is said holds
pub test_holds : (b : Bool) (kind : TypeKind) (at : ℕ) → unless b kind at ≡ [] → b ≡ true
test_holds true kind at e = refl
test_holds false kind at e = cc

-- the names of some declarations
abbrev pub names_declared : {T : Type 0} → List (Declaration T) → List Name
names_declared ds = map (λ d. d.name.name) ds

same_name : (xs ys : List ℕ) → bytes_eq xs ys ≡ true → xs ≡ ys
same_name xs ys e = (bytes_eq-Decides xs ys).0 e

differs : {T : Type 0} (m : Meanings T) (d name : List ℕ) (b : Bool) → bytes_eq d name ≡ b → is_none (m d) ≡ true → is_none (m name) ≡ false → b ≡ false
differs m d name true e f g = let h = ap (λ x. is_none (m x)) (same_name d name e) in cc
differs m d name false e f g = refl

pub still_known : {T : Type 0} (m : Meanings T) (d name : List ℕ) (x : T) (b : Bool) → bytes_eq d name ≡ b → is_none (m name) ≡ false → is_none (updated m d (Some x) name) ≡ false
still_known m d name x true e g = rw e refl
still_known m d name x false e g = rw e g

known_itself : {T : Type 0} (m : Meanings T) (d : List ℕ) (x : T) → is_none (updated m d (Some x) d) ≡ false
known_itself m d x = let e : bytes_eq d d ≡ true = (bytes_eq-Decides d d).1 refl in rw e refl

pub neither : (a b : Bool) → a ≡ false → b ≡ false → (a || b) ≡ false
neither false b e f = f
neither true b e f = e

-- a name that stands for something isn't among those that are declared
pub known_not_among : {T : Type 0} (ds : List (Declaration T)) (m : Meanings T) (name : Name) → double_names ds m ≡ [] → is_none (m name) ≡ false
    → is_among (names_declared ds) name ≡ false
known_not_among [] m name e g = refl
known_not_among {T} (d ∷ ds) m name e g =
    let own = test_holds (is_none (m d.name.name)) DoubleName d.name.at (first_nil (unless (is_none (m d.name.name)) DoubleName d.name.at) (double_names ds (updated m d.name.name (Some d.meaning))) e) in
    let later = second_nil (unless (is_none (m d.name.name)) DoubleName d.name.at) (double_names ds (updated m d.name.name (Some d.meaning))) e in
    neither (bytes_eq d.name.name name) (is_among (names_declared ds) name) (differs m d.name.name name (bytes_eq d.name.name name) refl own g)
    (known_not_among ds (updated m d.name.name (Some d.meaning)) name later (still_known m d.name.name name d.meaning (bytes_eq d.name.name name) refl g))

unlike : {T : Type 0} (m : Meanings T) (d name : List ℕ) (x : T) (b : Bool) → bytes_eq d name ≡ b → is_none (updated m d (Some x) name) ≡ true → b ≡ false
unlike m d name x true e f = let g = rw e at f in cc
unlike m d name x false e f = refl

unknown_before : {T : Type 0} (m : Meanings T) (d name : List ℕ) (x : T) (b : Bool) → bytes_eq d name ≡ b → is_none (updated m d (Some x) name) ≡ true → is_none (m name) ≡ true
unknown_before m d name x true e f = let g = rw e at f in cc
unknown_before m d name x false e f = rw e at f

-- a name that stands for nothing after some declarations isn't among them
pub unknown : {T : Type 0} (ds : List (Declaration T)) (m : Meanings T) (name : Name) → is_none (declared ds m name) ≡ true
    → (is_among (names_declared ds) name ≡ false) × (is_none (m name) ≡ true)
unknown [] m name e = (refl, e)
unknown {T} (d ∷ ds) m name e =
    let rest = unknown ds (updated m d.name.name (Some d.meaning)) name e in (
      neither (bytes_eq d.name.name name) (is_among (names_declared ds) name) (unlike m d.name.name name d.meaning (bytes_eq d.name.name name) refl rest.1) rest.0,
      unknown_before m d.name.name name d.meaning (bytes_eq d.name.name name) refl rest.1,
    )

both : (a b : Bool) → a ≡ false → b ≡ true → (not a && b) ≡ true
both false b e f = f
both true b e f = cc

-- declared names of which none is said to be double differ
pub declared_distinct : {T : Type 0} (ds : List (Declaration T)) (m : Meanings T) → double_names ds m ≡ [] → are_distinct (names_declared ds) ≡ true
declared_distinct [] m e = refl
declared_distinct {T} (d ∷ ds) m e =
    let later = second_nil (unless (is_none (m d.name.name)) DoubleName d.name.at) (double_names ds (updated m d.name.name (Some d.meaning))) e in
    both (is_among (names_declared ds) d.name.name) (are_distinct (names_declared ds))
    (known_not_among ds (updated m d.name.name (Some d.meaning)) d.name.name later (known_itself m d.name.name d.meaning))
    (declared_distinct ds (updated m d.name.name (Some d.meaning)) later)

pub names_of_formals : (formals : List FileFormal) → names_declared (formal_variables formals) ≡ formal_names (map core_formal formals)
names_of_formals [] = refl
names_of_formals (formal ∷ formals) = ap (λ names. formal.name.name ∷ names) (names_of_formals formals)

pub names_of_protos : (number : ℕ) (protos : List FileProto) → names_declared (proto_numbers number protos) ≡ proto_names (map core_proto protos)
names_of_protos number [] = refl
names_of_protos number (proto ∷ protos) = ap (λ names. proto.name.name ∷ names) (names_of_protos (number + 1) protos)

typed_if : (b : Bool) (t : Ty) → is_type t ≡ b → b ≡ true → is_type (unwrap_or (if b then Some t else None) Truth) ≡ true
typed_if true t e f = e
typed_if false t e f = cc

-- a type at which nothing is said is one that there is
pub text_typed : (t : TypeText) → type_faults t ≡ [] → is_type (core_type t) ≡ true
text_typed text.Bool e = refl
text_typed (text.Bv width at) e = typed_if (is_type (Bv width)) (Bv width) refl (test_holds (is_type (Bv width)) WidthRange at e)

pub both_true : (a b : Bool) → a ≡ true → b ≡ true → (a && b) ≡ true
both_true true b e f = f
both_true false b e f = e

pub formals_typed : (formals : List FileFormal) → flat_map (λ (formal : FileFormal). type_faults formal.ty) formals ≡ [] → have_types (map core_formal formals) ≡ true
formals_typed [] e = refl
formals_typed (formal ∷ formals) e =
    let rest = flat_map (λ (formal : FileFormal). type_faults formal.ty) formals in
    both_true (is_type (core_type formal.ty)) (have_types (map core_formal formals))
    (text_typed formal.ty (first_nil (type_faults formal.ty) rest e)) (formals_typed formals (second_nil (type_faults formal.ty) rest e))

few_by : (formals : List FileFormal) (found : Option FileFormal)
    → option_map_or (λ (formal : FileFormal). fault_at TooMany formal.name.at ∷ []) found [] ≡ [] → found ≡ None
few_by formals None e = refl
few_by formals (Some formal) e = cc

pub formals_few : (formals : List FileFormal) → too_many formals ≡ [] → length (map core_formal formals) ≤ 256
formals_few formals e =
    let none : slice_get formals 256 ≡ None = few_by formals (slice_get formals 256) e in
    let same : length (map core_formal formals) ≡ length formals = length-map formals core_formal in
    elim (slice_get_cases formals 256).1 [
      | inl found ↦ let no = found.2 in cc
      | inr past ↦ omega (arith, past.0)
    ]

-- a list of formals against which nothing is said
pub record GoodFormals (formals : List Formal) : Type 0 where
  pub typed : have_types formals ≡ true
  pub distinct : are_distinct (formal_names formals) ≡ true
  pub few : length formals ≤ 256

pub formals_good : (formals : List FileFormal) → formal_faults formals ≡ [] → GoodFormals (map core_formal formals)
formals_good formals e =
    let widths = flat_map (λ (formal : FileFormal). type_faults formal.ty) formals in
    let doubles = double_names (formal_variables formals) no_meanings in
    let later = second_nil widths (doubles ++ too_many formals) e in
    record {
      typed = formals_typed formals (first_nil widths (doubles ++ too_many formals) e);
      distinct = subst (λ names. are_distinct names ≡ true) (names_of_formals formals)
          (declared_distinct (formal_variables formals) no_meanings (first_nil doubles (too_many formals) later));
      few = formals_few formals (second_nil doubles (too_many formals) later);
    }

-- prototypes against which nothing is said
pub record GoodProtos (protos : List Proto) : Type 0 where
  pub typed : list_all (λ (proto : Proto). have_types proto.formals) protos ≡ true
  pub distinct : list_all (λ (proto : Proto). are_distinct (formal_names proto.formals)) protos ≡ true
  pub few : list_all (λ (proto : Proto). nat_le (length proto.formals) 256) protos ≡ true

pub protos_good : (protos : List FileProto) → flat_map (λ (proto : FileProto). formal_faults proto.formals) protos ≡ [] → GoodProtos (map core_proto protos)
protos_good [] e = record { typed = refl; distinct = refl; few = refl }
protos_good (proto ∷ protos) e =
    let rest = flat_map (λ (proto : FileProto). formal_faults proto.formals) protos in
    let good = formals_good proto.formals (first_nil (formal_faults proto.formals) rest e) in
    let more = protos_good protos (second_nil (formal_faults proto.formals) rest e) in
    let small : nat_le (length (map core_formal proto.formals)) 256 ≡ true = let few = good.few in grind (arith, nat_tests) in
    record {
      typed = both_true (have_types (map core_formal proto.formals)) (list_all (λ (proto : Proto). have_types proto.formals) (map core_proto protos)) good.typed more.typed;
      distinct = both_true (are_distinct (formal_names (map core_formal proto.formals))) (list_all (λ (proto : Proto). are_distinct (formal_names proto.formals)) (map core_proto protos)) good.distinct more.distinct;
      few = both_true (nat_le (length (map core_formal proto.formals)) 256) (list_all (λ (proto : Proto). nat_le (length proto.formals) 256) (map core_proto protos)) small more.few;
    }
