-- What outputs keep and give by their numbers is what the definitions say.
use Rattle.std.proofs.Common.{◌≡◌, ◌+◌, ℕ, zero, suc, Bool, true, false, List, [], ◌∷◌, ◌++◌, map, length, take, Option, Some, get_or, refl, sym, ap, ap₂, subst, ◌∙◌, add-one, zero-add, append_assoc, append-nil, arith}
use Rattle.std.specs.Prelude.{if◌then◌else◌, slice_get}
use Rattle.std.specs.Option.{option_map_or}
use Rattle.std.specs.List.{range_with_len, AllByRecursion}
use Rattle.qz_values.specs.declared.Ty.{Ty}
use Rattle.qz_values.specs.declared.Ty.TheVariants as ty
use Rattle.qz_values.specs.declared.Know.{Know}
use Rattle.qz_values.specs.declared.Know.TheVariants as know
use Rattle.qz_values.specs.Values.{default_of}
use Rattle.qz_syntax.specs.declared.declarations.Class.{Class}
use Rattle.qz_syntax.specs.declared.declarations.Class.TheVariants.{Event, Mem}
use Rattle.qz_syntax.specs.declared.declarations.Dir.TheVariants as dir
use Rattle.qz_syntax.specs.declared.declarations.Formal.{Formal}
use Rattle.qz_syntax.specs.declared.expressions.Var.TheVariants as var
use Rattle.qz_syntax.specs.declared.modules.Module.{Module}
use Rattle.qz_syntax.specs.declared.places.Later.{Later}
use Rattle.qz_syntax.specs.declared.places.Later.TheVariants as later
use Rattle.qz_syntax.specs.declared.places.Store.{Store}
use Rattle.qz_meaning.specs.Instances.{formal_instance}
use Rattle.qz_meaning.specs.Scenes.{default_store, store_of, store_from}
use Rattle.qz_meaning.specs.Programs.{program_of, instances_of, formals_of, numbers_in, is_same_direction, type_in}
use Rattle.qz_meaning.specs.Configurations.{new_store}
use Rattle.qz_meaning.specs.Settling.{Environment, passing, met_outputs}
use Rattle.qz_meaning.specs.Rounds.{IsKnown, IsPlainAt}
use Rattle.qz_meaning.proofs.Lists.{none≢some, some_same}
use Rattle.qz_interp.specs.declared.slots.Slot.{Slot}
use Rattle.qz_interp.specs.Entering.{blank_slot}
use Rattle.qz_interp.specs.FirstDoubts.{AreLists}
use Rattle.qz_interp.specs.Keeping.{output_types, value_of_known, kept_by, kept_at, outputs_kept}
use Rattle.qz_interp.proofs.DoubtLemmas.{found_or}
use Rattle.qz_interp.proofs.EnteringLemmas.{blank_at, output_at}

range_longer : (from n : ℕ) → range_with_len from (suc n) ≡ range_with_len from n ++ (from + n) ∷ []
range_longer from zero = let none : from ≡ from + 0 = omega arith in ap (λ k. k ∷ []) none
range_longer from (suc n) =
    let e : from + 1 + n ≡ from + suc n = omega arith in
    ap (λ xs. from ∷ xs) (range_longer (from + 1) n ∙ ap (λ k. range_with_len (from + 1) n ++ k ∷ []) e)

map-append : {A B : Type 0} (f : A → B) (xs : List A) (x : A) → map f (xs ++ x ∷ []) ≡ map f xs ++ f x ∷ []
map-append f [] x = refl
map-append f (y ∷ xs) x = ap (λ ys. f y ∷ ys) (map-append f xs x)

-- the output with the next number keeps one store more
pub one_more : (slots : List Slot) (known : List Know) (delayed : List Later) (before after : List Store) (number : ℕ)
    → before ≡ outputs_kept slots known delayed number → after ≡ before ++ kept_at slots known delayed number ∷ []
    → after ≡ outputs_kept slots known delayed (number + 1)
one_more slots known delayed before after number h e =
    let f = kept_at slots known delayed in
    let longer : range_with_len 0 (number + 1) ≡ range_with_len 0 number ++ number ∷ [] =
    rw add-one (range_longer 0 number ∙ ap (λ k. range_with_len 0 number ++ k ∷ []) (zero-add number)) in
    e ∙ ap (λ xs. xs ++ f number ∷ []) h ∙ sym (ap (map f) longer ∙ map-append f (range_with_len 0 number) number)

chosen : (b : Bool) (t : Ty) (xs : List Store) (types : List Ty)
    → (xs ++ map default_store (if b then t ∷ [] else [])) ++ map default_store types ≡ xs ++ map default_store (if b then t ∷ types else types)
chosen true t xs types = append_assoc xs (default_store t ∷ []) (map default_store types)
chosen false t xs types = ap (λ ys. ys ++ map default_store types) (append-nil xs)

-- one formal more, of which an output has a store
pub store_more : (before after all : List Store) (formal : Formal) (formals : List Formal)
    → after ≡ before ++ map default_store (if is_same_direction formal.dir dir.Out then formal.ty ∷ [] else [])
    → before ++ map default_store (output_types (formal ∷ formals)) ≡ all → after ++ map default_store (output_types formals) ≡ all
store_more before after all formal formals e h =
    ap (λ xs. xs ++ map default_store (output_types formals)) e ∙ chosen (is_same_direction formal.dir dir.Out) formal.ty before (output_types formals) ∙ h

-- what the outputs keep at first
types_stand : (f : ℕ → Ty) (k : ℕ) (formals : List Formal) → ((j : ℕ) (formal : Formal) → slice_get formals j ≡ Some formal → f (k + j) ≡ formal.ty)
    → map default_store (output_types formals) ≡ map (λ n. default_store (f n)) (numbers_in dir.Out k formals)
types_stand f k [] stands = refl
types_stand f k (formal ∷ formals) stands =
    by_direction (is_same_direction formal.dir dir.Out) (types_stand f (k + 1) formals later_ones)
  where
    later_ones : (j : ℕ) (other : Formal) → slice_get formals j ≡ Some other → f ((k + 1) + j) ≡ other.ty
    later_ones j other h = let next : k + suc j ≡ (k + 1) + j = omega arith in subst (λ q. f q ≡ other.ty) next (stands (suc j) other h)

    here : f k ≡ formal.ty
    here = let none : k + 0 ≡ k = omega arith in subst (λ q. f q ≡ formal.ty) none (stands 0 formal refl)

    by_direction : (b : Bool) → map default_store (output_types formals) ≡ map (λ n. default_store (f n)) (numbers_in dir.Out (k + 1) formals)
        → map default_store (if b then formal.ty ∷ output_types formals else output_types formals)
        ≡ map (λ n. default_store (f n)) (if b then k ∷ numbers_in dir.Out (k + 1) formals else numbers_in dir.Out (k + 1) formals)
    by_direction true rest = ap₂ (λ (x : Store) (xs : List Store). x ∷ xs) (ap default_store (sym here)) rest
    by_direction false rest = rest

pub first_kept : (m : Module) → map default_store (output_types m.formals) ≡ map (λ n. new_store (program_of m) (var.Formal n)) (formals_of dir.Out m)
first_kept m = types_stand (λ n. type_in m (var.Formal n)) 0 m.formals stands where
  stands : (j : ℕ) (formal : Formal) → slice_get m.formals j ≡ Some formal → type_in m (var.Formal (0 + j)) ≡ formal.ty
  stands j formal h =
      let none : 0 + j ≡ j = omega arith in
      ap (λ n. type_in m (var.Formal n)) none ∙ ap (λ (found : Option Formal). option_map_or (λ (one : Formal). one.ty) found ty.Bool) h

-- what is kept by the default is what is kept by the type
kept_as_defined : (class : Class) (t : Ty) (now : Know) (delayed : Later) → kept_by class (default_of t) now delayed ≡ store_of class t now delayed
kept_as_defined Event t now later.Unknown = refl
kept_as_defined Event t now later.Absent = refl
kept_as_defined Event t now (later.Known v) = refl
kept_as_defined Event t now later.Clash = refl
kept_as_defined Mem t know.Unknown later.Unknown = refl
kept_as_defined Mem t know.Unknown later.Absent = refl
kept_as_defined Mem t know.Unknown (later.Known v) = refl
kept_as_defined Mem t know.Unknown later.Clash = refl
kept_as_defined Mem t (know.Known w) later.Unknown = refl
kept_as_defined Mem t (know.Known w) later.Absent = refl
kept_as_defined Mem t (know.Known w) (later.Known v) = refl
kept_as_defined Mem t (know.Known w) later.Clash = refl
kept_as_defined Mem t know.Clash later.Unknown = refl
kept_as_defined Mem t know.Clash later.Absent = refl
kept_as_defined Mem t know.Clash (later.Known v) = refl
kept_as_defined Mem t know.Clash later.Clash = refl

map_range : (f g : ℕ → Store) (k : ℕ) (outputs : List ℕ) → ((j n : ℕ) → slice_get outputs j ≡ Some n → f (k + j) ≡ g n)
    → map f (range_with_len k (length outputs)) ≡ map g outputs
map_range f g k [] same = refl
map_range f g k (n ∷ ns) same =
    ap₂ (λ (x : Store) (xs : List Store). x ∷ xs) here (map_range f g (k + 1) ns later_ones)
  where
    here : f k ≡ g n
    here = let none : k + 0 ≡ k = omega arith in subst (λ q. f q ≡ g n) none (same 0 n refl)

    later_ones : (j o : ℕ) → slice_get ns j ≡ Some o → f ((k + 1) + j) ≡ g o
    later_ones j o h = let next : k + suc j ≡ (k + 1) + j = omega arith in subst (λ q. f q ≡ g o) next (same (suc j) o h)

module _ (m : Module) (e : Environment) (known : List Know) (delayed : List Later) (lists : AreLists (program_of m) e known delayed) where
  -- what the outputs keep is what comes from their instances
  pub kept_as_stored : outputs_kept (map (blank_slot m) (instances_of m)) known delayed (length (formals_of dir.Out m))
      ≡ map (λ n. store_from (passing (program_of m) e) (formal_instance n)) (formals_of dir.Out m)
  kept_as_stored =
      map_range (kept_at (map (blank_slot m) (instances_of m)) known delayed) (λ n. store_from (passing (program_of m) e) (formal_instance n)) 0 (formals_of dir.Out m) same
    where
      at_number : (j n : ℕ) → slice_get (formals_of dir.Out m) j ≡ Some n
          → kept_at (map (blank_slot m) (instances_of m)) known delayed j ≡ store_from (passing (program_of m) e) (formal_instance n)
      at_number j n h =
          let at = output_at m j n h in
          ap (λ (s : Slot). kept_by s.class s.default (get_or known j know.Unknown) (get_or delayed j later.Unknown)) (blank_at m j (formal_instance n) at)
          ∙ ap₂ (kept_by (blank_slot m (formal_instance n)).class (blank_slot m (formal_instance n)).default)
          (found_or known j (e.now (formal_instance n)) know.Unknown (lists.now j (formal_instance n) at))
          (found_or delayed j (e.later (formal_instance n)) later.Unknown (lists.later j (formal_instance n) at))
          ∙ kept_as_defined (blank_slot m (formal_instance n)).class (type_in m (var.Formal n)) (e.now (formal_instance n)) (e.later (formal_instance n))

      same : (j n : ℕ) → slice_get (formals_of dir.Out m) j ≡ Some n
          → kept_at (map (blank_slot m) (instances_of m)) known delayed (0 + j) ≡ store_from (passing (program_of m) e) (formal_instance n)
      same j n h = let none : j ≡ 0 + j = omega arith in
          subst (λ q. kept_at (map (blank_slot m) (instances_of m)) known delayed q ≡ store_from (passing (program_of m) e) (formal_instance n)) none (at_number j n h)

  -- the first of what is known is known of the outputs
  pub known_first : take (length (formals_of dir.Out m)) known ≡ map (λ n. e.now (formal_instance n)) (formals_of dir.Out m)
  known_first = first_of known (formals_of dir.Out m) (λ n. e.now (formal_instance n)) (λ j n h. lists.now j (formal_instance n) (output_at m j n h)) where
    first_of : (ks : List Know) (outputs : List ℕ) (f : ℕ → Know) → ((j n : ℕ) → slice_get outputs j ≡ Some n → slice_get ks j ≡ Some (f n))
        → take (length outputs) ks ≡ map f outputs
    first_of ks [] f stands = refl
    first_of [] (n ∷ ns) f stands = absurd (none≢some (f n) (stands 0 n refl))
    first_of (k ∷ ks) (n ∷ ns) f stands =
        ap₂ (λ (x : Know) (xs : List Know). x ∷ xs) (some_same k (f n) (stands 0 n refl)) (first_of ks ns f (λ j o h. stands (suc j) o h))

known_again : (k : Know) → IsKnown k → know.Known (value_of_known k) ≡ k
known_again know.Unknown h = elim h [ ]
known_again (know.Known v) h = refl
known_again know.Clash h = elim h [ ]

-- outputs that are plain have the values that they give
pub given_known : (e : Environment) (outputs : List ℕ) (stores : List Store) → length stores ≡ length outputs → AllByRecursion (IsPlainAt e) (met_outputs outputs stores)
    → map (λ n. e.now (formal_instance n)) outputs ≡ map (λ v. know.Known v) (map value_of_known (map (λ n. e.now (formal_instance n)) outputs))
given_known e [] stores long all = refl
given_known e (n ∷ ns) [] long all = absurd (omega (arith, long))
given_known e (n ∷ ns) (s ∷ ss) long all =
    ap₂ (λ (x : Know) (xs : List Know). x ∷ xs) (sym (known_again (e.now (formal_instance n)) all.0.now)) (given_known e ns ss (omega (arith, long)) all.1)
