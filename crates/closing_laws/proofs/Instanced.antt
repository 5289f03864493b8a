-- Which instances a program has: of its outputs, and of its locals with their marks.
use Rattle.std.proofs.Common.{◌≡◌, ℕ, zero, suc, ◌+◌, ◌<◌, ◌≤◌, Bool, true, false, List, [], ◌∷◌, map, length, Some, refl, sym, ap, subst, ◌∙◌, ◌⊎◌, inl, inr, arith}
use Rattle.std.specs.Prelude.{◌==◌, if◌then◌else◌, slice_get}
use Rattle.std.specs.List.{flat_map, range_with_len}
use Rattle.qz_values.specs.declared.Ty.{Ty}
use Rattle.qz_syntax.specs.declared.declarations.Dir.{Dir}
use Rattle.qz_syntax.specs.declared.declarations.Dir.TheVariants as dir
use Rattle.qz_syntax.specs.declared.declarations.Formal.{Formal}
use Rattle.qz_syntax.specs.declared.declarations.Port.{Port}
use Rattle.qz_syntax.specs.declared.modules.Module.{Module}
use Rattle.qz_syntax.specs.declared.places.Mark.{Mark}
use Rattle.qz_syntax.specs.Numbers.{contains}
use Rattle.qz_syntax.specs.Marks.{marks_of_local}
use Rattle.qz_meaning.specs.Instances.{Instance, formal_instance, local_instance}
use Rattle.qz_meaning.specs.Programs.{is_same_direction, numbers_in, formals_of, instances_of, times}
use Rattle.qz_meaning.proofs.Lists.{none≢some, some_same}
use Rattle.qz_closing.specs.ProgramParts.{port_of, ports_in, place_of}
use Rattle.qz_closing.proofs.Getting.{get_cases, mapped_cases, range_cases}
use Rattle.closing_laws.proofs.MetNumbers.{has_times}

-- an element of some lists in a row is one of one of them
flat_cases : {A B : Type 0} (f : A → List B) (xs : List A) (k : ℕ) (y : B) → slice_get (flat_map f xs) k ≡ Some y
    → (j : ℕ) × ((x : A) × (slice_get xs j ≡ Some x) × ((i : ℕ) × (slice_get (f x) i ≡ Some y)))
flat_cases f [] k y e = absurd (none≢some y e)
flat_cases f (x ∷ xs) k y e = by (λ i g. flat_cases f xs i y g) (get_cases (f x) (flat_map f xs) k y e) where
  by : ((i : ℕ) → slice_get (flat_map f xs) i ≡ Some y → (j : ℕ) × ((z : _) × (slice_get xs j ≡ Some z) × ((n : ℕ) × (slice_get (f z) n ≡ Some y))))
      → (slice_get (f x) k ≡ Some y) ⊎ ((j : ℕ) × (k ≡ length (f x) + j) × (slice_get (flat_map f xs) j ≡ Some y))
      → (j : ℕ) × ((z : _) × (slice_get (x ∷ xs) j ≡ Some z) × ((i : ℕ) × (slice_get (f z) i ≡ Some y)))
  by later (inl here) = (0, (x, refl, (k, here)))
  by later (inr (j, at, there)) = let more = later j there in (suc more.0, more.1)

module _ (m : Module) where
  abbrev O : List ℕ
  O = formals_of dir.Out m

  -- the only instance of an output
  pub record IsOutputInstance (k : ℕ) (i : Instance) : Type 0 where
    pub number : ℕ
    pub is : i ≡ formal_instance number
    pub at : slice_get O k ≡ Some number

  -- an instance of a local
  pub record IsLocalInstance (i : Instance) : Type 0 where
    pub number : ℕ
    pub by_mark : Mark
    pub is : i ≡ local_instance number by_mark
    pub small : number < length m.decls

  pub instance_cases : (k : ℕ) (i : Instance) → slice_get (instances_of m) k ≡ Some i → IsOutputInstance k i ⊎ IsLocalInstance i
  instance_cases k i e = by (get_cases (map formal_instance O) (flat_map (λ n. map (local_instance n) (marks_of_local m n)) (range_with_len 0 (length m.decls))) k i e) where
    by : (slice_get (map formal_instance O) k ≡ Some i)
        ⊎ ((j : ℕ) × (k ≡ length (map formal_instance O) + j) × (slice_get (flat_map (λ n. map (local_instance n) (marks_of_local m n)) (range_with_len 0 (length m.decls))) j ≡ Some i))
        → IsOutputInstance k i ⊎ IsLocalInstance i
    by (inl here) = let one = mapped_cases formal_instance O k i here in inl record { number = one.0; is = one.2; at = one.1 }
    by (inr (j, at, there)) =
        let one = flat_cases (λ n. map (local_instance n) (marks_of_local m n)) (range_with_len 0 (length m.decls)) j i there in
        let n = one.1.0 in
        let two = mapped_cases (local_instance n) (marks_of_local m n) one.1.2.0 i one.1.2.1 in
        inr record { number = n; by_mark = two.0; is = two.2; small = let r = range_cases 0 (length m.decls) one.0 n one.1.1 in let same = r.0 in let less = r.1 in omega (arith, same, less) }

-- a number that stands in a list
pub stands_once : (xs : List ℕ) (k n : ℕ) → slice_get xs k ≡ Some n → 1 ≤ times n xs
stands_once [] k n e = absurd (none≢some n e)
stands_once (x ∷ xs) zero n e =
    let one : (if x == n then 1 else 0) ≡ 1 = ap {B = ℕ} (λ (t : Bool). if t then 1 else 0) (subst (λ z. (x == z) ≡ true) (some_same _ _ e) (let h : (x == x) ≡ true = grind arith in h)) in
    omega (arith, one)
stands_once (x ∷ xs) (suc k) n e = let one = stands_once xs k n e in omega (arith, one)

-- in a list of numbers of which each stands once, a number's place is where it stands
pub place_number : (xs : List ℕ) (k n : ℕ) → times n xs ≤ 1 → slice_get xs k ≡ Some n → place_of n xs ≡ k
place_number [] k n once e = absurd (none≢some n e)
place_number (x ∷ xs) zero n once e =
    ap {B = ℕ} (λ (t : Bool). if t then 0 else place_of n xs + 1) (subst (λ i. (x == i) ≡ true) (some_same _ _ e) (let h : (x == x) ≡ true = grind arith in h))
place_number (x ∷ xs) (suc k) n once e = by (x == n) refl once (λ h. place_number xs k n h e) (stands_once xs k n e) where
  by : (t : Bool) → (x == n) ≡ t → (if t then 1 else 0) + times n xs ≤ 1 → (times n xs ≤ 1 → place_of n xs ≡ k) → 1 ≤ times n xs
      → (if t then 0 else place_of n xs + 1) ≡ suc k
  by true is most later own = absurd (omega (arith, most, own))
  by false is most later own = let more = later (omega (arith, most)) in omega (arith, more)

-- a number that stands nowhere is not among them
pub not_among : (xs : List ℕ) (n : ℕ) → times n xs ≡ 0 → contains xs n ≡ false
not_among xs n e = by (contains xs n) refl where
  by : (t : Bool) → contains xs n ≡ t → t ≡ false
  by true h = let one = has_times xs n h in absurd (omega (arith, one, e))
  by false h = refl

-- the port of a formal, by its place among those of its direction
pub port_at : (type_of : ℕ → Ty) (d : Dir) (k : ℕ) (formals : List Formal)
    → ((j : ℕ) (formal : Formal) → slice_get formals j ≡ Some formal → type_of (k + j) ≡ formal.ty)
    → (j n : ℕ) → slice_get (numbers_in d k formals) j ≡ Some n → (port : Port) × (slice_get (ports_in d formals) j ≡ Some port) × (port.ty ≡ type_of n)
port_at type_of d k [] typed j n e = absurd (none≢some n e)
port_at type_of d k (formal ∷ formals) typed j n e =
    by (is_same_direction formal.dir d) j e (λ i f. port_at type_of d (k + 1) formals
    (λ s one g. subst (λ z. type_of z ≡ one.ty) (let same : k + suc s ≡ (k + 1) + s = omega arith in same) (typed (suc s) one g)) i n f) where
      by : (t : Bool) (j : ℕ) → slice_get (if t then k ∷ numbers_in d (k + 1) formals else numbers_in d (k + 1) formals) j ≡ Some n
          → ((i : ℕ) → slice_get (numbers_in d (k + 1) formals) i ≡ Some n → (port : Port) × (slice_get (ports_in d formals) i ≡ Some port) × (port.ty ≡ type_of n))
          → (port : Port) × (slice_get (if t then port_of formal ∷ ports_in d formals else ports_in d formals) j ≡ Some port) × (port.ty ≡ type_of n)
      by true zero f later =
          (port_of formal, refl, sym (typed 0 formal refl) ∙ ap type_of (let same : k + 0 ≡ k = omega arith in same) ∙ ap type_of (some_same _ _ f))
      by true (suc i) f later = later i f
      by false i f later = later i f
