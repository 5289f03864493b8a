-- An instance that a step meets begins with the same store in the system and in the program.
use Rattle.std.proofs.Common.{◌≡◌, ℕ, zero, suc, ◌+◌, ◌≤◌, Bool, true, false, ◌&&◌, ◌||◌, List, [], ◌∷◌, length, Option, Some, None, refl, sym, ap, ap₂, subst, ◌∙◌, ◌⊎◌, inl, inr, arith}
use Rattle.std.specs.Prelude.{◌==◌, if◌then◌else◌, slice_get, is_some, unwrap_or, nat_lt}
use Rattle.std.specs.List.{AllByRecursion}
use Rattle.std.proofs.lemmas.Bool.{false≢true, and_parts, eqb-true, lt-ltb}
use Rattle.std.proofs.lemmas.Bool.Decides.{nat_tests}
use Rattle.std.proofs.lemmas.Option.{get_or_from_slice_get, slice_get_within}
use Rattle.qz_values.specs.declared.Ty.{Ty}
use Rattle.qz_values.specs.Values.{value_of, bits_of, type_of}
use Rattle.qz_values.proofs.Typed.{same-is_same_type}
use Rattle.qz_syntax.specs.declared.declarations.Dir.TheVariants as dir
use Rattle.qz_syntax.specs.declared.expressions.Var.{Var}
use Rattle.qz_syntax.specs.declared.expressions.Var.TheVariants as var
use Rattle.qz_syntax.specs.declared.modules.Whole.{Whole}
use Rattle.qz_syntax.specs.declared.places.Mark.{Mark}
use Rattle.qz_syntax.specs.declared.places.Mark.TheVariants as mark
use Rattle.qz_syntax.specs.declared.places.Store.{Store}
use Rattle.qz_syntax.specs.declared.places.Place.{Place}
use Rattle.qz_syntax.specs.declared.places.Place.TheVariants as place
use Rattle.qz_syntax.specs.WellFormed.{IsWellFormed}
use Rattle.qz_meaning.specs.Instances.{Instance, is_same_mark, formal_instance, local_instance}
use Rattle.qz_meaning.specs.Scenes.{default_store}
use Rattle.qz_meaning.specs.Layouts.{Met}
use Rattle.qz_meaning.specs.Programs.{Program, formals_of, type_in, program_of, times}
use Rattle.qz_meaning.specs.Configurations.{Configuration, layout_of, new_store}
use Rattle.qz_meaning.specs.Settling.{met_at, met_outputs, step_met, store_in, met_as}
use Rattle.qz_meaning.specs.MeetingLaws.{IsMetAlone}
use Rattle.qz_meaning.specs.Valuations.{Valuation as OfProgram, IsPermitted, IsPermittedPlace, stores_at_place, store_among}
use Rattle.qz_meaning.proofs.Lists.{all_parts, all_join, none≢some, some_same}
use Rattle.qz_meaning.proofs.Finding.{met_found, same_mark}
use Rattle.qz_meaning.proofs.Orderly.{own_numbers, met_alone}
use Rattle.qz_system.specs.declared.parts.SystemParts.{SystemParts}
use Rattle.qz_system.specs.declared.valuation.Valuation.{Valuation}
use Rattle.qz_system.specs.Valuations.{no_store, store_of, lives_at}
use Rattle.qz_system.specs.Rounds.{stored, keeps, begins}
use Rattle.qz_system.specs.Nexts.{as_bits}
use Rattle.qz_closing.specs.ProgramParts.{place_of, cell_of, inst_of}
use Rattle.qz_closing.specs.Encoding.{stored_bits, Encodes}
use Rattle.qz_closing.specs.Shaped.{HasShape}
use Rattle.qz_closing.proofs.Permitted.{Kept, kept_here, lives_here, item_output, item_local, outputs_long_too, output_at}
use Rattle.qz_closing.proofs.ShapeLives.{has}
use Rattle.closing_laws.proofs.KeptMet.{kept_met, IsKeptSo, KeepsMet, statements_keep}
use Rattle.closing_laws.proofs.Instanced.{IsOutputInstance, IsLocalInstance, instance_cases, place_number}

-- a store goes into bits and back where its value is of the type
stored_back : (t : Ty) (s : Store) → type_of s.value ≡ t → stored t (as_bits s) ≡ s
stored_back t s e = ap (λ (i : Ty). record { value = value_of i (bits_of s.value); pending = s.pending }) (sym e)

-- where a local has a store, each entry of it is found
found_each : (stores : List (ℕ × Store)) → AllByRecursion (λ (one : ℕ × Store). has stores one.0 ≡ true) stores
found_each stores = from stores (λ n h. h) where
  from : (rest : List (ℕ × Store)) → ((n : ℕ) → has rest n ≡ true → has stores n ≡ true) → AllByRecursion (λ (one : ℕ × Store). has stores one.0 ≡ true) rest
  from [] more = tt
  from (one ∷ rest) more = (more one.0 (here one rest), from rest (λ n h. more n (later one rest n h))) where
    here : (first : ℕ × Store) (others : List (ℕ × Store)) → has (first ∷ others) first.0 ≡ true
    here first others = by (first.0 == first.0) (let h : (first.0 == first.0) ≡ true = grind arith in h) where
      by : (t : Bool) → t ≡ true → is_some (if t then Some first.1 else store_among others first.0) ≡ true
      by true e = refl
      by false e = absurd (false≢true e)

    later : (first : ℕ × Store) (others : List (ℕ × Store)) (n : ℕ) → has others n ≡ true → has (first ∷ others) n ≡ true
    later first others n h = by (first.0 == n) where
      by : (t : Bool) → is_some (if t then Some first.1 else store_among others n) ≡ true
      by true = refl
      by false = h

-- an entry that is found is one of the entries
entry_found : (R : ℕ → Store → Type 0) (stores : List (ℕ × Store)) (n : ℕ) (s : Store) → AllByRecursion (λ (one : ℕ × Store). R one.0 one.1) stores
    → store_among stores n ≡ Some s → R n s
entry_found R [] n s all e = absurd (none≢some s e)
entry_found R (one ∷ stores) n s all e = by (one.0 == n) refl e (λ f. entry_found R stores n s all.1 f) where
  by : (t : Bool) → (one.0 == n) ≡ t → (if t then Some one.1 else store_among stores n) ≡ Some s → (store_among stores n ≡ Some s → R n s) → R n s
  by true is f later = subst (λ i. R i s) (eqb-true one.0 n is) (subst (R one.0) (some_same _ _ f) all.0)
  by false is f later = later f

-- an instance of a formal
abbrev IsFormalMet : Met → Type 0
IsFormalMet one = (n : ℕ) × (one.instance ≡ formal_instance n)

outputs_formal : (outputs : List ℕ) (stores : List Store) → AllByRecursion IsFormalMet (met_outputs outputs stores)
outputs_formal [] stores = tt
outputs_formal (n ∷ outputs) [] = tt
outputs_formal (n ∷ outputs) (s ∷ stores) = ((n, refl), outputs_formal outputs stores)

-- the output at a place is met with its store
output_met_at : (P : Met → Type 0) (outputs : List ℕ) (stores : List Store) (k n : ℕ) (s : Store) → slice_get outputs k ≡ Some n → slice_get stores k ≡ Some s
    → AllByRecursion P (met_outputs outputs stores) → P record { instance = formal_instance n; store = Some s }
output_met_at P [] stores k n s e f all = absurd (none≢some n e)
output_met_at P (x ∷ outputs) [] k n s e f all = absurd (none≢some s f)
output_met_at P (x ∷ outputs) (z ∷ stores) zero n s e f all =
    subst P (ap₂ (λ (i : ℕ) (j : Store). record { instance = formal_instance i; store = Some j }) (some_same _ _ e) (some_same _ _ f)) all.0
output_met_at P (x ∷ outputs) (z ∷ stores) (suc k) n s e f all = output_met_at P outputs stores k n s e f all.1

local≢formal : (n k : ℕ) (m : Mark) → local_instance n m ≡ formal_instance k → ⊥
local≢formal n k m e = false≢true (ap (λ (i : Instance). is_formal i.variable) e) where
  is_formal : Var → Bool
  is_formal (var.Formal i) = true
  is_formal (var.Local i) = false
  is_formal (var.Bound i) = false

local_number : (n k : ℕ) (a b : Mark) → local_instance n a ≡ local_instance k b → n ≡ k
local_number n k a b e = ap (λ (i : Instance). number i.variable) e where
  number : Var → ℕ
  number (var.Formal i) = i
  number (var.Local i) = i
  number (var.Bound i) = i

module _ (w : Whole) (parts : SystemParts) (well : IsWellFormed [] w.module) (texts : length w.names.places ≡ length w.module.labels) (h : HasShape w parts)
    (at : OfProgram) (permitted : IsPermitted (program_of w.module) at) (v : Valuation) (e : Encodes (program_of w.module) at v) where
  abbrev p : Program
  p = program_of w.module

  abbrev c : Configuration
  c = at.configuration

  abbrev O : List ℕ
  O = formals_of dir.Out w.module

  abbrev S : List (ℕ × Store)
  S = stores_at_place p c.place

  kept : Kept w parts well texts h c v
  kept = kept_here w parts well texts h at permitted v e

  -- an instance that is met is the one that is found
  abbrev IsFound : Met → Type 0
  IsFound one = met_as one.instance (step_met p c) ≡ Some one

  all_found : AllByRecursion IsFound (step_met p c)
  all_found = found (step_met p c) (met_alone p (own_numbers w.module well.numbered) c at.inputs) where
    found : (met : List Met) → AllByRecursion (IsMetAlone p c at.inputs) met → AllByRecursion IsFound met
    found [] all = tt
    found (one ∷ met) all = (all.0.found, found met all.1)

  found_parts : AllByRecursion IsFound (met_outputs p.outputs c.outputs) × AllByRecursion IsFound (met_at (layout_of p) c.place)
  found_parts = all_parts IsFound (met_outputs p.outputs c.outputs) (met_at (layout_of p) c.place) all_found

  abbrev Q : ℕ → Store → Type 0
  Q n s = has S n ≡ true

  keeps_met : KeepsMet IsFound Q (layout_of p)
  keeps_met = statements_keep IsFound Q w.module.body

  -- what is kept is met so
  kept_found : (where_at : Place) → c.place ≡ where_at → IsPermittedPlace p c where_at → AllByRecursion IsFound (met_at (layout_of p) where_at)
      → AllByRecursion (λ (one : ℕ × Store). IsFound (kept_met one.0 one.1)) (stores_at_place p where_at)
  kept_found place.NotStarted there fine all = tt
  kept_found (place.Rest r) there fine all = keeps_met.met r (and_parts _ _ fine).0 all
  kept_found place.Ended there fine all = tt

  kept_is_found : AllByRecursion (λ (one : ℕ × Store). IsFound (kept_met one.0 one.1)) S
  kept_is_found = kept_found c.place refl permitted.place found_parts.1

  -- and what is met with a store is kept
  so_kept : (where_at : Place) → c.place ≡ where_at → IsPermittedPlace p c where_at → AllByRecursion (IsKeptSo IsFound Q) (met_at (layout_of p) where_at)
  so_kept place.NotStarted there fine = keeps_met.new mark.Zero
  so_kept (place.Rest r) there fine =
      keeps_met.back r (and_parts _ _ fine).0 (subst (λ (stores : List (ℕ × Store)). AllByRecursion (λ (one : ℕ × Store). has S one.0 ≡ true) stores) (ap (stores_at_place p) there) (found_each S))
  so_kept place.Ended there fine = tt

  abbrev IsFine : Met → Type 0
  IsFine one = IsFormalMet one ⊎ IsKeptSo IsFound Q one

  all_fine : AllByRecursion IsFine (step_met p c)
  all_fine =
      all_join IsFine (met_outputs p.outputs c.outputs) (met_at (layout_of p) c.place) (formal (met_outputs p.outputs c.outputs) (outputs_formal p.outputs c.outputs))
      (local (met_at (layout_of p) c.place) (so_kept c.place refl permitted.place)) where
        formal : (met : List Met) → AllByRecursion IsFormalMet met → AllByRecursion IsFine met
        formal [] all = tt
        formal (one ∷ met) all = (inl all.0, formal met all.1)

        local : (met : List Met) → AllByRecursion (IsKeptSo IsFound Q) met → AllByRecursion IsFine met
        local [] all = tt
        local (one ∷ met) all = (inr all.0, local met all.1)

  module _ (k : ℕ) (i : Instance) (one : Met) (number : slice_get p.instances k ≡ Some i) (met : met_as i (step_met p c) ≡ Some one) where
    fine : IsFine one × (one.instance ≡ i)
    fine = met_found IsFine (step_met p c) i one all_fine met

    -- whoever is found for the instance is this one
    only : (other : Met) → other.instance ≡ i → IsFound other → one ≡ other
    only other same found = some_same _ _ (sym met ∙ ap (λ j. met_as j (step_met p c)) (sym same) ∙ found)

    begins_output : IsOutputInstance w.module k i → begins parts v (inst_of w i) (cell_of w i.variable) ≡ store_in p one
    begins_output o =
        let store = output_at p O c.outputs kept.outputs k o.number o.at in
        let found : one ≡ record { instance = formal_instance o.number; store = Some store.0 } =
        only (record { instance = formal_instance o.number; store = Some store.0 }) (sym o.is)
        (output_met_at IsFound p.outputs c.outputs k o.number store.0 o.at store.1 found_parts.0) in
        let once : times o.number O ≤ 1 = let most = (own_numbers w.module well.numbered).formals o.number in omega (arith, most) in
        let place_is : place_of o.number O ≡ k = place_number O k o.number once o.at in
        let small : nat_lt (place_of o.number O) (length parts.outputs) ≡ true =
        subst (λ n. nat_lt n (length parts.outputs) ≡ true) (sym place_is)
        (subst (λ n. nat_lt k n ≡ true) (sym (outputs_long_too w parts well texts h)) (lt-ltb k (length O) (slice_get_within O k o.number o.at))) in
        let bits : store_of v (place_of o.number O) ≡ as_bits store.0 =
        ap (store_of v) place_is ∙ get_or_from_slice_get v.stores.items k (as_bits store.0) no_store (item_output w parts well texts h c v kept k store.0 store.1) in
        ap (λ (j : Instance). begins parts v (inst_of w j) (cell_of w j.variable)) o.is
        ∙ ap (λ t. if t || ((true) && lives_at parts v (place_of o.number O)) then stored (type_in w.module (var.Formal o.number)) (store_of v (place_of o.number O))
        else default_store (type_in w.module (var.Formal o.number))) small
        ∙ ap (stored (type_in w.module (var.Formal o.number))) bits
        ∙ stored_back (type_in w.module (var.Formal o.number)) store.0 (same-is_same_type _ _ (and_parts _ _ (and_parts _ _ store.2).0).0)
        ∙ sym (ap (store_in p) found)

    -- a local, whose scope is kept or new
    module _ (l : IsLocalInstance w.module i) where
      abbrev n : ℕ
      n = l.number

      abbrev T : Ty
      T = type_in w.module (var.Local n)

      past : nat_lt (length O + n) (length parts.outputs) ≡ false
      past = let long = outputs_long_too w parts well texts h in grind (arith, nat_tests, long)

      keeps_is : keeps parts v (inst_of w (local_instance n l.by_mark)) ≡ (is_same_mark l.by_mark mark.Zero && has S n)
      keeps_is = ap₂ (λ s t. s || (is_same_mark l.by_mark mark.Zero && t)) past (lives_here w parts well texts h at permitted v e n)

      old : (s : Store) → store_among S n ≡ Some s → is_same_mark l.by_mark mark.Zero ≡ true → stored T (store_of v (length O + n)) ≡ store_in p one
      old s found zero_mark =
          let same : one ≡ kept_met n s = only (kept_met n s) (ap (local_instance n) (sym (same_mark l.by_mark mark.Zero zero_mark)) ∙ sym l.is)
          (entry_found (λ j z. IsFound (kept_met j z)) S n s kept_is_found found) in
          let bits : store_of v (length O + n) ≡ as_bits s =
          get_or_from_slice_get v.stores.items (length O + n) _ no_store (item_local w parts well texts h c v kept n l.small ∙ ap (λ o. Some (stored_bits o)) found) in
          ap (stored T) bits ∙ stored_back T s (same-is_same_type _ _ (and_parts _ _ (and_parts _ _ (kept.locals n s found)).0).0) ∙ sym (ap (store_in p) same)

      fresh : (is_same_mark l.by_mark mark.Zero && has S n) ≡ false → IsFine one → one.instance ≡ i → default_store T ≡ store_in p one
      fresh none (inl (j, is)) same = absurd (local≢formal n j l.by_mark (sym (same ∙ l.is) ∙ is))
      fresh none (inr (inl nothing)) same =
          sym (ap₂ (λ (o : Option Store) (j : Instance). unwrap_or o (new_store p j.variable)) nothing (same ∙ l.is))
      fresh none (inr (inr (j, (s, is, had)))) same =
          let both : local_instance n l.by_mark ≡ local_instance j mark.Zero = sym (same ∙ l.is) ∙ ap (λ (m : Met). m.instance) is in
          let zero_mark : is_same_mark l.by_mark mark.Zero ≡ true = ap (λ (a : Instance). is_same_mark a.mark mark.Zero) both in
          let had_too : has S n ≡ true = subst (λ a. has S a ≡ true) (sym (local_number n j l.by_mark mark.Zero both)) had in
          absurd (false≢true (sym none ∙ ap₂ (λ a b. a && b) zero_mark had_too))

      by_kept : (t u : Bool) → is_same_mark l.by_mark mark.Zero ≡ t → has S n ≡ u
          → (if t && u then stored T (store_of v (length O + n)) else default_store T) ≡ store_in p one
      by_kept true true f g = old_found (store_among S n) refl g f where
        old_found : (o : Option Store) → store_among S n ≡ o → is_some (store_among S n) ≡ true → is_same_mark l.by_mark mark.Zero ≡ true
            → stored T (store_of v (length O + n)) ≡ store_in p one
        old_found None found some zero_mark = absurd (false≢true (sym (ap is_some found) ∙ some))
        old_found (Some s) found some zero_mark = old s found zero_mark
      by_kept true false f g = fresh (ap₂ (λ a b. a && b) f g) fine.0 fine.1
      by_kept false u f g = fresh (ap (λ a. a && has S n) f) fine.0 fine.1

      begins_local : begins parts v (inst_of w i) (cell_of w i.variable) ≡ store_in p one
      begins_local =
          ap (λ (j : Instance). begins parts v (inst_of w j) (cell_of w j.variable)) l.is
          ∙ ap (λ t. if t then stored T (store_of v (length O + n)) else default_store T) keeps_is
          ∙ by_kept (is_same_mark l.by_mark mark.Zero) (has S n) refl refl

    pub begins_same : begins parts v (inst_of w i) (cell_of w i.variable) ≡ store_in p one
    begins_same = by (instance_cases w.module k i number) where
      by : IsOutputInstance w.module k i ⊎ IsLocalInstance w.module i → begins parts v (inst_of w i) (cell_of w i.variable) ≡ store_in p one
      by (inl o) = begins_output o
      by (inr l) = begins_local l
