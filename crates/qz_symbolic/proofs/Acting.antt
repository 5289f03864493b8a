-- Acts, and the tallies of instances with one act more.
use Rattle.std.proofs.Common.{◌≡◌, ℕ, zero, suc, ◌+◌, ◌<◌, ◌==◌, Bool, true, false, not, List, [], ◌∷◌, drop, drop-cons, length, get_or, Option, Some, None, refl, sym, ap, ap₂, subst, ◌∙◌, arith}
use Rattle.std.specs.Prelude.{slice_get, if◌then◌else◌}
use Rattle.std.specs.Option.{option_map, option_and_then}
use Rattle.std.proofs.Math.Bool.{beq}
use Rattle.std.proofs.Math.ListN.{set}
use Rattle.std.proofs.lemmas.Bool.{and_parts, ltb-true, ne_eqb, eq-eqb}
use Rattle.std.proofs.lemmas.List.{length-set}
use Rattle.std.proofs.lemmas.Option.{slice_get_within}
use Rattle.qz_dd.specs.declared.table.Table.{Table}
use Rattle.qz_dd.specs.Tables.{Reading, Reads, Extends}
use Rattle.qz_values.specs.declared.Ty.{Ty}
use Rattle.qz_values.specs.declared.Ty.TheVariants.{Bool as Truth}
use Rattle.qz_values.specs.declared.Know.{Know}
use Rattle.qz_nets.specs.declared.net.Net.{Net}
use Rattle.qz_nets.specs.Tables.{type_at}
use Rattle.qz_nets.specs.Readings.{type_in}
use Rattle.qz_rails.specs.declared.rail.Rail.{Rail}
use Rattle.qz_rails.specs.Rails.{know_in}
use Rattle.qz_meaning.specs.Verdicts.{Verdict, join, verdict_of_one}
use Rattle.qz_tallies.specs.declared.tally.Tally.{Tally}
use Rattle.qz_tallies.specs.Tallies.{IsTally, verdict_in}
use Rattle.qz_system.specs.declared.parts.Act.{Act}
use Rattle.qz_system.specs.declared.parts.Cell.{Cell}
use Rattle.qz_system.specs.declared.parts.Inst.{Inst}
use Rattle.qz_system.specs.declared.parts.SystemParts.{SystemParts}
use Rattle.qz_system.specs.Parts.{AreParts, cell_type, instance_type, is_instance_right, is_act_right, is_bool_net, are_one}
use Rattle.qz_system.specs.Writers.{is_to, verdict_of_act, tally_of}
use Rattle.qz_system.proofs.Finding.{the_type, one_type, all_at}
use Rattle.qz_system.proofs.TypingLemmas.{instance_within}
use Rattle.qz_symbolic.specs.Knowing.{HaveTallies, HaveAct}
use Rattle.qz_symbolic.proofs.Growing.{all_grow}

-- what an act that is right reads and writes
pub act_guard : (parts : SystemParts) (act : Act) → is_act_right parts act ≡ true → type_in parts.table act.guard.0 ≡ Some Truth
act_guard parts act right = the_type Truth (type_in parts.table act.guard.0) (and_parts (is_bool_net parts act.guard) (are_one (instance_type parts act.instance) (type_in parts.table act.value.0)) right).0

pub act_value : (parts : SystemParts) (act : Act) → is_act_right parts act ≡ true → (ty : Ty) → instance_type parts act.instance ≡ Some ty → type_in parts.table act.value.0 ≡ Some ty
act_value parts act right ty is =
    one_type (instance_type parts act.instance) (type_in parts.table act.value.0)
    (and_parts (is_bool_net parts act.guard) (are_one (instance_type parts act.instance) (type_in parts.table act.value.0)) right).1 ty is

pub act_within : (parts : SystemParts) (act : Act) → is_act_right parts act ≡ true → act.instance < length parts.instances
act_within parts act right =
    by (instance_type parts act.instance) refl (and_parts (is_bool_net parts act.guard) (are_one (instance_type parts act.instance) (type_in parts.table act.value.0)) right).1
  where
    by : (o : Option Ty) → instance_type parts act.instance ≡ o → are_one o (type_in parts.table act.value.0) ≡ true → act.instance < length parts.instances
    by None is h = absurd (cc)
    by (Some ty) is h = instance_within parts act.instance ty is

-- the type of an instance that is there
pub instance_type_read : (parts : SystemParts) (n : ℕ) (one : Inst) (cell : Cell) → slice_get parts.instances n ≡ Some one → slice_get parts.cells one.cell ≡ Some cell
    → instance_type parts n ≡ Some cell.ty
instance_type_read parts n one cell at there =
    ap (option_and_then (λ (x : Inst). cell_type parts x.cell)) at ∙ ap (option_map (λ (x : Cell). x.ty)) there

-- an item of a list in which one was replaced
pub set_cases : {A : Type 0} (xs : List A) (at n : ℕ) (y x : A) → at < length xs → slice_get (set xs at y) n ≡ Some x
    → (P : Type 0) → (at ≡ n → y ≡ x → P) → ((at ≡ n → ⊥) → slice_get xs n ≡ Some x → P) → P
set_cases [] at n y x within is P same other = absurd (omega (arith, within))
set_cases (z ∷ xs) zero zero y x within is P same other = same refl (cc)
set_cases (z ∷ xs) zero (suc n) y x within is P same other = other (λ e. omega (arith, e)) is
set_cases (z ∷ xs) (suc at) zero y x within is P same other = other (λ e. omega (arith, e)) is
set_cases (z ∷ xs) (suc at) (suc n) y x within is P same other =
    set_cases xs at n y x (omega (arith, within)) is P (λ e. same (ap suc e)) (λ ne. other (λ e. ne (omega (arith, e))))

-- tallies of a table that grew
pub tally_grows : (first second : Table) (ty : Ty) (tally : Tally) → Extends first second → IsTally first ty tally → IsTally second ty tally
tally_grows first second ty tally one is =
    let longer = one.longer in
    record {
      torn = let small = is.torn in omega (arith, small, longer);
      one = let small = is.one in omega (arith, small, longer);
      nobody = let small = is.nobody in omega (arith, small, longer);
      bits = all_grow first second one tally.bits.items is.bits;
      width = is.width;
    }

pub tallies_grow : (first second : Table) (parts : SystemParts) (tallies : List Tally) → Extends first second → HaveTallies first parts tallies → HaveTallies second parts tallies
tallies_grow first second parts tallies one have = record {
  long = have.long;
  fits = λ n ty tally typed at. tally_grows first second ty tally one (have.fits n ty tally typed at);
}

-- an act is on its own instance alone
to_other : (n : ℕ) (delayed : Bool) (act : Act) → (act.instance ≡ n → ⊥) → is_to n delayed act ≡ false
to_other n true act ne = by act.delayed
  where
    by : (d : Bool) → (if d then act.instance == n else false) ≡ false
    by true = ne_eqb act.instance n ne
    by false = refl
to_other n false act ne = by act.delayed
  where
    by : (d : Bool) → (if d then false else act.instance == n) ≡ false
    by true = refl
    by false = ne_eqb act.instance n ne

to_own : (n : ℕ) (delayed : Bool) (act : Act) → act.delayed ≡ delayed → act.instance ≡ n → is_to n delayed act ≡ true
to_own n true act is e = ap (λ b. if b then act.instance == n else false) is ∙ eq-eqb act.instance n e
to_own n false act is e = ap (λ b. if b then false else act.instance == n) is ∙ eq-eqb act.instance n e

of_other_kind : (n : ℕ) (delayed : Bool) (act : Act) → (act.delayed ≡ delayed → ⊥) → is_to n delayed act ≡ false
of_other_kind n true act ne = by act.delayed refl
  where
    by : (d : Bool) → act.delayed ≡ d → (if d then act.instance == n else false) ≡ false
    by true is = absurd (ne is)
    by false is = refl
of_other_kind n false act ne = by act.delayed refl
  where
    by : (d : Bool) → act.delayed ≡ d → (if d then false else act.instance == n) ≡ false
    by true is = refl
    by false is = absurd (ne is)

-- an act that is not asked for
pub act_skipped : (table : Table) (parts : SystemParts) (rails : List Rail) (delayed : Bool) (act : Act) (tallies : List Tally) → (act.delayed ≡ delayed → ⊥)
    → HaveAct table parts rails delayed act tallies tallies
act_skipped table parts rails delayed act tallies ne = record {
  says = λ n ty one next typed at there reading reads know known.
      let same : one ≡ next = let both : Some one ≡ Some next = sym at ∙ there in cc in
      ap (λ t. verdict_in reading ty t) (sym same)
      ∙ ap (λ b. if b then join (verdict_in reading ty one) (verdict_of_act know act) else verdict_in reading ty one) (sym (of_other_kind n delayed act ne));
}

-- one that is
pub act_added : (table : Table) (parts : SystemParts) (rails : List Rail) (delayed : Bool) (act : Act) → is_act_right parts act ≡ true → act.delayed ≡ delayed
    → (tallies : List Tally) (ty : Ty) → instance_type parts act.instance ≡ Some ty → act.instance < length tallies
    → (old more : Tally) (guard value : Rail) → slice_get tallies act.instance ≡ Some old → slice_get rails act.guard.0 ≡ Some guard → slice_get rails act.value.0 ≡ Some value
    → ((reading : Reading) → Reads reading table → verdict_in reading ty more ≡ join (verdict_in reading ty old) (verdict_of_one (know_in reading Truth guard) (know_in reading ty value)))
    → HaveAct table parts rails delayed act tallies (set tallies act.instance more)
act_added table parts rails delayed act right is tallies ty typed within old more guard value at guard_is value_is means = record {
  says = λ n t one next typed_n at_n there reading reads know known.
      set_cases tallies act.instance n more next within there
      (verdict_in reading t next ≡ (if is_to n delayed act then join (verdict_in reading t one) (verdict_of_act know act) else verdict_in reading t one))
      (λ e same.
      let types : Some ty ≡ Some t = sym typed ∙ ap (instance_type parts) e ∙ typed_n in
      let ty_is : ty ≡ t = cc in
      let olds : Some old ≡ Some one = sym at ∙ ap (slice_get tallies) e ∙ at_n in
      let old_is : old ≡ one = cc in
      ap₂ (λ (u : Ty) (x : Tally). verdict_in reading u x) (sym ty_is) (sym same)
      ∙ means reading reads
      ∙ ap₂ (λ (g v : Know). join (verdict_in reading ty old) (verdict_of_one g v))
      (known.each act.guard.0 Truth guard (act_guard parts act right) guard_is) (known.each act.value.0 ty value (act_value parts act right ty typed) value_is)
      ∙ ap₂ (λ (u : Ty) (x : Tally). join (verdict_in reading u x) (verdict_of_act know act)) ty_is old_is
      ∙ ap (λ b. if b then join (verdict_in reading t one) (verdict_of_act know act) else verdict_in reading t one) (sym (to_own n delayed act is e)))
      (λ ne at_other.
      let both : Some next ≡ Some one = sym at_other ∙ at_n in
      let same : next ≡ one = cc in
      ap (λ x. verdict_in reading t x) same
      ∙ ap (λ b. if b then join (verdict_in reading t one) (verdict_of_act know act) else verdict_in reading t one) (sym (to_other n delayed act ne)));
}

pub added_have : (table : Table) (parts : SystemParts) (tallies : List Tally) (n : ℕ) (ty : Ty) (more : Tally) → instance_type parts n ≡ Some ty → n < length tallies
    → HaveTallies table parts tallies → IsTally table ty more → HaveTallies table parts (set tallies n more)
added_have table parts tallies n ty more typed within have fits = record {
  long = length-set tallies n more ∙ have.long;
  fits = λ k t tally typed_k at.
      set_cases tallies n k more tally within at (IsTally table t tally)
      (λ e same.
      let types : Some ty ≡ Some t = sym typed ∙ ap (instance_type parts) e ∙ typed_k in
      let ty_is : ty ≡ t = cc in
      subst (λ x. IsTally table t x) same (subst (λ u. IsTally table u more) ty_is fits))
      (λ ne there. have.fits k t tally typed_k there);
}

-- one act more of all
pub acts_more : (know : ℕ → Know) (n : ℕ) (delayed : Bool) (so_far more : Verdict) (acts : List Act) (i : ℕ) (act : Act) → i < length acts → act ≡ get_or acts i act
    → more ≡ (if is_to n delayed act then join so_far (verdict_of_act know act) else so_far)
    → tally_of know n delayed more (drop (i + 1) acts) ≡ tally_of know n delayed so_far (drop i acts)
acts_more know n delayed so_far more acts i act below is more_is =
    let e : i + 1 ≡ suc i = omega arith in
    ap₂ (λ (w : Verdict) (k : ℕ). tally_of know n delayed w (drop k acts)) more_is e
    ∙ ap (λ (a : Act). tally_of know n delayed (if is_to n delayed a then join so_far (verdict_of_act know a) else so_far) (drop (suc i) acts)) is
    ∙ ap (tally_of know n delayed so_far) (sym (drop-cons acts i act below))

-- a net that has a type is there
pub typed_within : (entries : List (Net × Ty)) (n : ℕ) (ty : Ty) → type_at entries n ≡ Some ty → n < length entries
typed_within entries n ty is = by (slice_get entries n) refl is
  where
    by : (o : Option (Net × Ty)) → slice_get entries n ≡ o → option_map (λ entry. entry.1) o ≡ Some ty → n < length entries
    by None at has = absurd (cc)
    by (Some entry) at has = slice_get_within entries n entry at

-- the cell of an instance is there
pub cell_there : (parts : SystemParts) → AreParts parts → (n : ℕ) (one : Inst) → slice_get parts.instances n ≡ Some one → one.cell < length parts.cells
cell_there parts are n one at = ltb-true one.cell (length parts.cells) (all_at (λ x. is_instance_right parts x) parts.instances are.is_ordered.instance_cells n one at)

-- where a test that two bools differ fails
pub same_kind : (a b : Bool) → not (beq a b) ≡ false → a ≡ b
same_kind true true h = refl
same_kind true false h = absurd (cc)
same_kind false true h = absurd (cc)
same_kind false false h = refl
