-- What a system knows at a valuation and what an environment of the program says agree wherever the step looks.
use Rattle.std.proofs.Common.{◌≡◌, ℕ, zero, suc, ◌+◌, ◌≤◌, true, false, List, [], ◌∷◌, map, length, Option, Some, refl, sym, ap, ap₂, ◌∙◌, ◌⊎◌, inl, inr, arith}
use Rattle.std.specs.Prelude.{if◌then◌else◌, slice_get, slice_index_or}
use Rattle.std.specs.Option.{option_map_or}
use Rattle.std.specs.List.{AllByRecursion}
use lib.ListN.{length-map}
use Rattle.std.proofs.lemmas.Bool.{false≢true, and_parts}
use Rattle.std.proofs.lemmas.Option.{get_or_from_slice_get}
use Rattle.qz_values.specs.declared.Ty.{Ty}
use Rattle.qz_values.specs.declared.Ty.TheVariants as ty
use Rattle.qz_values.specs.declared.Value.{Value}
use Rattle.qz_values.specs.declared.Know.{Know}
use Rattle.qz_values.specs.declared.Know.TheVariants.{Unknown, Known}
use Rattle.qz_values.specs.Values.{value_of, bits_of, type_of}
use Rattle.qz_values.proofs.Typed.{same-is_same_type}
use Rattle.qz_syntax.specs.declared.declarations.Dir.TheVariants as dir
use Rattle.qz_syntax.specs.declared.declarations.Formal.{Formal}
use Rattle.qz_syntax.specs.declared.declarations.Port.{Port}
use Rattle.qz_syntax.specs.declared.expressions.Var.TheVariants as var
use Rattle.qz_syntax.specs.declared.modules.Whole.{Whole}
use Rattle.qz_syntax.specs.Numbers.{contains}
use Rattle.qz_syntax.specs.WellFormed.{IsWellFormed}
use Rattle.qz_meaning.specs.Instances.{Instance, formal_instance}
use Rattle.qz_meaning.specs.Layouts.{Met}
use Rattle.qz_meaning.specs.Programs.{Program, formals_of, type_in, instances_of, program_of, times}
use Rattle.qz_meaning.specs.Configurations.{is_of_type, are_inputs}
use Rattle.qz_meaning.specs.Settling.{Environment, step_writes, step_met}
use Rattle.qz_meaning.specs.Rounds.{AgreeAt, AgreeWhereMet}
use Rattle.qz_meaning.specs.MacroSteps.{HasInputs}
use Rattle.qz_meaning.specs.MeetingLaws.{IsMetAlone}
use Rattle.qz_meaning.specs.Valuations.{Valuation as OfProgram, IsPermitted}
use Rattle.qz_meaning.proofs.Lists.{none≢some, some_same}
use Rattle.qz_meaning.proofs.Orderly.{own_numbers, met_alone}
use Rattle.qz_meaning.proofs.OneRun.{permitted_is_valuation}
use Rattle.qz_interp.proofs.Distinct.{instances_distinct}
use Rattle.qz_system.specs.declared.parts.SystemLeaf.TheVariants as leaf
use Rattle.qz_system.specs.declared.parts.SystemParts.{SystemParts}
use Rattle.qz_system.specs.declared.valuation.Valuation.{Valuation}
use Rattle.qz_system.specs.Rounds.{leaf_known}
use Rattle.qz_closing.specs.ProgramParts.{place_of}
use Rattle.qz_closing.specs.Encoding.{Encodes}
use Rattle.qz_closing.specs.Closes.{KnowsAlike}
use Rattle.qz_closing.proofs.Getting.{get_mapped, mapped_cases, lists_same, got_among}
use Rattle.step_laws.proofs.StepReads.{writes_read}
use Rattle.qz_single.specs.Numbering.{place_among, instance_place}
use Rattle.qz_single.specs.Made.{IsSystemOf}
use Rattle.closing_laws.proofs.Places.{place_at}
use Rattle.closing_laws.proofs.Numbered.{HasPlace, met_placed}
use Rattle.closing_laws.proofs.Instanced.{IsOutputInstance, IsLocalInstance, instance_cases, place_number, not_among, stands_once, port_at}
use Rattle.closing_laws.proofs.Seeing.{scene_of}

-- the value of an input in a row that has one for each
input_at : (p : Program) (numbers : List ℕ) (row : List Value) → are_inputs p numbers row ≡ true → (k n : ℕ) → slice_get numbers k ≡ Some n
    → (v : Value) × (slice_get row k ≡ Some v) × (type_of v ≡ p.type_of (var.Formal n))
input_at p [] row h k n e = absurd (none≢some n e)
input_at p (x ∷ numbers) [] h k n e = absurd (false≢true h)
input_at p (x ∷ numbers) (v ∷ row) h zero n e =
    (v, refl, same-is_same_type _ _ (and_parts _ _ (and_parts _ _ h).0).0 ∙ ap (λ i. p.type_of (var.Formal i)) (some_same _ _ e))
input_at p (x ∷ numbers) (v ∷ row) h (suc k) n e = input_at p numbers row (and_parts _ _ h).1 k n e

typed_at : (p : Program) (numbers : List ℕ) (row : List Value) → are_inputs p numbers row ≡ true → (k n : ℕ) (v : Value) → slice_get numbers k ≡ Some n → slice_get row k ≡ Some v
    → is_of_type (p.type_of (var.Formal n)) v ≡ true
typed_at p [] row h k n v e f = absurd (none≢some n e)
typed_at p (x ∷ numbers) [] h k n v e f = absurd (none≢some v f)
typed_at p (x ∷ numbers) (z ∷ row) h zero n v e f =
    ap₂ (λ (i : ℕ) (j : Value). is_of_type (p.type_of (var.Formal i)) j) (sym (some_same _ _ e)) (sym (some_same _ _ f)) ∙ (and_parts _ _ h).0
typed_at p (x ∷ numbers) (z ∷ row) h (suc k) n v e f = typed_at p numbers row (and_parts _ _ h).1 k n v e f

row_long : (p : Program) (numbers : List ℕ) (row : List Value) → are_inputs p numbers row ≡ true → length row ≡ length numbers
row_long p [] [] h = refl
row_long p [] (v ∷ row) h = absurd (false≢true h)
row_long p (x ∷ numbers) [] h = absurd (false≢true h)
row_long p (x ∷ numbers) (v ∷ row) h = ap suc (row_long p numbers row (and_parts _ _ h).1)

module _ (w : Whole) (parts : SystemParts) (sys : IsSystemOf w parts) (well : IsWellFormed [] w.module)
    (at : OfProgram) (permitted : IsPermitted (program_of w.module) at) (v : Valuation) (e : Encodes (program_of w.module) at v) (before : List Know) where
  abbrev p : Program
  p = program_of w.module

  abbrev I : List ℕ
  I = formals_of dir.In w.module

  abbrev scene : Instance → Know
  scene = scene_of w parts v before

  output_no_input : (n : ℕ) → 1 ≤ times n (formals_of dir.Out w.module) → contains I n ≡ false
  output_no_input n own = let most = (own_numbers w.module well.numbered).formals n in not_among I n (omega (arith, own, most))

  -- what an instance with a number is known as
  pub scene_at : (k : ℕ) (i : Instance) → slice_get p.instances k ≡ Some i → scene i ≡ slice_index_or before k Unknown
  scene_at k i found = by (instance_cases w.module k i found) where
    number_is : place_among i (instances_of w.module) ≡ k
    number_is = place_at (instances_of w.module) (instances_distinct w.module well.numbered) k i found

    by : IsOutputInstance w.module k i ⊎ IsLocalInstance w.module i → scene i ≡ slice_index_or before k Unknown
    by (inl o) =
        ap scene o.is
        ∙ ap (λ t. leaf_known parts v before (if t then leaf.Input (place_of o.number I) else leaf.Now (instance_place w.module (formal_instance o.number))))
        (output_no_input o.number (stands_once (formals_of dir.Out w.module) k o.number o.at))
        ∙ ap (λ (j : Instance). slice_index_or before (place_among j (instances_of w.module)) Unknown) (sym o.is)
        ∙ ap (λ n. slice_index_or before n Unknown) number_is
    by (inr l) =
        ap scene l.is
        ∙ ap (λ (j : Instance). slice_index_or before (place_among j (instances_of w.module)) Unknown) (sym l.is)
        ∙ ap (λ n. slice_index_or before n Unknown) number_is

  -- an input is known as its value in the row
  input_known : (k n : ℕ) → slice_get I k ≡ Some n → slice_get (map (λ (x : Value). Known x) at.inputs) k ≡ Some (scene (formal_instance n))
  input_known k n found =
      let value = input_at p I at.inputs permitted.inputs k n found in
      let port = port_at (λ i. p.type_of (var.Formal i)) dir.In 0 w.module.formals typed k n found in
      let here : slice_get parts.inputs k ≡ Some port.0 = ap (λ (l : List Port). slice_get l k) sys.is_made.named.inputs ∙ port.1 in
      let bits : slice_index_or v.inputs.items k 0 ≡ bits_of value.0 =
      get_or_from_slice_get v.inputs.items k (bits_of value.0) 0 (ap (λ (l : List ℕ). slice_get l k) e.inputs ∙ get_mapped bits_of at.inputs k value.0 value.1) in
      let once : times n I ≤ 1 = let most = (own_numbers w.module well.numbered).formals n in omega (arith, most) in
      get_mapped (λ (x : Value). Known x) at.inputs k value.0 value.1
      ∙ ap Some (sym (
      ap (λ t. leaf_known parts v before (if t then leaf.Input (place_of n I) else leaf.Now (instance_place w.module (formal_instance n)))) (got_among I k n found)
      ∙ ap (λ i. leaf_known parts v before (leaf.Input i)) (place_number I k n once found)
      ∙ ap (λ (o : Option Port). option_map_or (λ (one : Port). Known (value_of one.ty (slice_index_or v.inputs.items k 0))) o Unknown) here
      ∙ ap₂ (λ (t : Ty) (b : ℕ). Known (value_of t b)) (port.2 ∙ sym value.2) bits)) where
        typed : (j : ℕ) (formal : Formal) → slice_get w.module.formals j ≡ Some formal → p.type_of (var.Formal (0 + j)) ≡ formal.ty
        typed j formal g =
            ap (λ i. type_in w.module (var.Formal i)) (let z : 0 + j ≡ j = omega arith in z)
            ∙ ap (λ (o : Option Formal). option_map_or (λ (one : Formal). one.ty) o ty.Bool) g

  -- which is of its type
  pub input_value : (k n : ℕ) → slice_get I k ≡ Some n → (x : Value) × (scene (formal_instance n) ≡ Known x) × (is_of_type (p.type_of (var.Formal n)) x ≡ true)
  input_value k n found =
      let one = mapped_cases (λ (x : Value). Known x) at.inputs k (scene (formal_instance n)) (input_known k n found) in
      (one.0, one.2, typed_at p I at.inputs permitted.inputs k n one.0 found one.1)

  pub scene_inputs : map (λ n. scene (formal_instance n)) p.inputs ≡ map (λ (x : Value). Known x) at.inputs
  scene_inputs = lists_same (map (λ n. scene (formal_instance n)) p.inputs) (map (λ (x : Value). Known x) at.inputs) long there where
    long : length (map (λ n. scene (formal_instance n)) p.inputs) ≡ length (map (λ (x : Value). Known x) at.inputs)
    long =
        length-map p.inputs (λ n. scene (formal_instance n)) ∙ sym (row_long p p.inputs at.inputs permitted.inputs)
        ∙ sym (length-map at.inputs (λ (x : Value). Known x))

    there : (k : ℕ) (x : Know) → slice_get (map (λ n. scene (formal_instance n)) p.inputs) k ≡ Some x → slice_get (map (λ (x : Value). Known x) at.inputs) k ≡ Some x
    there k x found =
        let one = mapped_cases (λ n. scene (formal_instance n)) p.inputs k x found in
        input_known k one.0 one.1 ∙ ap Some (sym one.2)

  module _ (env : Environment) (inputs : HasInputs p env at.inputs) (alike : KnowsAlike p at.configuration env before) where
    abbrev pub seen_with : Environment
    seen_with = record { now = scene; later = env.later }

    placed_agree : (met : List Met) → AllByRecursion (IsMetAlone p at.configuration at.inputs) met → AllByRecursion (λ (one : Met). HasPlace w.module well.numbered one.instance) met
        → AllByRecursion (λ (one : Met). AgreeAt one seen_with env) met
    placed_agree [] alone placed = tt
    placed_agree (one ∷ met) alone placed = (
      record {
        now =
            let it = placed.0 in
            scene_at it.number one.instance it.at
            ∙ get_or_from_slice_get before it.number (env.now one.instance) Unknown (alike it.number one.instance one it.at alone.0.found);
        later = refl;
      },
      placed_agree met alone.1 placed.1,
    )

    agree : AgreeWhereMet p at.configuration seen_with env
    agree = placed_agree (step_met p at.configuration) (met_alone p (own_numbers w.module well.numbered) at.configuration at.inputs) (met_placed w.module well.numbered at.configuration)

    -- so the writes of the step are the same
    pub writes_same : step_writes p at.configuration seen_with ≡ step_writes p at.configuration env
    writes_same =
        writes_read w.module well at.configuration (permitted_is_valuation p at permitted).configuration at.inputs seen_with env scene_inputs inputs agree
