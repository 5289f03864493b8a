-- Each round of a system comes to what the program's does.
use Rattle.std.proofs.Common.{◌≡◌, ℕ, ◌≤◌, Bool, true, false, ◌||◌, List, [], ◌∷◌, map, length, Option, Some, None, refl, sym, ap, ap₂, subst, ◌∙◌, ◌⊎◌, inl, inr, arith}
use Rattle.std.specs.Prelude.{if◌then◌else◌, slice_get}
use Rattle.std.specs.Option.{option_map_or}
use Rattle.std.specs.List.{AllByRecursion}
use Rattle.std.proofs.lemmas.Bool.{false≢true}
use Rattle.qz_values.specs.declared.Value.{Value}
use Rattle.qz_values.specs.declared.Know.{Know}
use Rattle.qz_values.specs.declared.Know.TheVariants.{Unknown, Known}
use Rattle.qz_syntax.specs.declared.declarations.Dir.TheVariants as dir
use Rattle.qz_syntax.specs.declared.declarations.Class.{Class}
use Rattle.qz_values.specs.declared.Ty.{Ty}
use Rattle.qz_syntax.specs.declared.modules.Whole.{Whole}
use Rattle.qz_syntax.specs.declared.places.Later.{Later}
use Rattle.qz_syntax.specs.declared.places.Later.TheVariants as later
use Rattle.qz_syntax.specs.declared.places.Store.{Store}
use Rattle.qz_syntax.specs.WellFormed.{IsWellFormed}
use Rattle.qz_meaning.specs.Instances.{Instance, is_same_instance}
use Rattle.qz_meaning.specs.Accounts.{Write}
use Rattle.qz_meaning.specs.Layouts.{Met}
use Rattle.qz_meaning.specs.Verdicts.{Verdict, Nobody, One, join, tally, verdict, verdict_of_one, is_to}
use Rattle.qz_meaning.specs.Programs.{Program, formals_of, program_of, times}
use Rattle.qz_meaning.specs.Configurations.{Configuration}
use Rattle.qz_meaning.specs.Settling.{Environment, step_writes, step_met, store_in, with_pending, unwritten, settled, settled_later, given, met_as}
use Rattle.qz_meaning.specs.Rounds.{now_or_unknown, later_or_unknown, next_round}
use Rattle.qz_meaning.specs.MacroSteps.{HasInputs}
use Rattle.qz_meaning.specs.MeetingLaws.{IsMetAlone, is_met}
use Rattle.qz_meaning.specs.Valuations.{Valuation as OfProgram, IsPermitted}
use Rattle.qz_meaning.proofs.Lists.{none≢some}
use Rattle.qz_meaning.proofs.Finding.{met_found, same_from_test}
use Rattle.qz_meaning.proofs.Orderly.{own_numbers, met_alone}
use Rattle.qz_meaning.proofs.OneRun.{permitted_is_valuation}
use Rattle.qz_system.specs.declared.parts.Cell.{Cell}
use Rattle.qz_system.specs.declared.parts.Inst.{Inst}
use Rattle.qz_system.specs.declared.parts.SystemParts.{SystemParts}
use Rattle.qz_system.specs.declared.valuation.Valuation.{Valuation}
use Rattle.qz_system.specs.Rounds.{begins, settles, IsRound}
use Rattle.qz_system.specs.Writers.{verdict_of}
use Rattle.qz_closing.specs.ProgramParts.{variables_of, cell_number, cell_of, inst_of}
use Rattle.qz_closing.specs.Encoding.{Encodes}
use Rattle.qz_closing.specs.Closes.{KnowsAlike, TellsAlike, RoundAlike, RoundsAlike, RoundsIdle}
use Rattle.qz_closing.proofs.Getting.{get_mapped}
use Rattle.qz_closing.proofs.ProgramCells.{cell_output, cell_local}
use Rattle.step_laws.proofs.StepTargets.{written_met}
use Rattle.qz_single.specs.Made.{IsSystemOf}
use Rattle.closing_laws.proofs.Instanced.{IsOutputInstance, IsLocalInstance, instance_cases, place_number}
use Rattle.closing_laws.proofs.StepVerdicts.{has_shape, seen, acts_alike}
use Rattle.closing_laws.proofs.Agreeing.{writes_same}
use Rattle.closing_laws.proofs.Begins.{begins_same}

-- an instance that is not found is not among those that are met
not_met : (met : List Met) (i : Instance) → met_as i met ≡ None → is_met i met ≡ false
not_met [] i h = refl
not_met (one ∷ met) i h = by (is_same_instance one.instance i) h (λ k. not_met met i k) where
  by : (t : Bool) → (if t then Some one else met_as i met) ≡ None → (met_as i met ≡ None → is_met i met ≡ false) → (t || is_met i met) ≡ false
  by true k later = absurd (none≢some one (sym k))
  by false k later = later k

-- no write to it, no verdict
no_writer : (met : List Met) (i : Instance) → is_met i met ≡ false → (delayed : Bool) (ws : List Write)
    → AllByRecursion (λ (w : Write). is_met w.target met ≡ true) ws → (so_far : Verdict) → tally i delayed so_far ws ≡ so_far
no_writer met i h delayed [] all so_far = refl
no_writer met i h delayed (w ∷ ws) all so_far =
    ap (λ t. tally i delayed (if t then join so_far (verdict_of_one w.guard w.value) else so_far) ws) (other delayed) ∙ no_writer met i h delayed ws all.1 so_far where
      apart : is_same_instance w.target i ≡ false
      apart = by (is_same_instance w.target i) refl where
        by : (t : Bool) → is_same_instance w.target i ≡ t → t ≡ false
        by true e = absurd (false≢true (sym h ∙ subst (λ (j : Instance). is_met j met ≡ true) (same_from_test w.target i e) all.0))
        by false e = refl

      kept_false : (a b : Bool) → b ≡ false → (if a then b else false) ≡ false
      kept_false true b e = e
      kept_false false b e = refl

      kept_false_other : (a b : Bool) → b ≡ false → (if a then false else b) ≡ false
      kept_false_other true b e = refl
      kept_false_other false b e = e

      other : (d : Bool) → is_to i d w ≡ false
      other true = kept_false w.delayed (is_same_instance w.target i) apart
      other false = kept_false_other w.delayed (is_same_instance w.target i) apart

-- what settles without a writer is known
known_without : (class : Class) (t : Ty) (s : Store) → (x : Value) × (settled class t s (with_pending s Nobody) ≡ Known x)
known_without class t s = by s.pending where
  by : (b : Bool) → (x : Value) × (settled class t s (if b then join (One s.value) Nobody else Nobody) ≡ Known x)
  by true = (s.value, refl)
  by false = (unwritten class t s, refl)

module _ (w : Whole) (parts : SystemParts) (sys : IsSystemOf w parts) (well : IsWellFormed [] w.module) (texts : length w.names.places ≡ length w.module.labels)
    (at : OfProgram) (permitted : IsPermitted (program_of w.module) at) (v : Valuation) (e : Encodes (program_of w.module) at v) where
  abbrev p : Program
  p = program_of w.module

  abbrev c : Configuration
  c = at.configuration

  pub instance_here : (k : ℕ) (i : Instance) → slice_get p.instances k ≡ Some i → slice_get parts.instances k ≡ Some (inst_of w i)
  instance_here k i found = ap (λ (l : List Inst). slice_get l k) sys.is_made.named.instances ∙ get_mapped (inst_of w) p.instances k i found

  pub cell_here : (k : ℕ) (i : Instance) → slice_get p.instances k ≡ Some i → slice_get parts.cells (cell_number w.module i.variable) ≡ Some (cell_of w i.variable)
  cell_here k i found =
      ap (λ (l : List Cell). slice_get l (cell_number w.module i.variable)) sys.is_made.named.cells ∙ by (instance_cases w.module k i found) where
        by : IsOutputInstance w.module k i ⊎ IsLocalInstance w.module i → slice_get (map (cell_of w) (variables_of w.module)) (cell_number w.module i.variable) ≡ Some (cell_of w i.variable)
        by (inl o) =
            let once : times o.number (formals_of dir.Out w.module) ≤ 1 = let most = (own_numbers w.module well.numbered).formals o.number in omega (arith, most) in
            subst (λ (j : Instance). slice_get (map (cell_of w) (variables_of w.module)) (cell_number w.module j.variable) ≡ Some (cell_of w j.variable)) (sym o.is)
            (ap (λ n. slice_get (map (cell_of w) (variables_of w.module)) n) (place_number (formals_of dir.Out w.module) k o.number once o.at) ∙ cell_output w k o.number o.at)
        by (inr l) =
            subst (λ (j : Instance). slice_get (map (cell_of w) (variables_of w.module)) (cell_number w.module j.variable) ≡ Some (cell_of w j.variable)) (sym l.is)
            (cell_local w l.number l.small)

  settles_here : (k : ℕ) (i : Instance) → slice_get p.instances k ≡ Some i → (writers : Verdict)
      → settles parts v (inst_of w i) writers
      ≡ settled (p.class_of i.variable) (p.type_of i.variable) (begins parts v (inst_of w i) (cell_of w i.variable)) (with_pending (begins parts v (inst_of w i) (cell_of w i.variable)) writers)
  settles_here k i found writers =
      ap (λ (o : Option Cell). option_map_or (λ (cell : Cell). settled cell.class cell.ty (begins parts v (inst_of w i) cell) (with_pending (begins parts v (inst_of w i) cell) writers)) o Unknown)
      (cell_here k i found)

  module _ (env : Environment) (inputs : HasInputs p env at.inputs) (before after : List Know) (delayed : List Later) (alike : KnowsAlike p c env before)
      (is : IsRound parts v before after delayed) where
    writers : (k : ℕ) (i : Instance) (d : Bool) → slice_get p.instances k ≡ Some i → verdict_of is.know k d parts.acts ≡ verdict i d (step_writes p c env)
    writers k i d found =
        acts_alike w parts sys well texts at permitted v e before env.later is.know is.reads k i d found
        ∙ ap (verdict i d) (writes_same w parts sys well at permitted v e before env inputs alike)

    free : (i : Instance) (one : Met) → met_as i (step_met p c) ≡ Some one → (given p at.inputs i ≡ None) × (one.instance ≡ i)
    free i one met =
        let found = met_found (IsMetAlone p c at.inputs) (step_met p c) i one (met_alone p (own_numbers w.module well.numbered) c at.inputs) met in
        (ap (given p at.inputs) (sym found.1) ∙ found.0.free, found.1)

    now_same : KnowsAlike p c (next_round p c at.inputs env) after
    now_same k i one found met =
        let own = free i one met in
        is.are_settled.values k (inst_of w i) (instance_here k i found)
        ∙ ap Some (settles_here k i found (verdict_of is.know k false parts.acts)
        ∙ ap₂ (λ (s : Store) (x : Verdict). settled (p.class_of i.variable) (p.type_of i.variable) s (with_pending s x))
        (begins_same w parts well texts (has_shape w parts sys well texts at permitted v e) at permitted v e k i one found met) (writers k i false found)
        ∙ sym (ap₂ (λ (o : Option Value) (m : Option Met). now_or_unknown p (step_writes p c env) o m) own.0 met
        ∙ ap (λ (j : Instance). settled (p.class_of j.variable) (p.type_of j.variable) (store_in p one) (with_pending (store_in p one) (verdict j false (step_writes p c env)))) own.1))

    later_same : TellsAlike p c (next_round p c at.inputs env) delayed
    later_same k i one found met =
        is.are_settled.laters k (inst_of w i) (instance_here k i found)
        ∙ ap Some (ap settled_later (writers k i true found)
        ∙ sym (ap (λ (m : Option Met). later_or_unknown (step_writes p c env) m) met
        ∙ ap (λ (j : Instance). settled_later (verdict j true (step_writes p c env))) (free i one met).1))

    pub round_alike : RoundAlike p at env after delayed
    round_alike = record { known = now_same; told = later_same }

  pub rounds_alike : RoundsAlike p parts at v
  rounds_alike env inputs before after delayed typed alike is = round_alike env inputs before after delayed alike is

  pub rounds_idle : RoundsIdle p parts at v
  rounds_idle before after delayed typed is k i found none =
      let writes : Environment = record { now = (seen w parts sys well texts at permitted v e before (λ j. later.Unknown) is.know is.reads).now; later = λ j. later.Unknown } in
      let nobody : (d : Bool) → verdict_of is.know k d parts.acts ≡ Nobody = λ d.
      acts_alike w parts sys well texts at permitted v e before (λ j. later.Unknown) is.know is.reads k i d found
      ∙ no_writer (step_met p c) i (not_met (step_met p c) i none) d (step_writes p c writes)
      (written_met w.module well c (permitted_is_valuation p at permitted).configuration writes) Nobody in
      let known = known_without (p.class_of i.variable) (p.type_of i.variable) (begins parts v (inst_of w i) (cell_of w i.variable)) in
      record {
        value = known.0;
        known =
            is.are_settled.values k (inst_of w i) (instance_here k i found)
            ∙ ap Some (ap (settles parts v (inst_of w i)) (nobody false) ∙ settles_here k i found Nobody ∙ known.1);
        absent = is.are_settled.laters k (inst_of w i) (instance_here k i found) ∙ ap (λ x. Some (settled_later x)) (nobody true);
      }
