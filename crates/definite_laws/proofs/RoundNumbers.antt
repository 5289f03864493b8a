-- Each round of a system that closes a program is the program's with this number.
use Rattle.std.proofs.Common.{◌≡◌, ℕ, zero, suc, ◌+◌, ◌<◌, ◌≤◌, Bool, true, false, List, [], ◌∷◌, map, length, replicate, Option, Some, None, refl, sym, ap, ap₂, subst, ◌∙◌, arith}
use Rattle.std.specs.Prelude.{slice_get, slice_index_or}
use Rattle.std.specs.List.{AllByRecursion}
use lib.ListN.{length-map}
use Rattle.std.proofs.lemmas.Bool.{false≢true, and_parts}
use Rattle.std.proofs.lemmas.Option.{slice_get_within}
use Rattle.qz_values.specs.declared.Ty.{Ty}
use Rattle.qz_values.specs.declared.Value.{Value}
use Rattle.qz_values.specs.declared.Know.{Know}
use Rattle.qz_values.specs.declared.Know.TheVariants.{Unknown, Known}
use Rattle.qz_values.specs.Fits.{HasType}
use Rattle.qz_syntax.specs.declared.modules.Module.{Module}
use Rattle.qz_syntax.specs.declared.modules.Whole.{Whole}
use Rattle.qz_syntax.specs.declared.places.Later.{Later}
use Rattle.qz_syntax.specs.declared.places.Later.TheVariants as later
use Rattle.qz_syntax.specs.WellFormed.{IsWellFormed}
use Rattle.qz_meaning.specs.Instances.{Instance, formal_instance}
use Rattle.qz_meaning.specs.Layouts.{Met}
use Rattle.qz_meaning.specs.Programs.{Program, program_of}
use Rattle.qz_meaning.specs.Configurations.{Configuration, are_inputs}
use Rattle.qz_meaning.specs.Settling.{Environment, step_writes, step_met, given, met_as}
use Rattle.qz_meaning.specs.Rounds.{now_or_unknown, given_or_unknown, first_round, next_round, round}
use Rattle.qz_meaning.specs.MacroSteps.{HasInputs}
use Rattle.qz_meaning.specs.MeetingLaws.{IsMetAlone}
use Rattle.qz_meaning.specs.Valuations.{Valuation as OfProgram, IsPermitted}
use Rattle.qz_meaning.proofs.Lists.{none≢some, some_same}
use Rattle.qz_meaning.proofs.Finding.{head_or, tail_of, met_found}
use Rattle.qz_meaning.proofs.Orderly.{own_numbers, row_fits, met_alone}
use Rattle.qz_system.specs.declared.parts.Inst.{Inst}
use Rattle.qz_system.specs.declared.parts.SystemParts.{SystemParts}
use Rattle.qz_system.specs.declared.valuation.Valuation.{Valuation}
use Rattle.qz_system.specs.Parts.{AreParts, instance_type}
use Rattle.qz_system.specs.Valuations.{Fits}
use Rattle.qz_system.specs.Rounds.{HaveTypes}
use Rattle.qz_system.specs.Nexts.{IsFirstRound, Follows, IsNthRound}
use Rattle.system_laws.specs.RoundLaws.{HasRound}
use Rattle.system_laws.proofs.OneRound.{get_same, instance_there, rounds_are_one, rounds_exist}
use Rattle.qz_closing.specs.ProgramParts.{inst_of}
use Rattle.qz_closing.specs.Encoding.{Encodes}
use Rattle.qz_closing.specs.Closes.{KnowsAlike, TellsAlike, RoundAlike, AgreesAt, Closes}
use Rattle.definite_laws.specs.Definite.{KnowsAsRound, RoundsAreAlike}

row_long : (p : Program) (numbers : List ℕ) (row : List Value) → are_inputs p numbers row ≡ true → length row ≡ length numbers
row_long p [] [] h = refl
row_long p [] (v ∷ row) h = absurd (false≢true h)
row_long p (x ∷ numbers) [] h = absurd (false≢true h)
row_long p (x ∷ numbers) (v ∷ row) h = ap suc (row_long p numbers row (and_parts _ _ h).1)

get_copies : {A : Type 0} (n k : ℕ) (d : A) → k < n → slice_get (replicate n d) k ≡ Some d
get_copies zero k d h = absurd (omega (arith, h))
get_copies (suc n) zero d h = refl
get_copies (suc n) (suc k) d h = get_copies n k d (omega (arith, h))

module _ (p : Program) (c : Configuration) (row : List Value) where
  unknown≢known : (v : Value) → Unknown ≡ Known v → ⊥
  unknown≢known v e = cc

  known_by : (n : ℕ) (i : Instance) (v : Value) (o : Option Value) → given p row i ≡ o → (first_round p row).now i ≡ Known v → (round p c row n).now i ≡ Known v
  known_by zero i v o e h = h
  known_by (suc n) i v None e h = absurd (unknown≢known v (sym (ap given_or_unknown e) ∙ h))
  known_by (suc n) i v (Some x) e h =
      ap (λ o. now_or_unknown p (step_writes p c (round p c row n)) o (met_as i (step_met p c))) e ∙ sym (ap given_or_unknown e) ∙ h

  keep_all : (f g : ℕ → Know) → ((k : ℕ) (v : Value) → g k ≡ Known v → f k ≡ Known v) → (numbers : List ℕ) (values : List Value)
      → map g numbers ≡ map (λ (x : Value). Known x) values → map f numbers ≡ map (λ (x : Value). Known x) values
  keep_all f g h [] [] e = e
  keep_all f g h [] (v ∷ values) e = e
  keep_all f g h (n ∷ numbers) [] e = absurd (cons≢nil _ _ e) where
    cons≢nil : (k : Know) (l : List Know) → k ∷ l ≡ [] → ⊥
    cons≢nil k l e = cc
  keep_all f g h (n ∷ numbers) (v ∷ values) e =
      ap₂ (λ (k : Know) (l : List Know). k ∷ l) (h n v (ap (head_or Unknown) e)) (keep_all f g h numbers values (ap tail_of e))

  pub inputs_stay : (n : ℕ) → HasInputs p (first_round p row) row → HasInputs p (round p c row n) row
  inputs_stay n h =
      keep_all (λ k. (round p c row n).now (formal_instance k)) (λ k. (first_round p row).now (formal_instance k))
      (λ k v e. known_by n (formal_instance k) v (given p row (formal_instance k)) refl e) p.inputs row h

module _ (w : Whole) (parts : SystemParts) (well : IsWellFormed [] w.module) (right : AreParts parts) (closes : Closes parts w)
    (at : OfProgram) (v : Valuation) (permitted : IsPermitted (program_of w.module) at) (e : Encodes (program_of w.module) at v) where
  abbrev p : Program
  p = program_of w.module

  abbrev c : Configuration
  c = at.configuration

  abbrev R : ℕ → Environment
  R n = round p c at.inputs n

  pub agrees : AgreesAt p parts at v
  agrees = closes.agrees at v permitted e

  pub fits : Fits parts v
  fits = (closes.valuations.of_program at permitted v e).fits

  pub has_inputs : (n : ℕ) → HasInputs p (R n) at.inputs
  has_inputs n = inputs_stay p c at.inputs n (row_fits p (own_numbers w.module well.numbered) c at.inputs (row_long p p.inputs at.inputs permitted.inputs))

  -- what any round knows is of the instances' types
  pub nth_typed : (n : ℕ) (knows : List Know) (delayed : List Later) → IsNthRound parts v n knows delayed → HaveTypes parts knows
  nth_typed n knows delayed is k ty found =
      let it = rounds_exist parts right v fits n in
      let one = instance_there parts k ty found in
      let same = rounds_are_one parts right v n knows it.knows delayed it.delayed is it.is_nth in
      subst (HasType ty) (sym (get_same knows it.knows k Unknown (same.now k one.0 one.1))) (it.typed k ty found)

  many : length parts.instances ≡ length p.instances
  many = ap length closes.parts_are.instances ∙ length-map p.instances (inst_of w)

  small : (k : ℕ) (i : Instance) → slice_get p.instances k ≡ Some i → k < length parts.instances
  small k i found = let less = slice_get_within p.instances k i found in let same = many in omega (arith, less, same)

  free : (i : Instance) (one : Met) → met_as i (step_met p c) ≡ Some one → given p at.inputs i ≡ None
  free i one met =
      let found = met_found (IsMetAlone p c at.inputs) (step_met p c) i one (met_alone p (own_numbers w.module well.numbered) c at.inputs) met in
      ap (given p at.inputs) (sym found.1) ∙ found.0.free

  pub nth_alike : (n : ℕ) (knows : List Know) (delayed : List Later) → IsNthRound parts v n knows delayed → KnowsAsRound w at n knows delayed
  nth_alike zero knows delayed is = record {
    known = λ k i one found met.
        ap (λ (l : List Know). slice_get l k) is.values ∙ get_copies (length parts.instances) k Unknown (small k i found)
        ∙ ap (λ (o : Option Value). Some (given_or_unknown o)) (sym (free i one met));
    told = λ k i one found met.
        ap (λ (l : List Later). slice_get l k) is.laters ∙ get_copies (length parts.instances) k later.Unknown (small k i found);
  }
  nth_alike (suc n) knows delayed is =
      let before = nth_alike n is.knows_before is.delayed_before is.was in
      let more = agrees.rounds (R n) (has_inputs n) is.knows_before knows delayed (nth_typed n is.knows_before is.delayed_before is.was) before.known is.round in
      record { known = more.known; told = more.told }

pub rounds_are_alike : RoundsAreAlike
rounds_are_alike w parts well right closes at v permitted e number knows delayed is = nth_alike w parts well right closes at v permitted e number knows delayed is
