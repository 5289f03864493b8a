-- A system that closes a program is definite exactly where the program is.
use Rattle.std.proofs.Common.{◌≡◌, ℕ, zero, suc, ◌+◌, ◌<◌, ◌≤◌, Bool, true, false, List, [], ◌∷◌, map, length, Option, Some, None, refl, sym, ap, ap₂, subst, ◌∙◌, arith}
use Rattle.std.specs.Prelude.{slice_get, slice_index_or}
use Rattle.std.specs.List.{All, AllByRecursion}
use Rattle.std.proofs.lemmas.Bool.{false≢true}
use Rattle.std.proofs.lemmas.Option.{slice_get_within, get_or_from_slice_get}
use Rattle.qz_values.specs.declared.Value.{Value}
use Rattle.qz_values.specs.declared.Know.{Know}
use Rattle.qz_values.specs.declared.Know.TheVariants.{Unknown, Known, Clash}
use Rattle.qz_syntax.specs.declared.modules.Whole.{Whole}
use Rattle.qz_syntax.specs.declared.places.Later.{Later}
use Rattle.qz_syntax.specs.declared.places.Later.TheVariants as later
use Rattle.qz_syntax.specs.WellFormed.{IsWellFormed}
use Rattle.qz_meaning.specs.Instances.{Instance}
use Rattle.qz_meaning.specs.Layouts.{Met}
use Rattle.qz_meaning.specs.Programs.{Program, program_of}
use Rattle.qz_meaning.specs.Configurations.{Configuration}
use Rattle.qz_meaning.specs.Settling.{Environment, step_met, met_as}
use Rattle.qz_meaning.specs.Rounds.{AgreeAt, round, IsLast, IsKnown, IsKnownOrAbsent, IsPlainAt, IsDefinite as ProgramIsDefinite}
use Rattle.qz_meaning.specs.MeetingLaws.{IsMetAlone}
use Rattle.qz_meaning.specs.Valuations.{Valuation as OfProgram, IsPermitted}
use Rattle.qz_meaning.proofs.Lists.{some_same}
use Rattle.qz_meaning.proofs.Orderly.{own_numbers, met_alone}
use Rattle.qz_meaning.proofs.OneRun.{permitted_is_valuation}
use Rattle.qz_system.specs.declared.parts.SystemParts.{SystemParts}
use Rattle.qz_system.specs.declared.valuation.Valuation.{Valuation}
use Rattle.qz_system.specs.Parts.{AreParts}
use Rattle.qz_system.specs.Nexts.{is_known, is_told, IsDefinite}
use Rattle.qz_closing.specs.Encoding.{Encodes}
use Rattle.qz_closing.specs.Closes.{Closes}
use Rattle.closing_laws.proofs.Numbered.{HasPlace, met_placed}
use Rattle.definite_laws.specs.Definite.{SystemIsDefinite, KnowsAsRound}
use Rattle.definite_laws.proofs.RoundNumbers.{agrees, has_inputs, nth_typed, nth_alike}

known_so : (k : Know) → is_known k ≡ true → IsKnown k
known_so Unknown h = absurd (false≢true h)
known_so (Known x) h = tt
known_so Clash h = absurd (false≢true h)

told_so : (l : Later) → is_told l ≡ true → IsKnownOrAbsent l
told_so later.Unknown h = absurd (false≢true h)
told_so later.Absent h = tt
told_so (later.Known x) h = tt
told_so later.Clash h = absurd (false≢true h)

module _ (w : Whole) (parts : SystemParts) (well : IsWellFormed [] w.module) (right : AreParts parts) (closes : Closes parts w)
    (at : OfProgram) (v : Valuation) (permitted : IsPermitted (program_of w.module) at) (e : Encodes (program_of w.module) at v) where
  abbrev p : Program
  p = program_of w.module

  abbrev c : Configuration
  c = at.configuration

  abbrev R : ℕ → Environment
  R n = round p c at.inputs n

  module _ (it : SystemIsDefinite parts v) where
    abbrev n : ℕ
    n = it.definite.last.number

    here : KnowsAsRound w at n it.knows it.delayed
    here = nth_alike w parts well right closes at v permitted e n it.knows it.delayed it.definite.last.is_nth

    there : KnowsAsRound w at (suc n) it.knows it.delayed
    there =
        let more = (agrees w parts well right closes at v permitted e).rounds (R n) (has_inputs w parts well right closes at v permitted e n) it.knows it.knows it.delayed
        (nth_typed w parts well right closes at v permitted e n it.knows it.delayed it.definite.last.is_nth) here.known it.definite.last.stays in
        record { known = more.known; told = more.told }

    last_each : (met : List Met) → AllByRecursion (IsMetAlone p c at.inputs) met → AllByRecursion (λ (one : Met). HasPlace w.module well.numbered one.instance) met
        → AllByRecursion (λ (one : Met). AgreeAt one (R n) (R (suc n))) met
    last_each [] alone placed = tt
    last_each (one ∷ met) alone placed = (
      (let i = placed.0 in
          record {
            now = some_same _ _ (sym (here.known i.number one.instance one i.at alone.0.found) ∙ there.known i.number one.instance one i.at alone.0.found);
            later = some_same _ _ (sym (here.told i.number one.instance one i.at alone.0.found) ∙ there.told i.number one.instance one i.at alone.0.found);
          }),
      last_each met alone.1 placed.1,
    )

    plain_each : (met : List Met) → AllByRecursion (IsMetAlone p c at.inputs) met → AllByRecursion (λ (one : Met). HasPlace w.module well.numbered one.instance) met
        → AllByRecursion (IsPlainAt (R n)) met
    plain_each [] alone placed = tt
    plain_each (one ∷ met) alone placed = (
      (let i = placed.0 in
          let known = here.known i.number one.instance one i.at alone.0.found in
          let told = here.told i.number one.instance one i.at alone.0.found in
          record {
            now = subst IsKnown (get_or_from_slice_get it.knows i.number _ Unknown known)
                (known_so _ (it.definite.known i.number Unknown (slice_get_within it.knows i.number _ known)));
            later = subst IsKnownOrAbsent (get_or_from_slice_get it.delayed i.number _ later.Unknown told)
                (told_so _ (it.definite.told i.number later.Unknown (slice_get_within it.delayed i.number _ told)));
          }),
      plain_each met alone.1 placed.1,
    )

    abbrev alone : AllByRecursion (IsMetAlone p c at.inputs) (step_met p c)
    alone = met_alone p (own_numbers w.module well.numbered) c at.inputs

    -- where the system is definite the program is
    pub program_definite : ProgramIsDefinite p c at.inputs
    program_definite = record {
      valuation = permitted_is_valuation p at permitted;
      least = R n;
      is_least = record { number = n; last = last_each (step_met p c) alone (met_placed w.module well.numbered c); is = refl };
      plain = plain_each (step_met p c) alone (met_placed w.module well.numbered c);
    }
