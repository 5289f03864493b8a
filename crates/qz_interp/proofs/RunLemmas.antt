-- Rounds from round 0 to the last one.
use Rattle.std.proofs.Common.{◌≡◌, ℕ, zero, suc, ◌+◌, ◌*◌, ◌≤◌, Bool, true, false, List, [], ◌∷◌, length, Option, Some, None, refl, sym, ap, subst, ◌∙◌, arith}
use Rattle.std.specs.Prelude.{◌==◌, if◌then◌else◌, slice_get, MatchOption}
use Rattle.std.proofs.lemmas.Bool.{false≢true}
use Rattle.qz_values.specs.declared.Value.{Value}
use Rattle.qz_values.specs.declared.Know.{Know}
use Rattle.qz_values.specs.declared.Know.TheVariants.{Known}
use Rattle.qz_syntax.specs.declared.places.Later.{Later}
use Rattle.qz_syntax.specs.declared.modules.Module.{Module}
use Rattle.qz_meaning.specs.Instances.{formal_instance}
use Rattle.qz_meaning.specs.Programs.{Program, program_of, times}
use Rattle.qz_meaning.specs.Configurations.{Configuration, IsValuationOf}
use Rattle.qz_meaning.specs.Settling.{Environment, input_of, step_met, step_writes, met_as}
use Rattle.qz_meaning.specs.Rounds.{round, given_or_unknown, now_or_unknown}
use Rattle.qz_meaning.proofs.Lists.{none≢some, some_same}
use Rattle.qz_meaning.proofs.Orderly.{own_numbers, same_number}
use Rattle.qz_meaning.proofs.RoundsRise as rises
use Rattle.qz_react.specs.declared.environments.Env.{Env}
use Rattle.qz_react.specs.Reacting.{Tells}
use Rattle.qz_syntax.specs.WellFormed.{IsNumbered}
use Rattle.qz_syntax.specs.declared.places.Place.{Place}
use Rattle.qz_interp.specs.declared.slots.Slot.{Slot}
use Rattle.qz_interp.specs.Beginning.{BeginsRounds}
use Rattle.qz_interp.specs.declared.doubts.Doubted.{Doubted}
use Rattle.qz_interp.specs.Doubts.{doubted_from}
use Rattle.qz_interp.specs.FirstDoubts.{AreLists, NoDoubt, IsFirstDoubt}
use Rattle.qz_interp.specs.LastRounds.{AreLastRound, Decides}
use Rattle.qz_interp.proofs.DoubtLemmas.{lists_tell_doubts}
use Rattle.qz_interp.proofs.LastLemmas.{undoubted_is_definite}

times_there : (inputs : List ℕ) (k n : ℕ) → slice_get inputs k ≡ Some n → 1 ≤ times n inputs
times_there [] k n h = absurd (none≢some n h)
times_there (x ∷ xs) zero n h = here (x == n) (ap (λ y. y == n) (some_same x n h) ∙ same_number n) where
  here : (b : Bool) → b ≡ true → 1 ≤ (if b then 1 else 0) + times n xs
  here true e = omega arith
  here false e = absurd (false≢true e)
times_there (x ∷ xs) (suc k) n h = let more = times_there xs k n h in omega (arith, more)

-- the value of an input is the one in its place
input_found : (inputs : List ℕ) (row : List Value) (k n : ℕ) (v : Value) → times n inputs ≤ 1 → slice_get inputs k ≡ Some n → slice_get row k ≡ Some v
    → input_of inputs row n ≡ Some v
input_found [] row k n v once at given = absurd (none≢some n at)
input_found (x ∷ xs) [] k n v once at given = absurd (none≢some v given)
input_found (x ∷ xs) (w ∷ ws) zero n v once at given =
    ap (λ (b : Bool). if b then Some w else input_of xs ws n) (ap (λ y. y == n) (some_same x n at) ∙ same_number n) ∙ given
input_found (x ∷ xs) (w ∷ ws) (suc k) n v once at given = later (λ less. input_found xs ws k n v less at given) (x == n) once where
  later : (times n xs ≤ 1 → input_of xs ws n ≡ Some v) → (b : Bool) → (if b then 1 else 0) + times n xs ≤ 1 → (if b then Some w else input_of xs ws n) ≡ Some v
  later found true h = let there = times_there xs k n at in absurd (omega (arith, h, there))
  later found false h = found (omega (arith, h))

module _ (m : Module) (numbered : IsNumbered m) (c : Configuration) (row : List Value) where
  input_known : (n i : ℕ) (v : Value) → input_of (program_of m).inputs row i ≡ Some v → (round (program_of m) c row n).now (formal_instance i) ≡ Known v
  input_known zero i v h = ap given_or_unknown h
  input_known (suc n) i v h =
      ap (λ given. now_or_unknown (program_of m) (step_writes (program_of m) c (round (program_of m) c row n)) given (met_as (formal_instance i) (step_met (program_of m) c))) h

  -- the lists of a round tell it
  pub tells_round : (n : ℕ) (env : Env) → env.inputs.items ≡ row → AreLists (program_of m) (round (program_of m) c row n) env.now.items env.later.items
      → Tells (program_of m) env (round (program_of m) c row n)
  tells_round n env inputs lists = record {
    inputs = λ k i v at given.
        let most = (own_numbers m numbered).formals i in
        input_known n i v (input_found (program_of m).inputs row k i v (omega (arith, most)) at (ap (λ values. slice_get values k) (sym inputs) ∙ given));
    now = λ k i known at given. some_same _ _ (sym (lists.now k i at) ∙ given);
    later = λ k i known at given. some_same _ _ (sym (lists.later k i at) ∙ given);
  }

-- a round that is far enough is the last one
pub last_in_time : (p : Program) (c : Configuration) (row : List Value) (most : ℕ) (env : Env) → 4 * length (step_met p c) ≤ most
    → AreLists p (round p c row most) env.now.items env.later.items → AreLastRound p c row env.now.items env.later.items
last_in_time p c row most env enough lists =
    let ends = rises.rounds_end p c row in
    let n = ends.0 in
    let less = ends.1 in
    record {
      number = n;
      last = ends.2;
      lists = subst (λ (e : Environment). AreLists p e env.now.items env.later.items) (rises.rounds_stay p c row n ends.2 most (omega (arith, less, enough))) lists;
    }

-- from the first round on, the lists tell the round that they are
pub tells_from : (m : Module) (c : Configuration) (row : List Value) (at : Place) (slots : List Slot) (first env : Env) (n : ℕ) → BeginsRounds m c row at slots first
    → env.inputs.items ≡ first.inputs.items → AreLists (program_of m) (round (program_of m) c row n) env.now.items env.later.items
    → Tells (program_of m) env (round (program_of m) c row n)
tells_from m c row at slots first env n begins same lists =
    tells_round m begins.numbered c row n env (same ∙ begins.inputs) lists

-- the last round decides whether the configuration is definite
pub decides : (m : Module) (c : Configuration) (row : List Value) (at : Place) (slots : List Slot) (first : Env) (known : List Know) (delayed : List Later)
    → BeginsRounds m c row at slots first → IsValuationOf (program_of m) c row → AreLastRound (program_of m) c row known delayed
    → Decides (program_of m) c row (doubted_from 0 slots known delayed)
decides m c row at slots first known delayed begins valuation last =
    by_answer (doubted_from 0 slots known delayed) (lists_tell_doubts (program_of m) c (round (program_of m) c row last.number) slots known delayed begins.slots_are last.lists)
  where
    by_answer : (answer : Option Doubted) → MatchOption answer (NoDoubt (program_of m) c (round (program_of m) c row last.number)) (IsFirstDoubt (program_of m) c (round (program_of m) c row last.number))
        → Decides (program_of m) c row answer
    by_answer None none = undoubted_is_definite m begins.numbered c row last.number valuation begins.numbers last.last none
    by_answer (Some d) doubt = record {
      least = round (program_of m) c row last.number;
      is_least = record { number = last.number; last = last.last; is = refl };
      first = doubt;
    }
