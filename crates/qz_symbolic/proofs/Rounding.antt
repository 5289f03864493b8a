-- Rounds, from rails of nets and of instances.
use Rattle.std.proofs.Common.{◌≡◌, ℕ, zero, suc, ◌+◌, ◌<◌, ◌^◌, Bool, true, false, List, ◌∷◌, map, length, Option, Some, None, refl, sym, ap, ap₂, subst, ◌∙◌, arith}
use Rattle.std.specs.Prelude.{slice_get, replicate}
use Rattle.std.specs.List.{range_with_len}
use Rattle.std.specs.Option.{option_map_or}
use Rattle.std.proofs.lemmas.Option.{slice_get_within}
use Rattle.qz_dd.specs.declared.table.Table.{Table}
use Rattle.qz_dd.specs.Tables.{Reading, Reads, Extends}
use Rattle.qz_values.specs.declared.Ty.{Ty}
use Rattle.qz_values.specs.declared.Know.{Know}
use Rattle.qz_values.specs.declared.Know.TheVariants.{Unknown}
use Rattle.qz_values.specs.Types.{width_of}
use Rattle.qz_values.specs.Values.{value_of}
use Rattle.qz_values.specs.Fits.{HasType}
use Rattle.qz_nets.specs.Readings.{listed}
use Rattle.qz_rails.specs.declared.rail.Rail.{Rail}
use Rattle.qz_rails.specs.Bits.{number_of, bits_in}
use Rattle.qz_rails.specs.Rails.{told, know_in}
use Rattle.qz_rails.proofs.BitNumbers.{number_fits}
use Rattle.qz_syntax.specs.declared.places.Later.TheVariants as later
use Rattle.qz_meaning.specs.Settling.{settled_later}
use Rattle.qz_tallies.specs.declared.tally.Tally.{Tally}
use Rattle.qz_system.specs.declared.parts.Inst.{Inst}
use Rattle.qz_system.specs.declared.parts.SystemParts.{SystemParts}
use Rattle.qz_system.specs.declared.valuation.Valuation.{Valuation}
use Rattle.qz_system.specs.Parts.{AreParts, instance_type}
use Rattle.qz_system.specs.Rounds.{leaves_known, settles, HaveTypes, AreSettledBy}
use Rattle.qz_system.proofs.RoundLemmas.{leaves_fit}
use Rattle.qz_system.proofs.TypingLemmas.{instance_within}
use Rattle.system_laws.proofs.Nets.{solution, solution_solves}
use Rattle.qz_symbolic.specs.declared.rails.InstanceRails.{InstanceRails}
use Rattle.qz_symbolic.specs.Telling.{AreInstanceRails, now_at, later_at, later_in, knows_in, laters_in}
use Rattle.qz_symbolic.specs.Views.{Views}
use Rattle.qz_symbolic.specs.Knowing.{KnowsNets, AreRailsOfNets, AreKnown, AreTallies}
use Rattle.qz_symbolic.specs.Settled.{AreSettledBy as AreSettledRails}
use Rattle.qz_symbolic.specs.Rounds.{IsNothing, TellsFirstRound, TellsRound}
use Rattle.qz_symbolic.proofs.Growing.{views_before}
use Rattle.qz_symbolic.proofs.LeafRails.{known_before, some_there}
use Rattle.qz_symbolic.proofs.Acting.{cell_there, instance_type_read}
use Rattle.qz_symbolic.proofs.SettledRails.{bits_long}

-- what stands in a list by number
listed_at : {A : Type 0} (f : ℕ → A) (a count n : ℕ) → n < count → slice_get (map f (range_with_len a count)) n ≡ Some (f (a + n))
listed_at f a zero n below = absurd (omega (arith, below))
listed_at f a (suc count) zero below = let e : a ≡ a + 0 = omega arith in ap (λ k. Some (f k)) e
listed_at f a (suc count) (suc n) below =
    let e : a + 1 + n ≡ a + suc n = omega arith in listed_at f (a + 1) count n (omega (arith, below)) ∙ ap (λ k. Some (f k)) e

all_one : {A : Type 0} (f : ℕ → A) (a count : ℕ) (d : A) → ((n : ℕ) → f n ≡ d) → map f (range_with_len a count) ≡ replicate count d
all_one f a zero d each = refl
all_one f a (suc count) d each = ap₂ (λ x xs. x ∷ xs) (each a) (all_one f (a + 1) count d each)

-- what the rails of an instance tell
now_told : (reading : Reading) (parts : SystemParts) (rails : List InstanceRails) (n : ℕ) (ty : Ty) (one : InstanceRails) → instance_type parts n ≡ Some ty
    → slice_get rails n ≡ Some one → now_at reading parts rails n ≡ know_in reading ty one.now
now_told reading parts rails n ty one is at =
    ap₂ (λ (t : Option Ty) (o : Option InstanceRails). option_map_or (λ ty. option_map_or (λ (r : InstanceRails). know_in reading ty r.now) o Unknown) t Unknown) is at

later_is : (reading : Reading) (parts : SystemParts) (rails : List InstanceRails) (n : ℕ) (ty : Ty) (one : InstanceRails) → instance_type parts n ≡ Some ty
    → slice_get rails n ≡ Some one → later_at reading parts rails n ≡ later_in reading ty one
later_is reading parts rails n ty one is at =
    ap₂ (λ (t : Option Ty) (o : Option InstanceRails). option_map_or (λ ty. option_map_or (λ (r : InstanceRails). later_in reading ty r) o later.Unknown) t later.Unknown) is at

-- instances settle as their tallies say
module _ (table : Table) (parts : SystemParts) (are : AreParts parts) (now delayed : List Tally) (rails : List InstanceRails) (all : AreSettledRails table parts now delayed rails) where
  pub are_rails : AreInstanceRails table parts rails
  are_rails = record { count = all.long; each = λ n ty one typed at. (all.each n one at).fits ty typed }

  record Standing (n : ℕ) : Type 0 where
    pub ty : Ty
    pub typed : instance_type parts n ≡ Some ty
    pub one : InstanceRails
    pub at : slice_get rails n ≡ Some one

  stands : (n : ℕ) (one : Inst) → slice_get parts.instances n ≡ Some one → Standing n
  stands n one at =
      let within = slice_get_within parts.instances n one at in
      let cell = some_there parts.cells one.cell (cell_there parts are n one at) in
      let long = all.long in
      let rail = some_there rails n (omega (arith, within, long)) in
      record { ty = cell.0.ty; typed = instance_type_read parts n one cell.0 at cell.1; one = rail.0; at = rail.1 }

  pub settled_by : (first second : Table) (nets : List Rail) → Extends first table → Extends second table
      → AreTallies first parts nets false now → AreTallies second parts nets true delayed
      → (reading : Reading) (v : Valuation) → Views table parts v reading → (know : ℕ → Know) → AreKnown parts reading nets know
      → AreSettledBy parts v know (knows_in reading parts rails) (laters_in reading parts rails)
  settled_by first second nets grows grows_too tallies tallies_too reading v views know known = record {
    values = λ n one at.
        let it = stands n one at in
        let within = slice_get_within parts.instances n one at in
        let long = tallies.have.long in
        let tally = some_there now n (omega (arith, within, long)) in
        let e : 0 + n ≡ n = omega arith in
        listed_at (now_at reading parts rails) 0 (length parts.instances) n within
        ∙ ap (λ k. Some (now_at reading parts rails k)) e
        ∙ ap (λ k. Some k) (now_told reading parts rails n it.ty it.one it.typed it.at
        ∙ (all.each n it.one it.at).says_now it.ty one tally.0 it.typed at tally.1 reading v views
        ∙ ap (settles parts v one) (tallies.says n it.ty tally.0 it.typed tally.1 reading (grows.reads reading views.reads) know known));
    laters = λ n one at.
        let it = stands n one at in
        let within = slice_get_within parts.instances n one at in
        let long = tallies_too.have.long in
        let tally = some_there delayed n (omega (arith, within, long)) in
        let e : 0 + n ≡ n = omega arith in
        listed_at (later_at reading parts rails) 0 (length parts.instances) n within
        ∙ ap (λ k. Some (later_at reading parts rails k)) e
        ∙ ap (λ k. Some k) (later_is reading parts rails n it.ty it.one it.typed it.at
        ∙ (all.each n it.one it.at).says_later it.ty tally.0 it.typed tally.1 reading v views
        ∙ ap settled_later (tallies_too.says n it.ty tally.0 it.typed tally.1 reading (grows_too.reads reading views.reads) know known));
  }

-- what a rail of a type tells is of the type
told_typed : (ty : Ty) (clash known : Bool) (bits : List Bool) → length bits ≡ width_of ty → HasType ty (told clash known (value_of ty (number_of bits)))
told_typed ty true known bits long = tt
told_typed ty false true bits long = record { typed = refl; fits = subst (λ w. number_of bits < 2 ^ w) long (number_fits bits) }
told_typed ty false false bits long = tt

before_typed : (table : Table) (parts : SystemParts) (reading : Reading) (before : List InstanceRails) → AreInstanceRails table parts before → HaveTypes parts (knows_in reading parts before)
before_typed table parts reading before are n ty is =
    let within = instance_within parts n ty is in
    let long = are.count in
    let one = some_there before n (omega (arith, within, long)) in
    let rail = (are.each n ty one.0 is one.1).now in
    subst (HasType ty) (sym (known_before parts reading before n ty one.0 is one.1))
    (told_typed ty (reading.values one.0.now.clash.0) (reading.values one.0.now.known.0) (bits_in reading one.0.now.bits.items)
    (bits_long reading one.0.now.bits.items ∙ rail.width))

-- the round after what rails told, from rails of the nets
pub round_told : (first second third : Table) (parts : SystemParts) → AreParts parts → (before after : List InstanceRails) (nets : List Rail) → Extends second third
    → AreInstanceRails first parts before → AreRailsOfNets second parts before nets
    → ((reading : Reading) (v : Valuation) → Views third parts v reading → (know : ℕ → Know) → AreKnown parts reading nets know
    → AreSettledBy parts v know (knows_in reading parts after) (laters_in reading parts after))
    → TellsRound third parts before after
round_told first second third parts are before after nets grows rails known settled = record {
  tells = λ reading reads v spells.
      let views : Views third parts v reading = record { reads = reads; spells = spells } in
      let leaf = listed (leaves_known parts v (knows_in reading parts before)) in
      let know = solution parts.table.nets.entries parts.table.sound (listed (leaves_known parts v (knows_in reading parts before))) in
      let solved : KnowsNets parts reading v before (solution parts.table.nets.entries parts.table.sound (listed (leaves_known parts v (knows_in reading parts before)))) = record {
        leaves = leaves_fit parts v are spells.fits (knows_in reading parts before) (before_typed first parts reading before rails);
        nets = solution_solves parts.table.nets.entries parts.table.sound (listed (leaves_known parts v (knows_in reading parts before)));
      } in
      record {
        know = solution parts.table.nets.entries parts.table.sound (listed (leaves_known parts v (knows_in reading parts before)));
        reads = solved;
        are_settled = settled reading v views (solution parts.table.nets.entries parts.table.sound (listed (leaves_known parts v (knows_in reading parts before))))
            (record {
              each = λ n ty rail type at.
                  known.says n ty rail type at reading v (views_before second third parts v reading grows views)
                  (solution parts.table.nets.entries parts.table.sound (listed (leaves_known parts v (knows_in reading parts before)))) solved;
            });
      };
}

-- round 0
module _ (table : Table) (parts : SystemParts) (rails : List InstanceRails)
    (all : (n : ℕ) (one : InstanceRails) → slice_get rails n ≡ Some one → (ty : Ty) → instance_type parts n ≡ Some ty → IsNothing table ty one) where
  unknown_now : (reading : Reading) → Reads reading table → (n : ℕ) → now_at reading parts rails n ≡ Unknown
  unknown_now reading reads n = by (instance_type parts n) refl (slice_get rails n) refl
    where
      by : (t : Option Ty) → instance_type parts n ≡ t → (o : Option InstanceRails) → slice_get rails n ≡ o
          → option_map_or (λ ty. option_map_or (λ (r : InstanceRails). know_in reading ty r.now) o Unknown) t Unknown ≡ Unknown
      by None is o at = refl
      by (Some ty) is None at = refl
      by (Some ty) is (Some one) at = (all n one at ty is).now reading reads

  unknown_later : (reading : Reading) → Reads reading table → (n : ℕ) → later_at reading parts rails n ≡ later.Unknown
  unknown_later reading reads n = by (instance_type parts n) refl (slice_get rails n) refl
    where
      by : (t : Option Ty) → instance_type parts n ≡ t → (o : Option InstanceRails) → slice_get rails n ≡ o
          → option_map_or (λ ty. option_map_or (λ (r : InstanceRails). later_in reading ty r) o later.Unknown) t later.Unknown ≡ later.Unknown
      by None is o at = refl
      by (Some ty) is None at = refl
      by (Some ty) is (Some one) at = (all n one at ty is).later reading reads

  pub first_told : TellsFirstRound table parts rails
  first_told = record {
    tells = λ reading reads. record {
      values = all_one (now_at reading parts rails) 0 (length parts.instances) Unknown (unknown_now reading reads);
      laters = all_one (later_at reading parts rails) 0 (length parts.instances) later.Unknown (unknown_later reading reads);
    };
  }
