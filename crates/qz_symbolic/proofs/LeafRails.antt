-- Rails of leaves.
use Rattle.std.proofs.Common.{◌≡◌, ℕ, zero, suc, ◌+◌, ◌<◌, Bool, true, false, List, [], ◌∷◌, map, length, get_or, Option, Some, None, refl, sym, ap, ap₂, subst, ◌∙◌, arith, nat_lt}
use Rattle.std.specs.Prelude.{slice_get, slice_index_or, if◌then◌else◌}
use Rattle.std.specs.List.{range_with_len}
use Rattle.std.specs.Option.{option_map, option_map_or, option_and_then}
use Rattle.std.proofs.lemmas.Bool.{ltb-true}
use Rattle.std.proofs.lemmas.Option.{slice_get_within, get_or_from_slice_get, slice_get-map}
use Rattle.std.proofs.lemmas.List.FromFn.{get_or-map-range_with_len}
use Rattle.qz_dd.specs.declared.table.Table.{Table}
use Rattle.qz_dd.specs.Tables.{Reading, Extends}
use Rattle.qz_values.specs.declared.Ty.{Ty}
use Rattle.qz_values.specs.declared.Ty.TheVariants.{Bool as Truth}
use Rattle.qz_values.specs.declared.Know.TheVariants.{Unknown, Known}
use Rattle.qz_values.specs.Values.{value_of, truth_of}
use Rattle.qz_rails.specs.declared.rail.Rail.{Rail}
use Rattle.qz_rails.specs.Bits.{number_of, variables_in}
use Rattle.qz_rails.specs.Rails.{IsRail, CarriesKnow, know_in}
use Rattle.qz_syntax.specs.declared.declarations.Port.{Port}
use Rattle.qz_system.specs.declared.parts.SystemLeaf.{SystemLeaf}
use Rattle.qz_system.specs.declared.parts.SystemLeaf.TheVariants as leaf
use Rattle.qz_system.specs.declared.parts.SystemParts.{SystemParts}
use Rattle.qz_system.specs.declared.valuation.Valuation.{Valuation}
use Rattle.qz_nets.specs.declared.net.Net.TheVariants as net
use Rattle.qz_nets.specs.Readings.{net_in, listed, count as net_count}
use Rattle.qz_net_rails.specs.NetRails.{AreLeafRails, AreSaid, AreNetRails}
use Rattle.qz_system.specs.Parts.{AreParts, input_type, instance_type, leaf_stands, leaf_at, is_leaf_right, is_net_right}
use Rattle.qz_system.proofs.Finding.{the_type}
use Rattle.qz_system.proofs.NetLemmas.{net_at_all}
use Rattle.qz_system.specs.Valuations.{rests_at}
use Rattle.qz_system.specs.Rounds.{leaf_known, leaves_known}
use Rattle.qz_system.proofs.TypingLemmas.{instance_within}
use Rattle.qz_symbolic.specs.declared.rails.InstanceRails.{InstanceRails}
use Rattle.qz_symbolic.specs.Variables.{Spot, AreSpots, input_width}
use Rattle.qz_symbolic.specs.Telling.{AreInstanceRails, knows_in, now_at}
use Rattle.qz_symbolic.specs.Views.{Views}
use Rattle.qz_symbolic.specs.Knowing.{IsLeafRail, AreRailsOfLeaves, AreRailsOfNets}
use Rattle.qz_symbolic.proofs.Growing.{views_before}
use Rattle.qz_symbolic.proofs.OwnSpots.{input_within}
use Rattle.qz_symbolic.proofs.Spelling.{started_there, place_there, variable_read, variables_read, given_number}

-- a leaf that is right stands for something
pub stands : (parts : SystemParts) (one : SystemLeaf) → is_leaf_right parts one ≡ true → (ty : Ty) × (leaf_stands parts one ≡ Some ty)
stands parts one right = by (leaf_stands parts one) refl right
  where
    by : (o : Option Ty) → leaf_stands parts one ≡ o → option_map_or (λ ty. true) o false ≡ true → (ty : Ty) × (leaf_stands parts one ≡ Some ty)
    by None is h = absurd (cc)
    by (Some ty) is h = (ty, is)

pub place_of : (parts : SystemParts) (place : ℕ) → is_leaf_right parts (leaf.At place) ≡ true → place < length parts.places
place_of parts place right = by (nat_lt place (length parts.places)) refl right
  where
    by : (b : Bool) → nat_lt place (length parts.places) ≡ b → option_map_or (λ ty. true) (if b then Some Truth else None) false ≡ true → place < length parts.places
    by true is h = ltb-true place (length parts.places) is
    by false is h = absurd (cc)

pub place_type : (parts : SystemParts) (place : ℕ) (ty : Ty) → leaf_stands parts (leaf.At place) ≡ Some ty → Truth ≡ ty
place_type parts place ty is = by (nat_lt place (length parts.places)) is
  where
    by : (b : Bool) → (if b then Some Truth else None) ≡ Some ty → Truth ≡ ty
    by true h = cc
    by false h = absurd (cc)

pub input_of : (parts : SystemParts) (input : ℕ) → is_leaf_right parts (leaf.Input input) ≡ true → input < length parts.inputs
input_of parts input right = let it = stands parts (leaf.Input input) right in input_within parts input it.0 it.1

pub instance_of : (parts : SystemParts) (instance : ℕ) → is_leaf_right parts (leaf.Now instance) ≡ true → instance < length parts.instances
instance_of parts instance right = let it = stands parts (leaf.Now instance) right in instance_within parts instance it.0 it.1

-- a bool by its only bit
bit_truth : (b : Bool) → value_of Truth (number_of (b ∷ [])) ≡ truth_of b
bit_truth true = refl
bit_truth false = refl

pub of_place : (table : Table) (parts : SystemParts) (before : List InstanceRails) (place : ℕ) (rail : Rail) → is_leaf_right parts (leaf.At place) ≡ true
    → IsRail table Truth rail → CarriesKnow table Truth rail (λ reading. Known (value_of Truth (number_of (variables_in reading ((place + 1) ∷ [])))))
    → IsLeafRail table parts before (leaf.At place) rail
of_place table parts before place rail right fits means = record {
  fits = λ ty is. subst (λ t. IsRail table t rail) (place_type parts place ty is) fits;
  says = λ ty is reading v views.
      ap (λ t. know_in reading t rail) (sym (place_type parts place ty is))
      ∙ means reading views.reads
      ∙ ap (λ b. Known (value_of Truth (number_of (b ∷ []))))
      (variable_read parts v reading views.spells (place + 1) (Spot.At place) (place_there parts place (place_of parts place right)))
      ∙ ap (λ w. Known w) (bit_truth (rests_at v place));
}

pub of_started : (table : Table) (parts : SystemParts) (before : List InstanceRails) (rail : Rail)
    → IsRail table Truth rail → CarriesKnow table Truth rail (λ reading. Known (value_of Truth (number_of (variables_in reading (0 ∷ [])))))
    → IsLeafRail table parts before leaf.Started rail
of_started table parts before rail fits means = record {
  fits = λ ty is. let same : Truth ≡ ty = cc in subst (λ t. IsRail table t rail) same fits;
  says = λ ty is reading v views.
      let same : Truth ≡ ty = cc in
      ap (λ t. know_in reading t rail) (sym same)
      ∙ means reading views.reads
      ∙ ap (λ b. Known (value_of Truth (number_of (b ∷ [])))) (variable_read parts v reading views.spells 0 Spot.Started (started_there parts))
      ∙ ap (λ w. Known w) (bit_truth v.started);
}

pub of_input : (table : Table) (parts : SystemParts) (before : List InstanceRails) (input : ℕ) (port : Port) (variables : List ℕ) (rail : Rail)
    → slice_get parts.inputs input ≡ Some port → AreSpots parts (map (Spot.Given input) (range_with_len 0 (input_width parts input))) variables
    → IsRail table port.ty rail → CarriesKnow table port.ty rail (λ reading. Known (value_of port.ty (number_of (variables_in reading variables))))
    → IsLeafRail table parts before (leaf.Input input) rail
of_input table parts before input port variables rail at are fits means = record {
  fits = λ ty is. subst (λ t. IsRail table t rail) (same ty is) fits;
  says = λ ty is reading v views.
      ap (λ t. know_in reading t rail) (sym (same ty is))
      ∙ means reading views.reads
      ∙ ap (λ bits. Known (value_of port.ty (number_of bits)))
      (variables_read parts v reading views.spells (map (Spot.Given input) (range_with_len 0 (input_width parts input))) variables are)
      ∙ ap (λ n. Known (value_of port.ty n)) (given_number parts v views.spells.fits input port at)
      ∙ ap (λ o. option_map_or (λ (p : Port). Known (value_of p.ty (slice_index_or v.inputs.items input 0))) o Unknown) (sym at);
}
  where
    same : (ty : Ty) → input_type parts input ≡ Some ty → port.ty ≡ ty
    same ty is =
        let there : Some port.ty ≡ input_type parts input = ap (option_map (λ (p : Port). p.ty)) (sym at) in
        let both : Some port.ty ≡ Some ty = there ∙ is in cc

-- what was known of an instance
pub known_before : (parts : SystemParts) (reading : Reading) (before : List InstanceRails) (n : ℕ) (ty : Ty) (one : InstanceRails)
    → instance_type parts n ≡ Some ty → slice_get before n ≡ Some one → get_or (knows_in reading parts before) n Unknown ≡ know_in reading ty one.now
known_before parts reading before n ty one is at =
    get_or-map-range_with_len (now_at reading parts before) 0 (length parts.instances) n n Unknown (instance_within parts n ty is) (omega arith)
    ∙ ap₂ (λ (t : Option Ty) (o : Option InstanceRails). option_map_or (λ ty. option_map_or (λ (r : InstanceRails). know_in reading ty r.now) o Unknown) t Unknown) is at

pub of_instance : (table : Table) (parts : SystemParts) (before : List InstanceRails) (n : ℕ) (one : InstanceRails) (rail : Rail)
    → AreInstanceRails table parts before → slice_get before n ≡ Some one
    → rail.clash ≡ one.now.clash → rail.known ≡ one.now.known → rail.bits.items ≡ one.now.bits.items
    → IsLeafRail table parts before (leaf.Now n) rail
of_instance table parts before n one rail are at clash known bits = record {
  fits = λ ty is.
      let fits = (are.each n ty one is at).now in
      record {
        clash = rw clash fits.clash;
        known = rw known fits.known;
        bits = rw bits fits.bits;
        width = ap length bits ∙ fits.width;
      };
  says = λ ty is reading v views.
      let copied : know_in reading ty rail ≡ know_in reading ty one.now = rw (clash, known, bits) refl in
      copied ∙ sym (known_before parts reading before n ty one is at);
}

-- a leaf that a net reads is there, with what it stands for
record LeafThere (parts : SystemParts) (number : ℕ) (ty : Ty) : Type 0 where
  pub one : SystemLeaf
  pub at : slice_get parts.leaves number ≡ Some one
  pub typed : leaf_stands parts one ≡ Some ty

leaf_there : (parts : SystemParts) → AreParts parts → (n number : ℕ) (ty : Ty) → net_in parts.table n ≡ Some (net.Leaf number ty) → LeafThere parts number ty
leaf_there parts are n number ty at =
    by (slice_get parts.leaves number) refl
    (the_type ty (leaf_at parts number) (net_at_all (is_net_right parts) parts.table.nets.entries are.is_wired.net_leaves n (net.Leaf number ty) at))
  where
    by : (o : Option SystemLeaf) → slice_get parts.leaves number ≡ o → option_and_then (λ one. leaf_stands parts one) o ≡ Some ty → LeafThere parts number ty
    by None is h = absurd (cc)
    by (Some one) is h = record { one = one; at = is; typed = h }

pub some_there : {A : Type 0} (xs : List A) (n : ℕ) → n < length xs → (x : A) × (slice_get xs n ≡ Some x)
some_there [] n below = absurd (omega (arith, below))
some_there (x ∷ xs) zero below = (x, refl)
some_there (x ∷ xs) (suc n) below = some_there xs n (omega (arith, below))

module _ (table : Table) (parts : SystemParts) (are : AreParts parts) (before : List InstanceRails) (rails : List Rail) (all : AreRailsOfLeaves table parts before rails) where
  there : (number : ℕ) → number < length parts.leaves → (rail : Rail) × (slice_get rails number ≡ Some rail)
  there number within = let long = all.long in some_there rails number (omega (arith, long, within))

  pub leaf_rails : AreLeafRails table parts.table rails
  leaf_rails = record {
    each = λ n number ty at.
        let leaf = leaf_there parts are n number ty at in
        let it = there number (slice_get_within parts.leaves number leaf.one leaf.at) in
        record { rail = it.0; is = it.1; fits = (all.each number leaf.one it.0 leaf.at it.1).fits ty leaf.typed };
  }

  pub leaves_said : (reading : Reading) (v : Valuation) → Views table parts v reading
      → AreSaid reading parts.table rails (listed (leaves_known parts v (knows_in reading parts before)))
  leaves_said reading v views = record {
    each = λ n number ty at.
        let leaf = leaf_there parts are n number ty at in
        let it = there number (slice_get_within parts.leaves number leaf.one leaf.at) in
        get_or_from_slice_get (leaves_known parts v (knows_in reading parts before)) number (leaf_known parts v (knows_in reading parts before) leaf.one) Unknown
        (slice_get-map (λ one. leaf_known parts v (knows_in reading parts before) one) parts.leaves number
        ∙ ap (option_map (λ one. leaf_known parts v (knows_in reading parts before) one)) leaf.at)
        ∙ sym ((all.each number leaf.one it.0 leaf.at it.1).says ty leaf.typed reading v views)
        ∙ ap (λ (o : Option Rail). option_map_or (λ (rail : Rail). know_in reading ty rail) o Unknown) (sym it.1);
  }

-- rails of nets, from those of leaves
pub nets_known : (first second : Table) (parts : SystemParts) → AreParts parts → (before : List InstanceRails) (leaves rails : List Rail) → Extends first second
    → AreRailsOfLeaves first parts before leaves → length rails ≡ net_count parts.table → AreNetRails second parts.table leaves rails → AreRailsOfNets second parts before rails
nets_known first second parts are before leaves rails grows all long nets = record {
  fit = record { long = long; each = λ n ty rail type at. (nets.each n ty rail type at).fits };
  says = λ n ty rail type at reading v views know reads.
      (nets.each n ty rail type at).says reading views.reads
      (record { leaf = listed (leaves_known parts v (knows_in reading parts before)); know = know }) reads
      (leaves_said first parts are before leaves all reading v (views_before first second parts v reading grows views));
}
