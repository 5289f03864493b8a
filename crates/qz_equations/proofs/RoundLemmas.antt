-- Rounds in rails: leaves have theirs, and what instances settle to is the next round.
use Rattle.std.proofs.Common.{◌≡◌, ℕ, zero, suc, false, List, length, get_or, Option, Some, None, refl, sym, ap, subst, ◌∙◌, arith}
use Rattle.std.specs.Prelude.{slice_get, replicate}
use Rattle.std.specs.Option.{option_map_or, option_and_then}
use Rattle.std.proofs.lemmas.Option.{slice_get_within, slice_get-get_or, get_or_from_slice_get}
use Rattle.qz_values.specs.declared.Ty.{Ty}
use Rattle.qz_values.specs.declared.Know.{Know}
use Rattle.qz_values.specs.declared.Know.TheVariants.{Unknown}
use Rattle.qz_nets.specs.declared.net.Net.TheVariants as net
use Rattle.qz_nets.specs.Readings.{net_in, listed}
use Rattle.qz_syntax.specs.declared.places.Later.{Later}
use Rattle.qz_verilog.specs.Types.{NetTypes}
use Rattle.qz_verilog.specs.declared.nets.Ref.TheVariants as ref
use Rattle.qz_verilog.specs.Meaning.{Nets}
use Rattle.qz_system.specs.declared.parts.Inst.{Inst}
use Rattle.qz_system.specs.declared.parts.SystemLeaf.{SystemLeaf}
use Rattle.qz_system.specs.declared.parts.SystemParts.{SystemParts}
use Rattle.qz_system.specs.declared.valuation.Valuation.{Valuation}
use Rattle.qz_system.specs.Parts.{AreParts, is_net_right, leaf_at, leaf_stands}
use Rattle.qz_system.specs.Writers.{verdict_of}
use Rattle.qz_system.specs.Rounds.{settles, AreSettledBy}
use Rattle.qz_system.specs.Nexts.{IsFirstRound}
use Rattle.qz_system.proofs.Finding.{the_type}
use Rattle.qz_system.proofs.NetLemmas.{net_at_all}
use Rattle.qz_wires.specs.declared.rails.Rail.{Rail}
use Rattle.qz_wires.specs.Rails.{Shows, ShowEach}
use Rattle.qz_wires.specs.NetRails.{HasRail, AreLeafRails}
use Rattle.qz_equations.specs.Unrolled.{AreLeavesOf, settles_at}
use Rattle.qz_equations.proofs.InstanceLemmas.{there}

-- what a leaf of the table stands for
pub record StandsFor (parts : SystemParts) (number : ℕ) (ty : Ty) : Type 0 where
  pub one : SystemLeaf
  pub at : slice_get parts.leaves number ≡ Some one
  pub is : leaf_stands parts one ≡ Some ty

pub leaf_of_net : (parts : SystemParts) → AreParts parts → (n number : ℕ) (ty : Ty) → net_in parts.table n ≡ Some (net.Leaf number ty) → StandsFor parts number ty
leaf_of_net parts are n number ty at =
    by (slice_get parts.leaves number) refl
    (the_type ty (leaf_at parts number) (net_at_all (is_net_right parts) parts.table.nets.entries are.is_wired.net_leaves n (net.Leaf number ty) at))
  where
    by : (o : Option SystemLeaf) → slice_get parts.leaves number ≡ o → option_and_then (λ one. leaf_stands parts one) o ≡ Some ty → StandsFor parts number ty
    by None is h = absurd (cc)
    by (Some one) is h = record { one = one; at = is; is = h }

abbrev no_rail : Rail
no_rail = record { known = ref.Input 0; value = ref.Input 0 }

pub leaves_have_rails : (parts : SystemParts) → AreParts parts → (types : NetTypes) (leaves : List Rail) → length leaves ≡ length parts.leaves
    → AreLeavesOf types parts leaves → AreLeafRails types parts.table leaves
leaves_have_rails parts are types leaves count typed = record { each = λ n number ty at. by number ty (leaf_of_net parts are n number ty at) }
  where
    by : (number : ℕ) (ty : Ty) → StandsFor parts number ty → HasRail types ty leaves number
    by number ty s =
        let inside = slice_get_within parts.leaves number s.one s.at in
        let rail = slice_get-get_or leaves number no_rail (omega (arith, inside, count)) in
        record { rail = get_or leaves number no_rail; is = rail; fits = typed.each number s.one ty (get_or leaves number no_rail) s.at s.is rail }

-- what the instances settle to is known of them in the next round
pub shows_settled : (parts : SystemParts) (v : Valuation) (nets : Nets) (rails : List Rail) (know : ℕ → Know) (after : List Know) (delayed : List Later)
    → AreSettledBy parts v know after delayed → length rails ≡ length parts.instances
    → ShowEach nets rails (λ n. settles_at parts v n (verdict_of know n false parts.acts)) → ShowEach nets rails (listed after)
shows_settled parts v nets rails know after delayed settled count shown = λ n rail at.
    let one = there parts n (let h = slice_get_within rails n rail at in omega (arith, h, count)) in
    let k = verdict_of know n false parts.acts in
    let is : settles_at parts v n k ≡ settles parts v one.0 k = ap (λ (o : Option Inst). option_map_or (λ (x : Inst). settles parts v x k) o Unknown) one.1 in
    subst (Shows nets rail) (is ∙ sym (get_or_from_slice_get after n (settles parts v one.0 k) Unknown (settled.values n one.0 one.1))) (shown n rail at)

-- in round 0 nothing is known
pub first_unknown : (parts : SystemParts) (knows : List Know) (delayed : List Later) → IsFirstRound parts knows delayed → (n : ℕ) → listed knows n ≡ Unknown
first_unknown parts knows delayed first n = ap (λ (xs : List Know). get_or xs n Unknown) first.values ∙ none (length parts.instances) n
  where
    none : (count n : ℕ) → get_or (replicate count Unknown) n Unknown ≡ Unknown
    none zero n = refl
    none (suc count) zero = refl
    none (suc count) (suc n) = none count n
