-- Where each instance is known, each net is; and what a definite round says.
use Rattle.std.proofs.Common.{◌≡◌, ℕ, zero, suc, ◌<◌, Bool, true, false, List, Option, Some, None, refl, sym, subst, arith, ◌||◌, if◌then◌else◌}
use Rattle.std.specs.Prelude.{slice_get, slice_index_or}
use Rattle.std.specs.List.{All}
use Rattle.std.specs.Option.{option_map, option_map_or}
use Rattle.std.proofs.lemmas.Bool.{false≢true}
use Rattle.std.proofs.lemmas.Option.{slice_get_within, get_or_from_slice_get}
use Rattle.qz_values.specs.declared.Ty.{Ty}
use Rattle.qz_values.specs.declared.Op1.{Op1}
use Rattle.qz_values.specs.declared.Op2.{Op2}
use Rattle.qz_values.specs.declared.Know.{Know}
use Rattle.qz_values.specs.declared.Know.TheVariants.{Unknown, Known, Clash}
use Rattle.qz_values.specs.Knowledge.{apply1_of, apply2_of, choose_of, bit_of, slice_of, concat_of, left_decides, right_decides, decided, from_both}
use Rattle.qz_values.specs.Operators.{value2}
use Rattle.qz_values.specs.Values.{value_of, is_yes}
use Rattle.qz_values.specs.Tables.{type1_of, type2_of, choose_type, bit_type, slice_type, concat_type}
use Rattle.qz_values.proofs.Given.{given1, given2, given3}
use Rattle.qz_nets.specs.declared.net.Net.{Net}
use Rattle.qz_nets.specs.declared.net.Net.TheVariants as net
use Rattle.qz_nets.specs.declared.table.NetTable.{NetTable}
use Rattle.qz_nets.specs.Nets.{net_type, net_know}
use Rattle.qz_nets.specs.Readings.{net_in, type_in, listed}
use Rattle.qz_syntax.specs.declared.declarations.Port.{Port}
use Rattle.qz_syntax.specs.declared.places.Later.{Later}
use Rattle.qz_syntax.specs.declared.places.Later.TheVariants as later
use Rattle.qz_verilog.specs.Meaning.{Nets}
use Rattle.qz_meaning.specs.Settling.{settled_later}
use Rattle.qz_system.specs.declared.parts.Inst.{Inst}
use Rattle.qz_system.specs.declared.parts.SystemLeaf.{SystemLeaf}
use Rattle.qz_system.specs.declared.parts.SystemLeaf.TheVariants as leaf
use Rattle.qz_system.specs.declared.parts.SystemParts.{SystemParts}
use Rattle.qz_system.specs.declared.valuation.Valuation.{Valuation}
use Rattle.qz_system.specs.Parts.{AreParts, leaf_stands}
use Rattle.qz_system.specs.Writers.{verdict_of}
use Rattle.qz_system.specs.Rounds.{leaf_known, leaves_known, settles, IsRound}
use Rattle.qz_system.specs.Nexts.{is_known, is_told}
use Rattle.qz_system.proofs.TypingLemmas.{instance_within}
use Rattle.qz_wires.proofs.Operands.{AreBefore, operands_before, operands_fit}
use Rattle.qz_equations.specs.declared.ends.LastRails.{LastRails}
use Rattle.qz_equations.specs.Ends.{IsShown, Ends}
use Rattle.qz_equations.proofs.InstanceLemmas.{there}
use Rattle.qz_equations.proofs.RoundLemmas.{leaf_of_net}
use Rattle.qz_equations.proofs.LeafLemmas.{leaf_at}

abbrev IsKnown : Know → Type 0
IsKnown k = is_known k ≡ true

known1 : (op : Op1) (a : Know) → IsKnown a → IsKnown (apply1_of op a)
known1 op Unknown h = absurd (false≢true h)
known1 op (Known v) h = refl
known1 op Clash h = absurd (false≢true h)

known2 : (op : Op2) (a b : Know) → IsKnown a → IsKnown b → IsKnown (apply2_of op a b)
known2 op Unknown b h k = absurd (false≢true h)
known2 op (Known v) Unknown h k = absurd (false≢true k)
known2 op (Known v) (Known w) h k = by (left_decides op (Known v)) (right_decides op (Known w))
  where
    by : (l r : Bool) → IsKnown (if l || r then Known (decided op) else from_both (value2 op) (Known v) (Known w))
    by true r = refl
    by false true = refl
    by false false = refl
known2 op (Known v) Clash h k = absurd (false≢true k)
known2 op Clash b h k = absurd (false≢true h)

known_choose : (c a b : Know) → IsKnown c → IsKnown a → IsKnown b → IsKnown (choose_of c a b)
known_choose Unknown a b h k l = absurd (false≢true h)
known_choose (Known v) a b h k l = by (is_yes v)
  where
    by : (s : Bool) → IsKnown (if s then a else b)
    by true = k
    by false = l
known_choose Clash a b h k l = absurd (false≢true h)

known_concat : (a b : Know) → IsKnown a → IsKnown b → IsKnown (concat_of a b)
known_concat Unknown b h k = absurd (false≢true h)
known_concat (Known v) Unknown h k = absurd (false≢true k)
known_concat (Known v) (Known w) h k = refl
known_concat (Known v) Clash h k = absurd (false≢true k)
known_concat Clash b h k = absurd (false≢true h)

known_bit : (a : Know) (i : ℕ) → IsKnown a → IsKnown (bit_of a i)
known_bit Unknown i h = absurd (false≢true h)
known_bit (Known v) i h = refl
known_bit Clash i h = absurd (false≢true h)

known_slice : (a : Know) (i j : ℕ) → IsKnown a → IsKnown (slice_of a i j)
known_slice Unknown i j h = absurd (false≢true h)
known_slice (Known v) i j h = refl
known_slice Clash i j h = absurd (false≢true h)

-- nets of known operands
module _ (table : NetTable) (leaf know : ℕ → Know)
    (leaves : (n number : ℕ) (ty : Ty) → net_in table n ≡ Some (net.Leaf number ty) → IsKnown (leaf number)) where
  abbrev Below : ℕ → Type 0
  Below n = (k : ℕ) (ty : Ty) → k < n → type_in table k ≡ Some ty → IsKnown (know k)

  net_known : (n : ℕ) (m : Net) (ty : Ty) → net_in table n ≡ Some m → net_type (type_in table) m ≡ Some ty → AreBefore n m → Below n → IsKnown (net_know leaf know m)
  net_known n (net.Const v) ty at h before below = refl
  net_known n (net.Leaf number t) ty at h before below = leaves n number t at
  net_known n (net.Un op a) ty at h before below =
      let p = given1 (type1_of op) (type_in table a.0) ty h in known1 op (know a.0) (below a.0 p.s before p.first)
  net_known n (net.Bin op a b) ty at h before below =
      let p = given2 (type2_of op) (type_in table a.0) (type_in table b.0) ty h in
      known2 op (know a.0) (know b.0) (below a.0 p.s before.0 p.first) (below b.0 p.t before.1 p.second)
  net_known n (net.Choose c a b) ty at h before below =
      let p = given3 choose_type (type_in table c.0) (type_in table a.0) (type_in table b.0) ty h in
      known_choose (know c.0) (know a.0) (know b.0) (below c.0 p.r before.0 p.first) (below a.0 p.s before.1 p.second) (below b.0 p.t before.2 p.third)
  net_known n (net.Bit a i) ty at h before below =
      let p = given1 (λ t. bit_type t i) (type_in table a.0) ty h in known_bit (know a.0) i (below a.0 p.s before p.first)
  net_known n (net.Slice a i j) ty at h before below =
      let p = given1 (λ t. slice_type t i j) (type_in table a.0) ty h in known_slice (know a.0) i j (below a.0 p.s before p.first)
  net_known n (net.Concat a b) ty at h before below =
      let p = given2 concat_type (type_in table a.0) (type_in table b.0) ty h in
      known_concat (know a.0) (know b.0) (below a.0 p.s before.0 p.first) (below b.0 p.t before.1 p.second)

  module _ (solves : (n : ℕ) (m : Net) → net_in table n ≡ Some m → know n ≡ net_know leaf know m) where
    entry : (o : Option (Net × Ty)) (ty : Ty) → option_map (λ (e : Net × Ty). e.1) o ≡ Some ty → (m : Net) × (option_map (λ (e : Net × Ty). e.0) o ≡ Some m)
    entry None ty h = absurd (cc)
    entry (Some e) ty h = (e.0, refl)

    known_below : (k : ℕ) → Below k
    known_below zero n ty less is = absurd (omega (arith, less))
    known_below (suc k) n ty less is =
        let m = entry (slice_get table.nets.entries n) ty is in
        rw (solves n m.0 m.1)
        (net_known n m.0 ty m.1 (operands_fit table n m.0 ty m.1 is) (operands_before table n m.0 ty m.1 is)
        (λ j t below at. known_below k j t (omega (arith, below, less)) at))

    pub all_known : (n : ℕ) (ty : Ty) → type_in table n ≡ Some ty → IsKnown (know n)
    all_known n ty is = known_below (suc n) n ty (omega arith) is

module _ (parts : SystemParts) (are : AreParts parts) (v : Valuation) (knows : List Know)
    (known : (n : ℕ) (one : Inst) → slice_get parts.instances n ≡ Some one → IsKnown (slice_index_or knows n Unknown)) where
  leaf_is_known : (one : SystemLeaf) (ty : Ty) → leaf_stands parts one ≡ Some ty → IsKnown (leaf_known parts v knows one)
  leaf_is_known (leaf.Input n) ty is = by (slice_get parts.inputs n) is
    where
      by : (o : Option Port) → option_map (λ (port : Port). port.ty) o ≡ Some ty
          → IsKnown (option_map_or (λ (port : Port). Known (value_of port.ty (slice_index_or v.inputs.items n 0))) o Unknown)
      by None h = absurd (cc)
      by (Some port) h = refl
  leaf_is_known (leaf.Now n) ty is = let one = there parts n (instance_within parts n ty is) in known n one.0 one.1
  leaf_is_known (leaf.At n) ty is = refl
  leaf_is_known leaf.Started ty is = refl

  pub leaves_are_known : (n number : ℕ) (ty : Ty) → net_in parts.table n ≡ Some (net.Leaf number ty) → IsKnown (listed (leaves_known parts v knows) number)
  leaves_are_known n number ty at =
      let s = leaf_of_net parts are n number ty at in
      subst IsKnown (sym (leaf_at parts v knows number s.one s.at)) (leaf_is_known s.one ty s.is)

-- what a round says that changes nothing, where all is known
pub ends_of : (parts : SystemParts) → AreParts parts → (v : Valuation) (nets : Nets) (last : LastRails) (knows : List Know) (delayed : List Later)
    (stays : IsRound parts v knows knows delayed) → All (λ k. is_known k ≡ true) knows → All (λ l. is_told l ≡ true) delayed
    → IsShown parts nets last knows stays.know → Ends parts nets last knows delayed stays.know
ends_of parts are v nets last knows delayed stays known told shown = record {
  instances = shown.instances;
  nets = shown.nets;
  delayed = shown.delayed;
  known = each;
  later_is = λ n one at. get_or_from_slice_get delayed n (settled_later (verdict_of stays.know n true parts.acts)) later.Unknown (stays.are_settled.laters n one at);
  told = λ n one at. told n later.Unknown (slice_get_within delayed n (settled_later (verdict_of stays.know n true parts.acts)) (stays.are_settled.laters n one at));
  plain = all_known parts.table (listed (leaves_known parts v knows)) stays.know (leaves_are_known parts are v knows each) stays.reads.nets;
}
  where
    each : (n : ℕ) (one : Inst) → slice_get parts.instances n ≡ Some one → IsKnown (slice_index_or knows n Unknown)
    each n one at = known n Unknown (slice_get_within knows n (settles parts v one (verdict_of stays.know n false parts.acts)) (stays.are_settled.values n one at))
