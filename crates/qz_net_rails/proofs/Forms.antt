-- What a net of each form asks of its operands' rails, and the rail that it then has.
use Rattle.std.proofs.Common.{◌≡◌, ℕ, ◌+◌, ◌-◌, ◌<◌, ◌≤◌, Bool, true, List, length, slice_get, Option, Some, IsTrue, refl, sym, ap, ap₂, subst, ◌∙◌, arith}
use Rattle.std.specs.Option.{option_map_or}
use Rattle.qz_dd.specs.declared.table.Table.{Table}
use Rattle.qz_dd.specs.Tables.{Reading, Reads, Extends}
use Rattle.qz_values.specs.declared.Ty.{Ty}
use Rattle.qz_values.specs.declared.Ty.TheVariants.{Bool as Truth, Bv}
use Rattle.qz_values.specs.declared.Value.{Value}
use Rattle.qz_values.specs.declared.Know.{Know}
use Rattle.qz_values.specs.declared.Know.TheVariants.{Known, Unknown}
use Rattle.qz_values.specs.declared.Op1.{Op1}
use Rattle.qz_values.specs.declared.Op2.{Op2}
use Rattle.qz_values.specs.Types.{width_of}
use Rattle.qz_values.specs.Values.{type_of}
use Rattle.qz_values.specs.Tables.{gives2}
use Rattle.qz_values.specs.Knowledge.{apply1_of, apply2_of, choose_of, bit_of, slice_of, concat_of}
use Rattle.qz_nets.specs.declared.net.Net.{Net}
use Rattle.qz_nets.specs.declared.net.Net.TheVariants as net
use Rattle.qz_nets.specs.declared.net.NetId.{NetId}
use Rattle.qz_nets.specs.declared.table.NetTable.{NetTable}
use Rattle.qz_nets.specs.Nets.{net_know}
use Rattle.qz_nets.specs.Readings.{net_in, type_in, Reading as NetReading, Reads as ReadsNets}
use Rattle.qz_rails.specs.declared.rail.Rail.{Rail}
use Rattle.qz_rails.specs.Rails.{IsRail, CarriesKnow, know_in}
use Rattle.qz_net_rails.specs.NetRails.{know_at, AreSaid, HasRail, AreLeafRails, IsNetRail, AreNetRails}
use Rattle.qz_net_rails.proofs.Operands.{const_fits, leaf_fits, un_fits, bin_fits, choose_fits, bit_fits, slice_fits, concat_fits}

-- a rail of the net's type that says what the net's form gives is the net's
by_form : (table : Table) (nets : NetTable) (leaves : List Rail) (n : ℕ) (m : Net) → net_in nets n ≡ Some m →
    (t ty : Ty) → t ≡ ty → (r : Rail) → IsRail table t r →
    ((reading : Reading) → Reads reading table → (v : NetReading) → ReadsNets v nets → AreSaid reading nets leaves v.leaf →
    know_in reading t r ≡ net_know v.leaf v.know m) →
    IsNetRail table nets leaves n ty r
by_form table nets leaves n m at t ty is r fits means = subst (λ u. IsNetRail table nets leaves n u r) is record {
  fits = fits;
  says = λ reading reads v on said. means reading reads v on said ∙ sym (on.nets n m at);
}

-- forms whose rail adds nothing to the table of diagrams
module _ (old : Table) (nets : NetTable) (leaves rails : List Rail) (all : AreNetRails old nets leaves rails) (n : ℕ) where
  pub of_const : (v : Value) → net_in nets n ≡ Some (net.Const v) → (r : Rail) → IsRail old (type_of v) r →
      CarriesKnow old (type_of v) r (λ reading. Known v) → (ty : Ty) → type_in nets n ≡ Some ty → IsNetRail old nets leaves n ty r
  of_const v at r fits means ty type = by_form old nets leaves n (net.Const v) at (type_of v) ty (const_fits nets n ty type v at).gives r fits
      (λ reading reads w on said. means reading reads)

  pub of_leaf : AreLeafRails old nets leaves → (number : ℕ) (t : Ty) → net_in nets n ≡ Some (net.Leaf number t) → (leaf r : Rail) →
      slice_get leaves number ≡ Some leaf → r.clash ≡ leaf.clash → r.known ≡ leaf.known → r.bits.items ≡ leaf.bits.items →
      (ty : Ty) → type_in nets n ≡ Some ty → IsNetRail old nets leaves n ty r
  of_leaf given number t at leaf r there clash known bits ty type =
      let one = given.each n number t at in
      let e : Some one.rail ≡ Some leaf = sym one.is ∙ there in
      let same : one.rail ≡ leaf = cc in
      let fits : IsRail old t leaf = subst (λ x. IsRail old t x) same one.fits in
      by_form old nets leaves n (net.Leaf number t) at t ty (leaf_fits nets n ty type number t at) r
      record {
        clash = rw clash fits.clash;
        known = rw known fits.known;
        bits = rw bits fits.bits;
        width = ap length bits ∙ fits.width;
      }
      (λ reading reads w on said.
      let heard : know_at reading t leaves number ≡ know_in reading t leaf = ap (λ (o : Option Rail). option_map_or (λ (rail : Rail). know_in reading t rail) o Unknown) there in
      let copied : know_in reading t r ≡ know_in reading t leaf = rw (clash, known, bits) refl in
      copied ∙ sym heard ∙ sym (said.each n number t at))

  pub of_bit : (a : NetId) (i : ℕ) (s : Ty) (whole r : Rail) → net_in nets n ≡ Some (net.Bit a i) → type_in nets a.0 ≡ Some s → slice_get rails a.0 ≡ Some whole →
      IsRail old Truth r → ((reading : Reading) → know_in reading Truth r ≡ bit_of (know_in reading s whole) i) →
      (ty : Ty) → type_in nets n ≡ Some ty → IsNetRail old nets leaves n ty r
  of_bit a i s whole r at is there fits means ty type = by_form old nets leaves n (net.Bit a i) at Truth ty (bit_fits nets n ty type a i s at is).gives r fits
      (λ reading reads w on said. means reading ∙ ap (λ k. bit_of k i) ((all.each a.0 s whole is there).says reading reads w on said))

  pub of_slice : (a : NetId) (high low : ℕ) (s : Ty) (whole r : Rail) → net_in nets n ≡ Some (net.Slice a high low) → type_in nets a.0 ≡ Some s →
      slice_get rails a.0 ≡ Some whole →
      IsRail old (Bv (high - low + 1)) r → ((reading : Reading) → know_in reading (Bv (high - low + 1)) r ≡ slice_of (know_in reading s whole) high low) →
      (ty : Ty) → type_in nets n ≡ Some ty → IsNetRail old nets leaves n ty r
  of_slice a high low s whole r at is there fits means ty type =
      by_form old nets leaves n (net.Slice a high low) at (Bv (high - low + 1)) ty (slice_fits nets n ty type a high low s at is).gives r fits
      (λ reading reads w on said. means reading ∙ ap (λ k. slice_of k high low) ((all.each a.0 s whole is there).says reading reads w on said))

-- forms whose rail is of a table that grew from the one in which the operands have theirs
module _ (old new : Table) (grows : Extends old new) (nets : NetTable) (leaves rails : List Rail) (all : AreNetRails old nets leaves rails) (n : ℕ) where
  pub of_un : (op : Op1) (a : NetId) (s : Ty) (only r : Rail) → net_in nets n ≡ Some (net.Un op a) → type_in nets a.0 ≡ Some s → slice_get rails a.0 ≡ Some only →
      IsRail new s r → CarriesKnow new s r (λ reading. apply1_of op (know_in reading s only)) →
      (ty : Ty) → type_in nets n ≡ Some ty → IsNetRail new nets leaves n ty r
  of_un op a s only r at is there fits means ty type = by_form new nets leaves n (net.Un op a) at s ty (un_fits nets n ty type op a s at is).gives r fits
      (λ reading reads w on said. means reading reads ∙ ap (apply1_of op) ((all.each a.0 s only is there).says reading (grows.reads reading reads) w on said))

  pub of_bin : (op : Op2) (a b : NetId) (s : Ty) (left right r : Rail) → net_in nets n ≡ Some (net.Bin op a b) → type_in nets a.0 ≡ Some s →
      slice_get rails a.0 ≡ Some left → slice_get rails b.0 ≡ Some right →
      IsRail new (gives2 op s) r → CarriesKnow new (gives2 op s) r (λ reading. apply2_of op (know_in reading s left) (know_in reading s right)) →
      (ty : Ty) → type_in nets n ≡ Some ty → IsNetRail new nets leaves n ty r
  of_bin op a b s left right r at is first second fits means ty type =
      let all_fit = bin_fits nets n ty type op a b s at is in
      by_form new nets leaves n (net.Bin op a b) at (gives2 op s) ty all_fit.gives r fits
      (λ reading reads w on said. means reading reads ∙ ap₂ (apply2_of op)
      ((all.each a.0 s left is first).says reading (grows.reads reading reads) w on said)
      ((all.each b.0 s right all_fit.other second).says reading (grows.reads reading reads) w on said))

  pub of_choose : (c a b : NetId) (s : Ty) (condition left right r : Rail) → net_in nets n ≡ Some (net.Choose c a b) → type_in nets a.0 ≡ Some s →
      slice_get rails c.0 ≡ Some condition → slice_get rails a.0 ≡ Some left → slice_get rails b.0 ≡ Some right →
      IsRail new s r → CarriesKnow new s r (λ reading. choose_of (know_in reading Truth condition) (know_in reading s left) (know_in reading s right)) →
      (ty : Ty) → type_in nets n ≡ Some ty → IsNetRail new nets leaves n ty r
  of_choose c a b s condition left right r at is test first second fits means ty type =
      let all_fit = choose_fits nets n ty type c a b s at is in
      by_form new nets leaves n (net.Choose c a b) at s ty all_fit.gives r fits
      (λ reading reads w on said.
      let before = grows.reads reading reads in
      let k = (all.each c.0 Truth condition all_fit.condition test).says reading before w on said in
      let x = (all.each a.0 s left is first).says reading before w on said in
      let y = (all.each b.0 s right all_fit.other second).says reading before w on said in
      means reading reads ∙ ap (λ v. choose_of v (know_in reading s left) (know_in reading s right)) k ∙ ap₂ (choose_of (w.know c.0)) x y)

  pub of_concat : (a b : NetId) (s t : Ty) (upper lower r : Rail) → net_in nets n ≡ Some (net.Concat a b) → type_in nets a.0 ≡ Some s → type_in nets b.0 ≡ Some t →
      slice_get rails a.0 ≡ Some upper → slice_get rails b.0 ≡ Some lower →
      IsRail new (Bv (width_of s + width_of t)) r →
      CarriesKnow new (Bv (width_of s + width_of t)) r (λ reading. concat_of (know_in reading s upper) (know_in reading t lower)) →
      (ty : Ty) → type_in nets n ≡ Some ty → IsNetRail new nets leaves n ty r
  of_concat a b s t upper lower r at is other first second fits means ty type =
      by_form new nets leaves n (net.Concat a b) at (Bv (width_of s + width_of t)) ty (concat_fits nets n ty type a b s t at is other) r fits
      (λ reading reads w on said. means reading reads ∙ ap₂ concat_of
      ((all.each a.0 s upper is first).says reading (grows.reads reading reads) w on said)
      ((all.each b.0 t lower other second).says reading (grows.reads reading reads) w on said))
