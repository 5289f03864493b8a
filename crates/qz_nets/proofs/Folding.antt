-- Where a net of bools may be folded: what is known stays the same, where nothing is known and where writers contradict too.
use Rattle.std.proofs.Common.{◌≡◌, ℕ, Bool, true, false, cond, Some, None, Result, Ok, Err, IfOk, slice_get, take, refl, sym, ap, ◌∙◌}
use Rattle.qz_values.specs.declared.Ty.{Ty}
use Rattle.qz_values.specs.declared.Ty.TheVariants.{Bool as Truth}
use Rattle.qz_values.specs.declared.Know.{Know}
use Rattle.qz_values.specs.declared.Op1.TheVariants.{Not}
use Rattle.qz_values.specs.Values.{yes, no}
use Rattle.qz_values.specs.Knowledge.{both, either, opposite}
use Rattle.qz_values.specs.Tables.{takes1, type1_of}
use Rattle.qz_values.specs.Fits.{HasType}
use Rattle.qz_values.proofs.Connectives.{BoolKnow, bool_know, both-yes_left, both-yes_right, either-no_left, either-no_right, opposite-opposite}
use Rattle.qz_nets.specs.declared.net.Net.{Net}
use Rattle.qz_nets.specs.declared.net.Net.TheVariants as net
use Rattle.qz_nets.specs.declared.net.NetId.{NetId}
use Rattle.qz_nets.specs.declared.table.NetTable.{NetTable}
use Rattle.qz_nets.specs.Nets.{net_know}
use Rattle.qz_nets.specs.Tables.{type_at}
use Rattle.qz_nets.specs.Readings.{net_in, type_in, Reading, Reads, Carries}
use Rattle.qz_values.proofs.Given.{given1}
use Rattle.qz_nets.proofs.Growing.{entry_of_net, type_take}
use Rattle.qz_nets.proofs.Solving.{reading_typed, type_there}

both-same-of : {k : Know} → BoolKnow k → both k k ≡ k
both-same-of BoolKnow.unknown = refl
both-same-of BoolKnow.known_yes = refl
both-same-of BoolKnow.known_no = refl
both-same-of BoolKnow.clash = refl

either-same-of : {k : Know} → BoolKnow k → either k k ≡ k
either-same-of BoolKnow.unknown = refl
either-same-of BoolKnow.known_yes = refl
either-same-of BoolKnow.known_no = refl
either-same-of BoolKnow.clash = refl

-- an added net is known by its operands
pub added : {E : Type 0} (table : NetTable) (n : Net) (r : Result NetId E) → IfOk r (λ id. net_in table id.0 ≡ Some n) →
    IfOk r (λ id. Carries table id.0 (λ v. net_know v.leaf v.know n))
added table n (Ok id) h = λ v reads. reads.nets id.0 n h
added table n (Err e) h = tt

module _ (table : NetTable) where
  -- the operand of a net `!` is a bool
  bool_operand : (s u : Ty) → type1_of Not s ≡ Some u → u ≡ s
  bool_operand s u h = by (takes1 Not s) h
    where
      by : (b : Bool) → cond b (Some s) None ≡ Some u → u ≡ s
      by true h = cc
      by false h = absurd (cc)

  pub inner_type : (a : ℕ) (inner : NetId) → type_in table a ≡ Some Truth → net_in table a ≡ Some (net.Un Not inner) → type_in table inner.0 ≡ Some Truth
  inner_type a inner type there =
      let e = entry_of_net (slice_get table.nets.entries a) (net.Un Not inner) there in
      let of : Some e.0 ≡ Some Truth = sym (type_there table.nets.entries a (net.Un Not inner) e.0 e.1) ∙ type in
      let same : e.0 ≡ Truth = cc in
      let p = given1 (type1_of Not) (type_at (take a table.nets.entries) inner.0) e.0 (table.sound.typed a (net.Un Not inner) e.0 e.1) in
      let s : p.s ≡ Truth = sym (bool_operand p.s e.0 p.gives) ∙ same in
      (type_take table.nets.entries a inner.0 p.s p.first).1 ∙ ap Some s

  module _ (v : Reading) (reads : Reads v table) where
    is_bool : (n : ℕ) → type_in table n ≡ Some Truth → HasType Truth (v.know n)
    is_bool n type = reading_typed table.nets.entries table.sound v.leaf v.know reads.leaves reads.nets n Truth type

    pub and_same : (a b : ℕ) → a ≡ b → type_in table a ≡ Some Truth → v.know a ≡ both (v.know a) (v.know b)
    and_same a b is type = rw (← is) (sym (both-same-of (bool_know (v.know a) (is_bool a type))))

    pub and_right : (a b : ℕ) → type_in table a ≡ Some Truth → net_in table b ≡ Some (net.Const yes) → v.know a ≡ both (v.know a) (v.know b)
    and_right a b type constant = rw (reads.nets b (net.Const yes) constant) (sym (both-yes_right (v.know a) (is_bool a type)))

    pub and_left : (a b : ℕ) → type_in table b ≡ Some Truth → net_in table a ≡ Some (net.Const yes) → v.know b ≡ both (v.know a) (v.know b)
    and_left a b type constant = rw (reads.nets a (net.Const yes) constant) (sym (both-yes_left (v.know b) (is_bool b type)))

    pub or_same : (a b : ℕ) → a ≡ b → type_in table a ≡ Some Truth → v.know a ≡ either (v.know a) (v.know b)
    or_same a b is type = rw (← is) (sym (either-same-of (bool_know (v.know a) (is_bool a type))))

    pub or_right : (a b : ℕ) → type_in table a ≡ Some Truth → net_in table b ≡ Some (net.Const no) → v.know a ≡ either (v.know a) (v.know b)
    or_right a b type constant = rw (reads.nets b (net.Const no) constant) (sym (either-no_right (v.know a) (is_bool a type)))

    pub or_left : (a b : ℕ) → type_in table b ≡ Some Truth → net_in table a ≡ Some (net.Const no) → v.know b ≡ either (v.know a) (v.know b)
    or_left a b type constant = rw (reads.nets a (net.Const no) constant) (sym (either-no_left (v.know b) (is_bool b type)))

    pub not_inner : (a : ℕ) (inner : NetId) → type_in table inner.0 ≡ Some Truth → net_in table a ≡ Some (net.Un Not inner) → v.know inner.0 ≡ opposite (v.know a)
    not_inner a inner type there = rw (reads.nets a (net.Un Not inner) there) (sym (opposite-opposite (v.know inner.0) (is_bool inner.0 type)))
