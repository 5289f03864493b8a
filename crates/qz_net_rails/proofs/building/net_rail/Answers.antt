-- By form: operands stand before the net, their rails fit, and the net's rail is what the form gives.
use Rattle.std.proofs.Common.{rules, ℕ, ◌≡◌, ◌∙◌, ◌<◌, ◌≤◌, ◌*◌, length, Some, IsTrue, ap, sym, subst, arith}
use Rattle.std.proofs.lemmas.Option.{slice_get_within}
use Rattle.qz_values.specs.declared.Ty.TheVariants.{Bool as Truth}
use Rattle.qz_nets.specs.declared.net.Net.{Net}
use Rattle.qz_net_rails.proofs.Operands.{type_there, un_before, bin_before, choose_before, bit_before, slice_before, concat_before, const_fits, un_fits, bin_fits, choose_fits, bit_fits, slice_fits}
use Rattle.qz_net_rails.proofs.Growing.{there}
use Rattle.qz_net_rails.proofs.Forms.{of_const, of_leaf, of_un, of_bin, of_choose, of_bit, of_slice, of_concat}
use Rattle.qz_net_rails.proofs.building.net_rail.Goals as goal

pub bounds-leaves-number : goal.bounds-leaves-number
bounds-leaves-number c =
    let one = c.requires.leaves.each c.args.id.0 c.in-Leaf.number c.in-Leaf.field-1 (c.get.ensures ∙ ap (λ (m : Net). Some m) c.in-Leaf.is) in
    slice_get_within c.args.leaves.now c.in-Leaf.number one.rail one.is

pub operand_of-only-requires-clause-there : goal.operand_of-only-requires-clause-there
operand_of-only-requires-clause-there c =
    let t = type_there c.args.nets.now c.args.id.0 c.requires.below in
    omega (arith, c.requires.next, (un_before c.args.nets.now c.args.id.0 t.0 t.1 c.in-Un.op c.in-Un.a (c.get.ensures ∙ ap (λ (m : Net). Some m) c.in-Un.is)))

pub apply1-requires-clause-takes : goal.apply1-requires-clause-takes
apply1-requires-clause-takes c =
    let t = type_there c.args.nets.now c.args.id.0 c.requires.below in
    (un_fits c.args.nets.now c.args.id.0 t.0 t.1 c.in-Un.op c.in-Un.a c.operand_of-only.result.ty (c.get.ensures ∙ ap (λ (m : Net). Some m) c.in-Un.is) c.operand_of-only.ensures.ty).takes

pub operand_of-left-requires-clause-there : goal.operand_of-left-requires-clause-there
operand_of-left-requires-clause-there c =
    let t = type_there c.args.nets.now c.args.id.0 c.requires.below in
    omega (arith, c.requires.next, (bin_before c.args.nets.now c.args.id.0 t.0 t.1 c.in-Bin.op c.in-Bin.a c.in-Bin.b (c.get.ensures ∙ ap (λ (m : Net). Some m) c.in-Bin.is)).0)

pub operand_of-right-requires-clause-there : goal.operand_of-right-requires-clause-there
operand_of-right-requires-clause-there c =
    let t = type_there c.args.nets.now c.args.id.0 c.requires.below in
    omega (arith, c.requires.next, (bin_before c.args.nets.now c.args.id.0 t.0 t.1 c.in-Bin.op c.in-Bin.a c.in-Bin.b (c.get.ensures ∙ ap (λ (m : Net). Some m) c.in-Bin.is)).1)

pub apply2-requires-clause-takes : goal.apply2-requires-clause-takes
apply2-requires-clause-takes c =
    let t = type_there c.args.nets.now c.args.id.0 c.requires.below in
    (bin_fits c.args.nets.now c.args.id.0 t.0 t.1 c.in-Bin.op c.in-Bin.a c.in-Bin.b c.operand_of-left.result.ty (c.get.ensures ∙ ap (λ (m : Net). Some m) c.in-Bin.is) c.operand_of-left.ensures.ty).takes

pub apply2-requires-clause-ty : goal.apply2-requires-clause-ty
apply2-requires-clause-ty c =
    let t = type_there c.args.nets.now c.args.id.0 c.requires.below in
    (bin_fits c.args.nets.now c.args.id.0 t.0 t.1 c.in-Bin.op c.in-Bin.a c.in-Bin.b c.operand_of-left.result.ty (c.get.ensures ∙ ap (λ (m : Net). Some m) c.in-Bin.is) c.operand_of-left.ensures.ty).typed

pub apply2-requires-clause-b : goal.apply2-requires-clause-b
apply2-requires-clause-b c =
    let t = type_there c.args.nets.now c.args.id.0 c.requires.below in
    (c.requires.rails.each c.in-Bin.b.0 c.operand_of-left.result.ty c.operand_of-right.result.rail.now (bin_fits c.args.nets.now c.args.id.0 t.0 t.1 c.in-Bin.op c.in-Bin.a c.in-Bin.b c.operand_of-left.result.ty (c.get.ensures ∙ ap (λ (m : Net). Some m) c.in-Bin.is) c.operand_of-left.ensures.ty).other c.operand_of-right.ensures.rail).fits

pub operand_of-condition-requires-clause-there : goal.operand_of-condition-requires-clause-there
operand_of-condition-requires-clause-there c =
    let t = type_there c.args.nets.now c.args.id.0 c.requires.below in
    omega (arith, c.requires.next, (choose_before c.args.nets.now c.args.id.0 t.0 t.1 c.in-Choose.c c.in-Choose.a c.in-Choose.b (c.get.ensures ∙ ap (λ (m : Net). Some m) c.in-Choose.is)).0)

pub operand_of-first-requires-clause-there : goal.operand_of-first-requires-clause-there
operand_of-first-requires-clause-there c =
    let t = type_there c.args.nets.now c.args.id.0 c.requires.below in
    omega (arith, c.requires.next, (choose_before c.args.nets.now c.args.id.0 t.0 t.1 c.in-Choose.c c.in-Choose.a c.in-Choose.b (c.get.ensures ∙ ap (λ (m : Net). Some m) c.in-Choose.is)).1)

pub operand_of-second-requires-clause-there : goal.operand_of-second-requires-clause-there
operand_of-second-requires-clause-there c =
    let t = type_there c.args.nets.now c.args.id.0 c.requires.below in
    omega (arith, c.requires.next, (choose_before c.args.nets.now c.args.id.0 t.0 t.1 c.in-Choose.c c.in-Choose.a c.in-Choose.b (c.get.ensures ∙ ap (λ (m : Net). Some m) c.in-Choose.is)).2)

pub choose-requires-clause-c : goal.choose-requires-clause-c
choose-requires-clause-c c =
    let t = type_there c.args.nets.now c.args.id.0 c.requires.below in
    (c.requires.rails.each c.in-Choose.c.0 Truth c.operand_of-condition.result.rail.now (choose_fits c.args.nets.now c.args.id.0 t.0 t.1 c.in-Choose.c c.in-Choose.a c.in-Choose.b c.operand_of-first.result.ty (c.get.ensures ∙ ap (λ (m : Net). Some m) c.in-Choose.is) c.operand_of-first.ensures.ty).condition c.operand_of-condition.ensures.rail).fits

pub choose-requires-clause-b : goal.choose-requires-clause-b
choose-requires-clause-b c =
    let t = type_there c.args.nets.now c.args.id.0 c.requires.below in
    (c.requires.rails.each c.in-Choose.b.0 c.operand_of-first.result.ty c.operand_of-second.result.rail.now (choose_fits c.args.nets.now c.args.id.0 t.0 t.1 c.in-Choose.c c.in-Choose.a c.in-Choose.b c.operand_of-first.result.ty (c.get.ensures ∙ ap (λ (m : Net). Some m) c.in-Choose.is) c.operand_of-first.ensures.ty).other c.operand_of-second.ensures.rail).fits

pub operand_of-whole-requires-clause-there : goal.operand_of-whole-requires-clause-there
operand_of-whole-requires-clause-there c =
    let t = type_there c.args.nets.now c.args.id.0 c.requires.below in
    omega (arith, c.requires.next, (bit_before c.args.nets.now c.args.id.0 t.0 t.1 c.in-Bit.a c.in-Bit.index (c.get.ensures ∙ ap (λ (m : Net). Some m) c.in-Bit.is)))

pub bit-requires-clause-within : goal.bit-requires-clause-within
bit-requires-clause-within c =
    let t = type_there c.args.nets.now c.args.id.0 c.requires.below in
    (bit_fits c.args.nets.now c.args.id.0 t.0 t.1 c.in-Bit.a c.in-Bit.index c.operand_of-whole.result.ty (c.get.ensures ∙ ap (λ (m : Net). Some m) c.in-Bit.is) c.operand_of-whole.ensures.ty).within

pub operand_of-whole-requires-in-Slice-clause-there : goal.operand_of-whole-requires-in-Slice-clause-there
operand_of-whole-requires-in-Slice-clause-there c =
    let t = type_there c.args.nets.now c.args.id.0 c.requires.below in
    omega (arith, c.requires.next, (slice_before c.args.nets.now c.args.id.0 t.0 t.1 c.in-Slice.a c.in-Slice.high c.in-Slice.low (c.get.ensures ∙ ap (λ (m : Net). Some m) c.in-Slice.is)))

pub slice-requires-clause-within : goal.slice-requires-clause-within
slice-requires-clause-within c =
    let t = type_there c.args.nets.now c.args.id.0 c.requires.below in
    (slice_fits c.args.nets.now c.args.id.0 t.0 t.1 c.in-Slice.a c.in-Slice.high c.in-Slice.low c.operand_of-whole-in-Slice.result.ty (c.get.ensures ∙ ap (λ (m : Net). Some m) c.in-Slice.is) c.operand_of-whole-in-Slice.ensures.ty).within

pub slice-requires-clause-some : goal.slice-requires-clause-some
slice-requires-clause-some c =
    let t = type_there c.args.nets.now c.args.id.0 c.requires.below in
    (slice_fits c.args.nets.now c.args.id.0 t.0 t.1 c.in-Slice.a c.in-Slice.high c.in-Slice.low c.operand_of-whole-in-Slice.result.ty (c.get.ensures ∙ ap (λ (m : Net). Some m) c.in-Slice.is) c.operand_of-whole-in-Slice.ensures.ty).some

pub operand_of-upper-requires-clause-there : goal.operand_of-upper-requires-clause-there
operand_of-upper-requires-clause-there c =
    let t = type_there c.args.nets.now c.args.id.0 c.requires.below in
    omega (arith, c.requires.next, (concat_before c.args.nets.now c.args.id.0 t.0 t.1 c.in-Concat.a c.in-Concat.b (c.get.ensures ∙ ap (λ (m : Net). Some m) c.in-Concat.is)).0)

pub operand_of-lower-requires-clause-there : goal.operand_of-lower-requires-clause-there
operand_of-lower-requires-clause-there c =
    let t = type_there c.args.nets.now c.args.id.0 c.requires.below in
    omega (arith, c.requires.next, (concat_before c.args.nets.now c.args.id.0 t.0 t.1 c.in-Concat.a c.in-Concat.b (c.get.ensures ∙ ap (λ (m : Net). Some m) c.in-Concat.is)).1)

pub returns-in_ok-r-in-Const-clause-rail : goal.returns-in_ok-r-in-Const-clause-rail
returns-in_ok-r-in-Const-clause-rail c =
    of_const c.args.diagrams.now c.args.nets.now c.args.leaves.now c.args.rails.now c.requires.rails c.args.id.0 c.in-Const.value (c.get.ensures ∙ ap (λ (m : Net). Some m) c.in-Const.is) c.in_ok-r-in-Const.r c.in_ok-r-in-Const.ensures.rail c.in_ok-r-in-Const.ensures.means

pub returns-in_ok-r-in-Leaf-clause-rail : goal.returns-in_ok-r-in-Leaf-clause-rail
returns-in_ok-r-in-Leaf-clause-rail c =
    let one = c.requires.leaves.each c.args.id.0 c.in-Leaf.number c.in-Leaf.field-1 (c.get.ensures ∙ ap (λ (m : Net). Some m) c.in-Leaf.is) in
    of_leaf c.args.diagrams.now c.args.nets.now c.args.leaves.now c.args.rails.now c.requires.rails c.args.id.0 c.requires.leaves c.in-Leaf.number c.in-Leaf.field-1 (c.get.ensures ∙ ap (λ (m : Net). Some m) c.in-Leaf.is) c.index-leaves-number.result c.in_ok-r-in-Leaf.r
    (there c.args.leaves.now c.in-Leaf.number c.index-leaves-number.result (slice_get_within c.args.leaves.now c.in-Leaf.number one.rail one.is) c.index-leaves-number.is)
    c.in_ok-r-in-Leaf.ensures.clash c.in_ok-r-in-Leaf.ensures.known c.in_ok-r-in-Leaf.ensures.bits

pub returns-in_ok-r-in-Un-clause-rail : goal.returns-in_ok-r-in-Un-clause-rail
returns-in_ok-r-in-Un-clause-rail c =
    of_un c.args.diagrams.now c.apply1.new.diagrams c.in_ok-r-in-Un.ensures.extends c.args.nets.now c.args.leaves.now c.args.rails.now c.requires.rails c.args.id.0 c.in-Un.op c.in-Un.a c.operand_of-only.result.ty c.operand_of-only.result.rail.now c.in_ok-r-in-Un.r (c.get.ensures ∙ ap (λ (m : Net). Some m) c.in-Un.is) c.operand_of-only.ensures.ty c.operand_of-only.ensures.rail
    c.in_ok-r-in-Un.ensures.rail c.in_ok-r-in-Un.ensures.means

pub returns-in_ok-r-in-Bin-clause-rail : goal.returns-in_ok-r-in-Bin-clause-rail
returns-in_ok-r-in-Bin-clause-rail c =
    of_bin c.args.diagrams.now c.apply2.new.diagrams c.in_ok-r-in-Bin.ensures.extends c.args.nets.now c.args.leaves.now c.args.rails.now c.requires.rails c.args.id.0 c.in-Bin.op c.in-Bin.a c.in-Bin.b c.operand_of-left.result.ty c.operand_of-left.result.rail.now c.operand_of-right.result.rail.now c.in_ok-r-in-Bin.r
    (c.get.ensures ∙ ap (λ (m : Net). Some m) c.in-Bin.is) c.operand_of-left.ensures.ty c.operand_of-left.ensures.rail c.operand_of-right.ensures.rail
    c.in_ok-r-in-Bin.ensures.rail c.in_ok-r-in-Bin.ensures.means

pub returns-in_ok-r-in-Choose-clause-rail : goal.returns-in_ok-r-in-Choose-clause-rail
returns-in_ok-r-in-Choose-clause-rail c =
    of_choose c.args.diagrams.now c.choose.new.diagrams c.in_ok-r-in-Choose.ensures.extends c.args.nets.now c.args.leaves.now c.args.rails.now c.requires.rails c.args.id.0 c.in-Choose.c c.in-Choose.a c.in-Choose.b c.operand_of-first.result.ty
    c.operand_of-condition.result.rail.now c.operand_of-first.result.rail.now c.operand_of-second.result.rail.now c.in_ok-r-in-Choose.r
    (c.get.ensures ∙ ap (λ (m : Net). Some m) c.in-Choose.is) c.operand_of-first.ensures.ty c.operand_of-condition.ensures.rail c.operand_of-first.ensures.rail c.operand_of-second.ensures.rail
    c.in_ok-r-in-Choose.ensures.rail c.in_ok-r-in-Choose.ensures.means

pub returns-in_ok-r-in-Bit-clause-rail : goal.returns-in_ok-r-in-Bit-clause-rail
returns-in_ok-r-in-Bit-clause-rail c =
    of_bit c.args.diagrams.now c.args.nets.now c.args.leaves.now c.args.rails.now c.requires.rails c.args.id.0 c.in-Bit.a c.in-Bit.index c.operand_of-whole.result.ty c.operand_of-whole.result.rail.now c.in_ok-r-in-Bit.r
    (c.get.ensures ∙ ap (λ (m : Net). Some m) c.in-Bit.is) c.operand_of-whole.ensures.ty c.operand_of-whole.ensures.rail c.in_ok-r-in-Bit.ensures.rail c.in_ok-r-in-Bit.ensures.means

pub returns-in_ok-r-in-Slice-clause-rail : goal.returns-in_ok-r-in-Slice-clause-rail
returns-in_ok-r-in-Slice-clause-rail c =
    of_slice c.args.diagrams.now c.args.nets.now c.args.leaves.now c.args.rails.now c.requires.rails c.args.id.0 c.in-Slice.a c.in-Slice.high c.in-Slice.low c.operand_of-whole-in-Slice.result.ty c.operand_of-whole-in-Slice.result.rail.now c.in_ok-r-in-Slice.r
    (c.get.ensures ∙ ap (λ (m : Net). Some m) c.in-Slice.is) c.operand_of-whole-in-Slice.ensures.ty c.operand_of-whole-in-Slice.ensures.rail c.in_ok-r-in-Slice.ensures.rail c.in_ok-r-in-Slice.ensures.means

pub returns-in_ok-r-in-Concat-clause-rail : goal.returns-in_ok-r-in-Concat-clause-rail
returns-in_ok-r-in-Concat-clause-rail c =
    of_concat c.args.diagrams.now c.concat.new.diagrams c.in_ok-r-in-Concat.ensures.extends c.args.nets.now c.args.leaves.now c.args.rails.now c.requires.rails c.args.id.0 c.in-Concat.a c.in-Concat.b c.operand_of-upper.result.ty c.operand_of-lower.result.ty c.operand_of-upper.result.rail.now c.operand_of-lower.result.rail.now c.in_ok-r-in-Concat.r
    (c.get.ensures ∙ ap (λ (m : Net). Some m) c.in-Concat.is) c.operand_of-upper.ensures.ty c.operand_of-lower.ensures.ty c.operand_of-upper.ensures.rail c.operand_of-lower.ensures.rail
    c.in_ok-r-in-Concat.ensures.rail c.in_ok-r-in-Concat.ensures.means

pub offset_bounds-leaves-number : goal.offset_bounds-leaves-number
offset_bounds-leaves-number c =
    let one = c.requires.leaves.each c.args.id.0 c.in-Leaf.number c.in-Leaf.field-1 (c.get.ensures ∙ ap (λ (m : Net). Some m) c.in-Leaf.is) in
    let below : c.in-Leaf.number < length c.args.leaves.now = slice_get_within c.args.leaves.now c.in-Leaf.number one.rail one.is in
    search rules
