-- By form: operands stand before the net, their rails fit, and the net's rail is what the form gives.
use Rattle.std.proofs.Common.{◌≡◌, ◌∙◌, Some, ap, sym, subst, arith}
use Rattle.std.proofs.lemmas.Option.{slice_get_within, same_Some}
use Rattle.qz_nets.specs.declared.net.Net.{Net}
use Rattle.qz_nets.specs.declared.net.Net.TheVariants as net
use Rattle.qz_wires.specs.WireTable.{types_in}
use Rattle.qz_nets.specs.Readings.{type_in}
use Rattle.qz_wires.specs.Rails.{IsRail, Shows}
use Rattle.qz_wires.proofs.NetTypes.{reading_typed}
use Rattle.qz_wires.proofs.Operands.{operands_before, operands_fit, leaf_fits}
use Rattle.qz_wires.proofs.Forms.{un_fits, bin_fits, choose_fits, bit_fits, slice_fits, concat_fits}
use Rattle.qz_wires.proofs.nets.net_rail.Goals as goal

pub rail_of-requires : goal.rail_of-requires
rail_of-requires c =
    let one = c.requires.leaves.each c.args.id.0 c.in-Leaf.number c.in-Leaf.field-1 (c.get.ensures ∙ ap (λ (m : Net). Some m) c.in-Leaf.is) in
    slice_get_within c.args.leaves.now c.in-Leaf.number one.rail one.is

pub rail_of-only-requires : goal.rail_of-only-requires
rail_of-only-requires c =
    let below = operands_before c.args.nets.now c.args.id.0 (net.Un c.in-Un.op c.in-Un.a) c.ty-given.result (c.get.ensures ∙ ap (λ (m : Net). Some m) c.in-Un.is) c.ty-given.ensures in omega (arith, c.requires.next, below)

pub rail_of-left-requires : goal.rail_of-left-requires
rail_of-left-requires c =
    let below = operands_before c.args.nets.now c.args.id.0 (net.Bin c.in-Bin.op c.in-Bin.a c.in-Bin.b) c.ty-given.result (c.get.ensures ∙ ap (λ (m : Net). Some m) c.in-Bin.is) c.ty-given.ensures in omega (arith, c.requires.next, below.0)

pub rail_of-right-requires : goal.rail_of-right-requires
rail_of-right-requires c =
    let below = operands_before c.args.nets.now c.args.id.0 (net.Bin c.in-Bin.op c.in-Bin.a c.in-Bin.b) c.ty-given.result (c.get.ensures ∙ ap (λ (m : Net). Some m) c.in-Bin.is) c.ty-given.ensures in omega (arith, c.requires.next, below.1)

pub rail_of-condition-requires : goal.rail_of-condition-requires
rail_of-condition-requires c =
    let below = operands_before c.args.nets.now c.args.id.0 (net.Choose c.in-Choose.c c.in-Choose.a c.in-Choose.b) c.ty-given.result (c.get.ensures ∙ ap (λ (m : Net). Some m) c.in-Choose.is) c.ty-given.ensures in omega (arith, c.requires.next, below.0)

pub rail_of-first-requires : goal.rail_of-first-requires
rail_of-first-requires c =
    let below = operands_before c.args.nets.now c.args.id.0 (net.Choose c.in-Choose.c c.in-Choose.a c.in-Choose.b) c.ty-given.result (c.get.ensures ∙ ap (λ (m : Net). Some m) c.in-Choose.is) c.ty-given.ensures in omega (arith, c.requires.next, below.1)

pub rail_of-second-requires : goal.rail_of-second-requires
rail_of-second-requires c =
    let below = operands_before c.args.nets.now c.args.id.0 (net.Choose c.in-Choose.c c.in-Choose.a c.in-Choose.b) c.ty-given.result (c.get.ensures ∙ ap (λ (m : Net). Some m) c.in-Choose.is) c.ty-given.ensures in omega (arith, c.requires.next, below.2)

pub rail_of-whole-requires : goal.rail_of-whole-requires
rail_of-whole-requires c =
    let below = operands_before c.args.nets.now c.args.id.0 (net.Bit c.in-Bit.a c.in-Bit.index) c.ty-given.result (c.get.ensures ∙ ap (λ (m : Net). Some m) c.in-Bit.is) c.ty-given.ensures in omega (arith, c.requires.next, below)

pub rail_of-whole-requires-in-Slice : goal.rail_of-whole-requires-in-Slice
rail_of-whole-requires-in-Slice c =
    let below = operands_before c.args.nets.now c.args.id.0 (net.Slice c.in-Slice.a c.in-Slice.high c.in-Slice.low) c.ty-given.result (c.get.ensures ∙ ap (λ (m : Net). Some m) c.in-Slice.is) c.ty-given.ensures in omega (arith, c.requires.next, below)

pub rail_of-upper-requires : goal.rail_of-upper-requires
rail_of-upper-requires c =
    let below = operands_before c.args.nets.now c.args.id.0 (net.Concat c.in-Concat.a c.in-Concat.b) c.ty-given.result (c.get.ensures ∙ ap (λ (m : Net). Some m) c.in-Concat.is) c.ty-given.ensures in omega (arith, c.requires.next, below.0)

pub rail_of-lower-requires : goal.rail_of-lower-requires
rail_of-lower-requires c =
    let below = operands_before c.args.nets.now c.args.id.0 (net.Concat c.in-Concat.a c.in-Concat.b) c.ty-given.result (c.get.ensures ∙ ap (λ (m : Net). Some m) c.in-Concat.is) c.ty-given.ensures in omega (arith, c.requires.next, below.1)

pub ty-ty-requires : goal.ty-ty-requires
ty-ty-requires c =
    let below = operands_before c.args.nets.now c.args.id.0 (net.Bin c.in-Bin.op c.in-Bin.a c.in-Bin.b) c.ty-given.result (c.get.ensures ∙ ap (λ (m : Net). Some m) c.in-Bin.is) c.ty-given.ensures in omega (arith, c.requires.next, c.requires.below, below.0)

pub apply1-requires-clause-takes : goal.apply1-requires-clause-takes
apply1-requires-clause-takes c = (un_fits (types_in c.args.wires.now) c.args.nets.now c.args.rails.now c.requires.rails c.ty-given.result c.in-Un.op c.in-Un.a c.rail_of-only.result (operands_fit c.args.nets.now c.args.id.0 (net.Un c.in-Un.op c.in-Un.a) c.ty-given.result (c.get.ensures ∙ ap (λ (m : Net). Some m) c.in-Un.is) c.ty-given.ensures) c.rail_of-only.ensures).0

pub apply1-requires-clause-a : goal.apply1-requires-clause-a
apply1-requires-clause-a c = (un_fits (types_in c.args.wires.now) c.args.nets.now c.args.rails.now c.requires.rails c.ty-given.result c.in-Un.op c.in-Un.a c.rail_of-only.result (operands_fit c.args.nets.now c.args.id.0 (net.Un c.in-Un.op c.in-Un.a) c.ty-given.result (c.get.ensures ∙ ap (λ (m : Net). Some m) c.in-Un.is) c.ty-given.ensures) c.rail_of-only.ensures).2

pub apply2-requires-clause-takes : goal.apply2-requires-clause-takes
apply2-requires-clause-takes c = (bin_fits (types_in c.args.wires.now) c.args.nets.now c.args.rails.now c.requires.rails c.ty-given.result c.in-Bin.op c.in-Bin.a c.in-Bin.b c.ty-ty.result c.rail_of-left.result c.rail_of-right.result (operands_fit c.args.nets.now c.args.id.0 (net.Bin c.in-Bin.op c.in-Bin.a c.in-Bin.b) c.ty-given.result (c.get.ensures ∙ ap (λ (m : Net). Some m) c.in-Bin.is) c.ty-given.ensures) c.ty-ty.ensures c.rail_of-left.ensures c.rail_of-right.ensures).0

pub apply2-requires-clause-a : goal.apply2-requires-clause-a
apply2-requires-clause-a c = (bin_fits (types_in c.args.wires.now) c.args.nets.now c.args.rails.now c.requires.rails c.ty-given.result c.in-Bin.op c.in-Bin.a c.in-Bin.b c.ty-ty.result c.rail_of-left.result c.rail_of-right.result (operands_fit c.args.nets.now c.args.id.0 (net.Bin c.in-Bin.op c.in-Bin.a c.in-Bin.b) c.ty-given.result (c.get.ensures ∙ ap (λ (m : Net). Some m) c.in-Bin.is) c.ty-given.ensures) c.ty-ty.ensures c.rail_of-left.ensures c.rail_of-right.ensures).2

pub apply2-requires-clause-b : goal.apply2-requires-clause-b
apply2-requires-clause-b c = (bin_fits (types_in c.args.wires.now) c.args.nets.now c.args.rails.now c.requires.rails c.ty-given.result c.in-Bin.op c.in-Bin.a c.in-Bin.b c.ty-ty.result c.rail_of-left.result c.rail_of-right.result (operands_fit c.args.nets.now c.args.id.0 (net.Bin c.in-Bin.op c.in-Bin.a c.in-Bin.b) c.ty-given.result (c.get.ensures ∙ ap (λ (m : Net). Some m) c.in-Bin.is) c.ty-given.ensures) c.ty-ty.ensures c.rail_of-left.ensures c.rail_of-right.ensures).3

pub choose-requires-clause-c : goal.choose-requires-clause-c
choose-requires-clause-c c = (choose_fits (types_in c.args.wires.now) c.args.nets.now c.args.rails.now c.requires.rails c.ty-given.result c.in-Choose.c c.in-Choose.a c.in-Choose.b c.rail_of-condition.result c.rail_of-first.result c.rail_of-second.result (operands_fit c.args.nets.now c.args.id.0 (net.Choose c.in-Choose.c c.in-Choose.a c.in-Choose.b) c.ty-given.result (c.get.ensures ∙ ap (λ (m : Net). Some m) c.in-Choose.is) c.ty-given.ensures) c.rail_of-condition.ensures c.rail_of-first.ensures c.rail_of-second.ensures).0

pub choose-requires-clause-a : goal.choose-requires-clause-a
choose-requires-clause-a c = (choose_fits (types_in c.args.wires.now) c.args.nets.now c.args.rails.now c.requires.rails c.ty-given.result c.in-Choose.c c.in-Choose.a c.in-Choose.b c.rail_of-condition.result c.rail_of-first.result c.rail_of-second.result (operands_fit c.args.nets.now c.args.id.0 (net.Choose c.in-Choose.c c.in-Choose.a c.in-Choose.b) c.ty-given.result (c.get.ensures ∙ ap (λ (m : Net). Some m) c.in-Choose.is) c.ty-given.ensures) c.rail_of-condition.ensures c.rail_of-first.ensures c.rail_of-second.ensures).1

pub choose-requires-clause-b : goal.choose-requires-clause-b
choose-requires-clause-b c = (choose_fits (types_in c.args.wires.now) c.args.nets.now c.args.rails.now c.requires.rails c.ty-given.result c.in-Choose.c c.in-Choose.a c.in-Choose.b c.rail_of-condition.result c.rail_of-first.result c.rail_of-second.result (operands_fit c.args.nets.now c.args.id.0 (net.Choose c.in-Choose.c c.in-Choose.a c.in-Choose.b) c.ty-given.result (c.get.ensures ∙ ap (λ (m : Net). Some m) c.in-Choose.is) c.ty-given.ensures) c.rail_of-condition.ensures c.rail_of-first.ensures c.rail_of-second.ensures).2

pub bit-requires-clause-takes : goal.bit-requires-clause-takes
bit-requires-clause-takes c = (bit_fits (types_in c.args.wires.now) c.args.nets.now c.args.rails.now c.requires.rails c.ty-given.result c.in-Bit.a c.in-Bit.index c.rail_of-whole.result (operands_fit c.args.nets.now c.args.id.0 (net.Bit c.in-Bit.a c.in-Bit.index) c.ty-given.result (c.get.ensures ∙ ap (λ (m : Net). Some m) c.in-Bit.is) c.ty-given.ensures) c.rail_of-whole.ensures).0

pub bit-requires-clause-known : goal.bit-requires-clause-known
bit-requires-clause-known c = (bit_fits (types_in c.args.wires.now) c.args.nets.now c.args.rails.now c.requires.rails c.ty-given.result c.in-Bit.a c.in-Bit.index c.rail_of-whole.result (operands_fit c.args.nets.now c.args.id.0 (net.Bit c.in-Bit.a c.in-Bit.index) c.ty-given.result (c.get.ensures ∙ ap (λ (m : Net). Some m) c.in-Bit.is) c.ty-given.ensures) c.rail_of-whole.ensures).1

pub slice-requires-clause-takes : goal.slice-requires-clause-takes
slice-requires-clause-takes c = (slice_fits (types_in c.args.wires.now) c.args.nets.now c.args.rails.now c.requires.rails c.ty-given.result c.in-Slice.a c.in-Slice.high c.in-Slice.low c.rail_of-whole-in-Slice.result (operands_fit c.args.nets.now c.args.id.0 (net.Slice c.in-Slice.a c.in-Slice.high c.in-Slice.low) c.ty-given.result (c.get.ensures ∙ ap (λ (m : Net). Some m) c.in-Slice.is) c.ty-given.ensures) c.rail_of-whole-in-Slice.ensures).0

pub slice-requires-clause-known : goal.slice-requires-clause-known
slice-requires-clause-known c = (slice_fits (types_in c.args.wires.now) c.args.nets.now c.args.rails.now c.requires.rails c.ty-given.result c.in-Slice.a c.in-Slice.high c.in-Slice.low c.rail_of-whole-in-Slice.result (operands_fit c.args.nets.now c.args.id.0 (net.Slice c.in-Slice.a c.in-Slice.high c.in-Slice.low) c.ty-given.result (c.get.ensures ∙ ap (λ (m : Net). Some m) c.in-Slice.is) c.ty-given.ensures) c.rail_of-whole-in-Slice.ensures).1

pub concat-requires-clause-takes : goal.concat-requires-clause-takes
concat-requires-clause-takes c = (concat_fits (types_in c.args.wires.now) c.args.nets.now c.args.rails.now c.requires.rails c.ty-given.result c.in-Concat.a c.in-Concat.b c.rail_of-upper.result c.rail_of-lower.result (operands_fit c.args.nets.now c.args.id.0 (net.Concat c.in-Concat.a c.in-Concat.b) c.ty-given.result (c.get.ensures ∙ ap (λ (m : Net). Some m) c.in-Concat.is) c.ty-given.ensures) c.rail_of-upper.ensures c.rail_of-lower.ensures).0

pub concat-requires-clause-left : goal.concat-requires-clause-left
concat-requires-clause-left c = (concat_fits (types_in c.args.wires.now) c.args.nets.now c.args.rails.now c.requires.rails c.ty-given.result c.in-Concat.a c.in-Concat.b c.rail_of-upper.result c.rail_of-lower.result (operands_fit c.args.nets.now c.args.id.0 (net.Concat c.in-Concat.a c.in-Concat.b) c.ty-given.result (c.get.ensures ∙ ap (λ (m : Net). Some m) c.in-Concat.is) c.ty-given.ensures) c.rail_of-upper.ensures c.rail_of-lower.ensures).1

pub concat-requires-clause-right : goal.concat-requires-clause-right
concat-requires-clause-right c = (concat_fits (types_in c.args.wires.now) c.args.nets.now c.args.rails.now c.requires.rails c.ty-given.result c.in-Concat.a c.in-Concat.b c.rail_of-upper.result c.rail_of-lower.result (operands_fit c.args.nets.now c.args.id.0 (net.Concat c.in-Concat.a c.in-Concat.b) c.ty-given.result (c.get.ensures ∙ ap (λ (m : Net). Some m) c.in-Concat.is) c.ty-given.ensures) c.rail_of-upper.ensures c.rail_of-lower.ensures).2

pub returns-in-Leaf-clause-rail : goal.returns-in-Leaf-clause-rail
returns-in-Leaf-clause-rail c = λ t is.
    let there = c.get.ensures ∙ ap (λ (m : Net). Some m) c.in-Leaf.is in
    let one = c.requires.leaves.each c.args.id.0 c.in-Leaf.number c.in-Leaf.field-1 there in
    let same : one.rail ≡ c.rail_of.result = same_Some one.rail c.rail_of.result (sym one.is ∙ c.rail_of.ensures) in
    let ty = leaf_fits (type_in c.args.nets.now) c.in-Leaf.number c.in-Leaf.field-1 t
    (operands_fit c.args.nets.now c.args.id.0 (net.Leaf c.in-Leaf.number c.in-Leaf.field-1) t there is) in
    subst (λ s. IsRail (types_in c.args.wires.now) s c.rail_of.result) ty (subst (IsRail (types_in c.args.wires.now) c.in-Leaf.field-1) same one.fits)

pub returns-in_ok-r-in-Un-clause-means : goal.returns-in_ok-r-in-Un-clause-means
returns-in_ok-r-in-Un-clause-means c = λ settled reads v solves leaves rails.
    let there = c.get.ensures ∙ ap (λ (m : Net). Some m) c.in-Un.is in
    let fits = un_fits (types_in c.args.wires.now) c.args.nets.now c.args.rails.now c.requires.rails c.ty-given.result c.in-Un.op c.in-Un.a c.rail_of-only.result
    (operands_fit c.args.nets.now c.args.id.0 (net.Un c.in-Un.op c.in-Un.a) c.ty-given.result there c.ty-given.ensures) c.rail_of-only.ensures in
    let typed = reading_typed c.args.nets.now.nets.entries c.args.nets.now.sound v.leaf v.know solves.leaves solves.nets in
    subst (Shows settled c.in_ok-r-in-Un.r) (sym (solves.nets c.args.id.0 (net.Un c.in-Un.op c.in-Un.a) there))
    (c.in_ok-r-in-Un.ensures.means settled reads (v.know c.in-Un.a.0) (typed c.in-Un.a.0 c.ty-given.result fits.1)
    (rails c.in-Un.a.0 c.rail_of-only.result c.rail_of-only.ensures))

pub returns-in_ok-r-in-Bin-clause-means : goal.returns-in_ok-r-in-Bin-clause-means
returns-in_ok-r-in-Bin-clause-means c = λ settled reads v solves leaves rails.
    let there = c.get.ensures ∙ ap (λ (m : Net). Some m) c.in-Bin.is in
    let fits = bin_fits (types_in c.args.wires.now) c.args.nets.now c.args.rails.now c.requires.rails c.ty-given.result c.in-Bin.op c.in-Bin.a c.in-Bin.b c.ty-ty.result
    c.rail_of-left.result c.rail_of-right.result
    (operands_fit c.args.nets.now c.args.id.0 (net.Bin c.in-Bin.op c.in-Bin.a c.in-Bin.b) c.ty-given.result there c.ty-given.ensures) c.ty-ty.ensures
    c.rail_of-left.ensures c.rail_of-right.ensures in
    let typed = reading_typed c.args.nets.now.nets.entries c.args.nets.now.sound v.leaf v.know solves.leaves solves.nets in
    subst (Shows settled c.in_ok-r-in-Bin.r) (sym (solves.nets c.args.id.0 (net.Bin c.in-Bin.op c.in-Bin.a c.in-Bin.b) there))
    (c.in_ok-r-in-Bin.ensures.means settled reads (v.know c.in-Bin.a.0) (v.know c.in-Bin.b.0) (typed c.in-Bin.a.0 c.ty-ty.result c.ty-ty.ensures)
    (typed c.in-Bin.b.0 c.ty-ty.result fits.1) (rails c.in-Bin.a.0 c.rail_of-left.result c.rail_of-left.ensures)
    (rails c.in-Bin.b.0 c.rail_of-right.result c.rail_of-right.ensures))

pub returns-in_ok-r-in-Bit-clause-rail : goal.returns-in_ok-r-in-Bit-clause-rail
returns-in_ok-r-in-Bit-clause-rail c = λ t is.
    let there = c.get.ensures ∙ ap (λ (m : Net). Some m) c.in-Bit.is in
    let fits = bit_fits (types_in c.args.wires.now) c.args.nets.now c.args.rails.now c.requires.rails t c.in-Bit.a c.in-Bit.index c.rail_of-whole.result
    (operands_fit c.args.nets.now c.args.id.0 (net.Bit c.in-Bit.a c.in-Bit.index) t there is) c.rail_of-whole.ensures in
    subst (λ s. IsRail (types_in c.bit.new.wires) s c.in_ok-r-in-Bit.r) fits.2 c.in_ok-r-in-Bit.ensures.rail
