use Rattle.std.proofs.Common.{◌≡◌, sym, ap, ap₂, subst, IsSome, ◌∙◌}
use Rattle.std.specs.Option.{option_and_then}
use Rattle.qz_values.specs.Knowledge.{apply1_of, apply2_of, choose_of, bit_of, slice_of, concat_of}
use Rattle.qz_values.specs.Tables.{type2_of, choose_type, concat_type}
use Rattle.qz_nets.specs.Readings.{type_in}
use Rattle.qz_meaning.specs.Expressions.{value_here}
use Rattle.qz_meaning.proofs.Evaluating.{value-Un, value-Bin, value-Choose, value-Bit, value-Slice, value-Concat}
use Rattle.qz_control.specs.Circuits.{Means, Grows, known}
use Rattle.qz_control.specs.Contexts.{context_of}
use Rattle.qz_control.specs.Typed.{expr_type}
use Rattle.qz_control.proofs.Choosing.{both_ok, if_ok}
use Rattle.qz_control.proofs.Evaluated.{type_bin, type_choose, type_concat}
use Rattle.qz_control.proofs.Valued.{some_first, some_third, type_stays}
use Rattle.qz_control.proofs.values.+value.Goals as goal

pub returns-in_ok-a-in-Un-clause-means : goal.returns-in_ok-a-in-Un-clause-means
returns-in_ok-a-in-Un-clause-means t c =
    both_ok c.unary.result (λ id. Means c.unary.new.self id (λ v. apply1_of c.in-Un.op (known v c.in_ok-a-in-Un.a))) (Grows c.value.new.circuit c.unary.new.self)
    (λ id. Means c.unary.new.self id (λ v. value_here v.leaves.scene (context_of c.args.marks.now) c.args.e.now))
    c.unary.ensures.means c.unary.ensures.grows
    (λ id means grows v views.
    let value = value_here v.leaves.scene (context_of c.args.marks.now) in
    means v views ∙ ap (λ k. apply1_of c.in-Un.op k) (c.in_ok-a-in-Un.ensures.means v (grows.views v views) ∙ ap value c.get.ensures)
    ∙ sym (ap value c.in-Un.is ∙ value-Un v.leaves.scene (context_of c.args.marks.now) c.in-Un.op c.in-Un.a))

pub returns-in_ok-a-in-Bit-clause-means : goal.returns-in_ok-a-in-Bit-clause-means
returns-in_ok-a-in-Bit-clause-means t c =
    both_ok c.bit.result (λ id. Means c.bit.new.self id (λ v. bit_of (known v c.in_ok-a-in-Bit.a) c.in-Bit.index)) (Grows c.value-in-Bit.new.circuit c.bit.new.self)
    (λ id. Means c.bit.new.self id (λ v. value_here v.leaves.scene (context_of c.args.marks.now) c.args.e.now))
    c.bit.ensures.means c.bit.ensures.grows
    (λ id means grows v views.
    let value = value_here v.leaves.scene (context_of c.args.marks.now) in
    means v views ∙ ap (λ k. bit_of k c.in-Bit.index) (c.in_ok-a-in-Bit.ensures.means v (grows.views v views) ∙ ap value c.get-in-Bit.ensures)
    ∙ sym (ap value c.in-Bit.is ∙ value-Bit v.leaves.scene (context_of c.args.marks.now) c.in-Bit.a c.in-Bit.index))

pub returns-in_ok-a-in-Slice-clause-means : goal.returns-in_ok-a-in-Slice-clause-means
returns-in_ok-a-in-Slice-clause-means t c =
    both_ok c.slice.result (λ id. Means c.slice.new.self id (λ v. slice_of (known v c.in_ok-a-in-Slice.a) c.in-Slice.high c.in-Slice.low)) (Grows c.value-in-Slice.new.circuit c.slice.new.self)
    (λ id. Means c.slice.new.self id (λ v. value_here v.leaves.scene (context_of c.args.marks.now) c.args.e.now))
    c.slice.ensures.means c.slice.ensures.grows
    (λ id means grows v views.
    let value = value_here v.leaves.scene (context_of c.args.marks.now) in
    means v views ∙ ap (λ k. slice_of k c.in-Slice.high c.in-Slice.low) (c.in_ok-a-in-Slice.ensures.means v (grows.views v views) ∙ ap value c.get-in-Slice.ensures)
    ∙ sym (ap value c.in-Slice.is ∙ value-Slice v.leaves.scene (context_of c.args.marks.now) c.in-Slice.a c.in-Slice.high c.in-Slice.low))

pub binary-requires : goal.binary-requires
binary-requires t c =
    let one = c.get-in-Bin.result.now in
    let two = c.get-in-Bin-2.result.now in
    let is : expr_type c.args.owner.now c.args.e.now ≡ option_and_then (λ s. option_and_then (λ t'. type2_of c.in-Bin.op s t') (expr_type c.args.owner.now two)) (expr_type c.args.owner.now one)
    = type_bin c.args.owner.now c.args.e.now c.in-Bin.op c.in-Bin.a c.in-Bin.b one two c.in-Bin.is c.get-in-Bin.ensures c.get-in-Bin-2.ensures in
    let so : IsSome (option_and_then (λ s. option_and_then (λ t'. type2_of c.in-Bin.op s t') (expr_type c.args.owner.now two)) (expr_type c.args.owner.now one)) = subst (λ t. IsSome t) is c.requires in
    let ta : type_in c.value-in-Bin-2.new.circuit.table c.in_ok-a-in-Bin.a.0 ≡ expr_type c.args.owner.now one
    = type_stays c.value-in-Bin.new.circuit c.value-in-Bin-2.new.circuit c.in_ok-b-in-Bin.ensures.grows c.in_ok-a-in-Bin.a _ (some_first _ _ so) c.in_ok-a-in-Bin.ensures.ty in
    let types : option_and_then (λ s. option_and_then (λ t'. type2_of c.in-Bin.op s t') (type_in c.value-in-Bin-2.new.circuit.table c.in_ok-b-in-Bin.b.0)) (type_in c.value-in-Bin-2.new.circuit.table c.in_ok-a-in-Bin.a.0) ≡ option_and_then (λ s. option_and_then (λ t'. type2_of c.in-Bin.op s t') (expr_type c.args.owner.now two)) (expr_type c.args.owner.now one)
    = ap₂ (λ x y. option_and_then (λ s. option_and_then (λ t'. type2_of c.in-Bin.op s t') y) x) ta c.in_ok-b-in-Bin.ensures.ty in
    subst (λ t. IsSome t) (sym types) so

pub returns-in_ok-b-in-Bin-clause-ty : goal.returns-in_ok-b-in-Bin-clause-ty
returns-in_ok-b-in-Bin-clause-ty t c =
    let one = c.get-in-Bin.result.now in
    let two = c.get-in-Bin-2.result.now in
    let is : expr_type c.args.owner.now c.args.e.now ≡ option_and_then (λ s. option_and_then (λ t'. type2_of c.in-Bin.op s t') (expr_type c.args.owner.now two)) (expr_type c.args.owner.now one)
    = type_bin c.args.owner.now c.args.e.now c.in-Bin.op c.in-Bin.a c.in-Bin.b one two c.in-Bin.is c.get-in-Bin.ensures c.get-in-Bin-2.ensures in
    let so : IsSome (option_and_then (λ s. option_and_then (λ t'. type2_of c.in-Bin.op s t') (expr_type c.args.owner.now two)) (expr_type c.args.owner.now one)) = subst (λ t. IsSome t) is c.requires in
    let ta : type_in c.value-in-Bin-2.new.circuit.table c.in_ok-a-in-Bin.a.0 ≡ expr_type c.args.owner.now one
    = type_stays c.value-in-Bin.new.circuit c.value-in-Bin-2.new.circuit c.in_ok-b-in-Bin.ensures.grows c.in_ok-a-in-Bin.a _ (some_first _ _ so) c.in_ok-a-in-Bin.ensures.ty in
    let types : option_and_then (λ s. option_and_then (λ t'. type2_of c.in-Bin.op s t') (type_in c.value-in-Bin-2.new.circuit.table c.in_ok-b-in-Bin.b.0)) (type_in c.value-in-Bin-2.new.circuit.table c.in_ok-a-in-Bin.a.0) ≡ option_and_then (λ s. option_and_then (λ t'. type2_of c.in-Bin.op s t') (expr_type c.args.owner.now two)) (expr_type c.args.owner.now one)
    = ap₂ (λ x y. option_and_then (λ s. option_and_then (λ t'. type2_of c.in-Bin.op s t') y) x) ta c.in_ok-b-in-Bin.ensures.ty in
    if_ok c.binary.result (λ id. type_in c.binary.new.self.table id.0 ≡ option_and_then (λ s. option_and_then (λ t'. type2_of c.in-Bin.op s t') (type_in c.value-in-Bin-2.new.circuit.table c.in_ok-b-in-Bin.b.0)) (type_in c.value-in-Bin-2.new.circuit.table c.in_ok-a-in-Bin.a.0))
    (λ id. type_in c.binary.new.self.table id.0 ≡ expr_type c.args.owner.now c.args.e.now) c.binary.ensures.ty (λ id ty. ty ∙ types ∙ sym is)

pub returns-in_ok-b-in-Bin-clause-means : goal.returns-in_ok-b-in-Bin-clause-means
returns-in_ok-b-in-Bin-clause-means t c =
    both_ok c.binary.result (λ id. Means c.binary.new.self id (λ v. apply2_of c.in-Bin.op (known v c.in_ok-a-in-Bin.a) (known v c.in_ok-b-in-Bin.b))) (Grows c.value-in-Bin-2.new.circuit c.binary.new.self)
    (λ id. Means c.binary.new.self id (λ v. value_here v.leaves.scene (context_of c.args.marks.now) c.args.e.now))
    c.binary.ensures.means c.binary.ensures.grows
    (λ id means grows v views.
    let at_b = grows.views v views in
    let value = value_here v.leaves.scene (context_of c.args.marks.now) in
    means v views
    ∙ ap₂ (λ x y. apply2_of c.in-Bin.op x y) (c.in_ok-a-in-Bin.ensures.means v (c.in_ok-b-in-Bin.ensures.grows.views v at_b) ∙ ap value c.get-in-Bin.ensures) (c.in_ok-b-in-Bin.ensures.means v at_b ∙ ap value c.get-in-Bin-2.ensures)
    ∙ sym (ap value c.in-Bin.is ∙ value-Bin v.leaves.scene (context_of c.args.marks.now) c.in-Bin.op c.in-Bin.a c.in-Bin.b))

pub concat-requires : goal.concat-requires
concat-requires t c =
    let one = c.get-in-Concat.result.now in
    let two = c.get-in-Concat-2.result.now in
    let is : expr_type c.args.owner.now c.args.e.now ≡ option_and_then (λ s. option_and_then (λ t'. concat_type s t') (expr_type c.args.owner.now two)) (expr_type c.args.owner.now one)
    = type_concat c.args.owner.now c.args.e.now c.in-Concat.a c.in-Concat.b one two c.in-Concat.is c.get-in-Concat.ensures c.get-in-Concat-2.ensures in
    let so : IsSome (option_and_then (λ s. option_and_then (λ t'. concat_type s t') (expr_type c.args.owner.now two)) (expr_type c.args.owner.now one)) = subst (λ t. IsSome t) is c.requires in
    let ta : type_in c.value-in-Concat-2.new.circuit.table c.in_ok-a-in-Concat.a.0 ≡ expr_type c.args.owner.now one
    = type_stays c.value-in-Concat.new.circuit c.value-in-Concat-2.new.circuit c.in_ok-b-in-Concat.ensures.grows c.in_ok-a-in-Concat.a _ (some_first _ _ so) c.in_ok-a-in-Concat.ensures.ty in
    let types : option_and_then (λ s. option_and_then (λ t'. concat_type s t') (type_in c.value-in-Concat-2.new.circuit.table c.in_ok-b-in-Concat.b.0)) (type_in c.value-in-Concat-2.new.circuit.table c.in_ok-a-in-Concat.a.0) ≡ option_and_then (λ s. option_and_then (λ t'. concat_type s t') (expr_type c.args.owner.now two)) (expr_type c.args.owner.now one)
    = ap₂ (λ x y. option_and_then (λ s. option_and_then (λ t'. concat_type s t') y) x) ta c.in_ok-b-in-Concat.ensures.ty in
    subst (λ t. IsSome t) (sym types) so

pub returns-in_ok-b-in-Concat-clause-ty : goal.returns-in_ok-b-in-Concat-clause-ty
returns-in_ok-b-in-Concat-clause-ty t c =
    let one = c.get-in-Concat.result.now in
    let two = c.get-in-Concat-2.result.now in
    let is : expr_type c.args.owner.now c.args.e.now ≡ option_and_then (λ s. option_and_then (λ t'. concat_type s t') (expr_type c.args.owner.now two)) (expr_type c.args.owner.now one)
    = type_concat c.args.owner.now c.args.e.now c.in-Concat.a c.in-Concat.b one two c.in-Concat.is c.get-in-Concat.ensures c.get-in-Concat-2.ensures in
    let so : IsSome (option_and_then (λ s. option_and_then (λ t'. concat_type s t') (expr_type c.args.owner.now two)) (expr_type c.args.owner.now one)) = subst (λ t. IsSome t) is c.requires in
    let ta : type_in c.value-in-Concat-2.new.circuit.table c.in_ok-a-in-Concat.a.0 ≡ expr_type c.args.owner.now one
    = type_stays c.value-in-Concat.new.circuit c.value-in-Concat-2.new.circuit c.in_ok-b-in-Concat.ensures.grows c.in_ok-a-in-Concat.a _ (some_first _ _ so) c.in_ok-a-in-Concat.ensures.ty in
    let types : option_and_then (λ s. option_and_then (λ t'. concat_type s t') (type_in c.value-in-Concat-2.new.circuit.table c.in_ok-b-in-Concat.b.0)) (type_in c.value-in-Concat-2.new.circuit.table c.in_ok-a-in-Concat.a.0) ≡ option_and_then (λ s. option_and_then (λ t'. concat_type s t') (expr_type c.args.owner.now two)) (expr_type c.args.owner.now one)
    = ap₂ (λ x y. option_and_then (λ s. option_and_then (λ t'. concat_type s t') y) x) ta c.in_ok-b-in-Concat.ensures.ty in
    if_ok c.concat.result (λ id. type_in c.concat.new.self.table id.0 ≡ option_and_then (λ s. option_and_then (λ t'. concat_type s t') (type_in c.value-in-Concat-2.new.circuit.table c.in_ok-b-in-Concat.b.0)) (type_in c.value-in-Concat-2.new.circuit.table c.in_ok-a-in-Concat.a.0))
    (λ id. type_in c.concat.new.self.table id.0 ≡ expr_type c.args.owner.now c.args.e.now) c.concat.ensures.ty (λ id ty. ty ∙ types ∙ sym is)

pub returns-in_ok-b-in-Concat-clause-means : goal.returns-in_ok-b-in-Concat-clause-means
returns-in_ok-b-in-Concat-clause-means t c =
    both_ok c.concat.result (λ id. Means c.concat.new.self id (λ v. concat_of (known v c.in_ok-a-in-Concat.a) (known v c.in_ok-b-in-Concat.b))) (Grows c.value-in-Concat-2.new.circuit c.concat.new.self)
    (λ id. Means c.concat.new.self id (λ v. value_here v.leaves.scene (context_of c.args.marks.now) c.args.e.now))
    c.concat.ensures.means c.concat.ensures.grows
    (λ id means grows v views.
    let at_b = grows.views v views in
    let value = value_here v.leaves.scene (context_of c.args.marks.now) in
    means v views
    ∙ ap₂ (λ x y. concat_of x y) (c.in_ok-a-in-Concat.ensures.means v (c.in_ok-b-in-Concat.ensures.grows.views v at_b) ∙ ap value c.get-in-Concat.ensures) (c.in_ok-b-in-Concat.ensures.means v at_b ∙ ap value c.get-in-Concat-2.ensures)
    ∙ sym (ap value c.in-Concat.is ∙ value-Concat v.leaves.scene (context_of c.args.marks.now) c.in-Concat.a c.in-Concat.b))

pub chosen-requires : goal.chosen-requires
chosen-requires t c =
    let zero = c.get-in-Choose.result.now in
    let one = c.get-in-Choose-2.result.now in
    let two = c.get-in-Choose-3.result.now in
    let is : expr_type c.args.owner.now c.args.e.now ≡ option_and_then (λ r. option_and_then (λ s. option_and_then (λ t'. choose_type r s t') (expr_type c.args.owner.now two)) (expr_type c.args.owner.now one)) (expr_type c.args.owner.now zero)
    = type_choose c.args.owner.now c.args.e.now c.in-Choose.c c.in-Choose.a c.in-Choose.b zero one two c.in-Choose.is c.get-in-Choose.ensures c.get-in-Choose-2.ensures c.get-in-Choose-3.ensures in
    let so : IsSome (option_and_then (λ r. option_and_then (λ s. option_and_then (λ t'. choose_type r s t') (expr_type c.args.owner.now two)) (expr_type c.args.owner.now one)) (expr_type c.args.owner.now zero)) = subst (λ t. IsSome t) is c.requires in
    let both = some_third (λ r s t'. choose_type r s t') (expr_type c.args.owner.now zero) (expr_type c.args.owner.now one) (expr_type c.args.owner.now two) so in
    let tc : (type_in c.value-in-Choose-3.new.circuit.table c.in_ok-c-in-Choose.c.0) ≡ (expr_type c.args.owner.now zero)
    = type_stays c.value-in-Choose-2.new.circuit c.value-in-Choose-3.new.circuit c.in_ok-b-in-Choose.ensures.grows c.in_ok-c-in-Choose.c _ (some_first _ _ so)
    (type_stays c.value-in-Choose.new.circuit c.value-in-Choose-2.new.circuit c.in_ok-a-in-Choose.ensures.grows c.in_ok-c-in-Choose.c _ (some_first _ _ so) c.in_ok-c-in-Choose.ensures.ty) in
    let ta : (type_in c.value-in-Choose-3.new.circuit.table c.in_ok-a-in-Choose.a.0) ≡ (expr_type c.args.owner.now one)
    = type_stays c.value-in-Choose-2.new.circuit c.value-in-Choose-3.new.circuit c.in_ok-b-in-Choose.ensures.grows c.in_ok-a-in-Choose.a _ both.0 c.in_ok-a-in-Choose.ensures.ty in
    let types : option_and_then (λ r. option_and_then (λ s. option_and_then (λ t'. choose_type r s t') (type_in c.value-in-Choose-3.new.circuit.table c.in_ok-b-in-Choose.b.0)) (type_in c.value-in-Choose-3.new.circuit.table c.in_ok-a-in-Choose.a.0)) (type_in c.value-in-Choose-3.new.circuit.table c.in_ok-c-in-Choose.c.0) ≡ option_and_then (λ r. option_and_then (λ s. option_and_then (λ t'. choose_type r s t') (expr_type c.args.owner.now two)) (expr_type c.args.owner.now one)) (expr_type c.args.owner.now zero)
    = ap₂ (λ x y. option_and_then (λ r. option_and_then (λ s. option_and_then (λ t'. choose_type r s t') y) x) (type_in c.value-in-Choose-3.new.circuit.table c.in_ok-c-in-Choose.c.0)) ta c.in_ok-b-in-Choose.ensures.ty ∙ ap (λ x. option_and_then (λ r. option_and_then (λ s. option_and_then (λ t'. choose_type r s t') (expr_type c.args.owner.now two)) (expr_type c.args.owner.now one)) x) tc in
    subst (λ t. IsSome t) (sym types) so

pub returns-in_ok-b-in-Choose-clause-ty : goal.returns-in_ok-b-in-Choose-clause-ty
returns-in_ok-b-in-Choose-clause-ty t c =
    let zero = c.get-in-Choose.result.now in
    let one = c.get-in-Choose-2.result.now in
    let two = c.get-in-Choose-3.result.now in
    let is : expr_type c.args.owner.now c.args.e.now ≡ option_and_then (λ r. option_and_then (λ s. option_and_then (λ t'. choose_type r s t') (expr_type c.args.owner.now two)) (expr_type c.args.owner.now one)) (expr_type c.args.owner.now zero)
    = type_choose c.args.owner.now c.args.e.now c.in-Choose.c c.in-Choose.a c.in-Choose.b zero one two c.in-Choose.is c.get-in-Choose.ensures c.get-in-Choose-2.ensures c.get-in-Choose-3.ensures in
    let so : IsSome (option_and_then (λ r. option_and_then (λ s. option_and_then (λ t'. choose_type r s t') (expr_type c.args.owner.now two)) (expr_type c.args.owner.now one)) (expr_type c.args.owner.now zero)) = subst (λ t. IsSome t) is c.requires in
    let both = some_third (λ r s t'. choose_type r s t') (expr_type c.args.owner.now zero) (expr_type c.args.owner.now one) (expr_type c.args.owner.now two) so in
    let tc : (type_in c.value-in-Choose-3.new.circuit.table c.in_ok-c-in-Choose.c.0) ≡ (expr_type c.args.owner.now zero)
    = type_stays c.value-in-Choose-2.new.circuit c.value-in-Choose-3.new.circuit c.in_ok-b-in-Choose.ensures.grows c.in_ok-c-in-Choose.c _ (some_first _ _ so)
    (type_stays c.value-in-Choose.new.circuit c.value-in-Choose-2.new.circuit c.in_ok-a-in-Choose.ensures.grows c.in_ok-c-in-Choose.c _ (some_first _ _ so) c.in_ok-c-in-Choose.ensures.ty) in
    let ta : (type_in c.value-in-Choose-3.new.circuit.table c.in_ok-a-in-Choose.a.0) ≡ (expr_type c.args.owner.now one)
    = type_stays c.value-in-Choose-2.new.circuit c.value-in-Choose-3.new.circuit c.in_ok-b-in-Choose.ensures.grows c.in_ok-a-in-Choose.a _ both.0 c.in_ok-a-in-Choose.ensures.ty in
    let types : option_and_then (λ r. option_and_then (λ s. option_and_then (λ t'. choose_type r s t') (type_in c.value-in-Choose-3.new.circuit.table c.in_ok-b-in-Choose.b.0)) (type_in c.value-in-Choose-3.new.circuit.table c.in_ok-a-in-Choose.a.0)) (type_in c.value-in-Choose-3.new.circuit.table c.in_ok-c-in-Choose.c.0) ≡ option_and_then (λ r. option_and_then (λ s. option_and_then (λ t'. choose_type r s t') (expr_type c.args.owner.now two)) (expr_type c.args.owner.now one)) (expr_type c.args.owner.now zero)
    = ap₂ (λ x y. option_and_then (λ r. option_and_then (λ s. option_and_then (λ t'. choose_type r s t') y) x) (type_in c.value-in-Choose-3.new.circuit.table c.in_ok-c-in-Choose.c.0)) ta c.in_ok-b-in-Choose.ensures.ty ∙ ap (λ x. option_and_then (λ r. option_and_then (λ s. option_and_then (λ t'. choose_type r s t') (expr_type c.args.owner.now two)) (expr_type c.args.owner.now one)) x) tc in
    if_ok c.chosen.result (λ id. type_in c.chosen.new.self.table id.0 ≡ option_and_then (λ r. option_and_then (λ s. option_and_then (λ t'. choose_type r s t') (type_in c.value-in-Choose-3.new.circuit.table c.in_ok-b-in-Choose.b.0)) (type_in c.value-in-Choose-3.new.circuit.table c.in_ok-a-in-Choose.a.0)) (type_in c.value-in-Choose-3.new.circuit.table c.in_ok-c-in-Choose.c.0))
    (λ id. type_in c.chosen.new.self.table id.0 ≡ expr_type c.args.owner.now c.args.e.now) c.chosen.ensures.ty (λ id ty. ty ∙ types ∙ sym is)

pub returns-in_ok-b-in-Choose-clause-means : goal.returns-in_ok-b-in-Choose-clause-means
returns-in_ok-b-in-Choose-clause-means t c =
    both_ok c.chosen.result (λ id. Means c.chosen.new.self id (λ v. choose_of (known v c.in_ok-c-in-Choose.c) (known v c.in_ok-a-in-Choose.a) (known v c.in_ok-b-in-Choose.b))) (Grows c.value-in-Choose-3.new.circuit c.chosen.new.self)
    (λ id. Means c.chosen.new.self id (λ v. value_here v.leaves.scene (context_of c.args.marks.now) c.args.e.now))
    c.chosen.ensures.means c.chosen.ensures.grows
    (λ id means grows v views.
    let at_b = grows.views v views in
    let at_a = c.in_ok-b-in-Choose.ensures.grows.views v at_b in
    let value = value_here v.leaves.scene (context_of c.args.marks.now) in
    means v views
    ∙ ap₂ (λ x y. choose_of (known v c.in_ok-c-in-Choose.c) x y) (c.in_ok-a-in-Choose.ensures.means v at_a ∙ ap value c.get-in-Choose-2.ensures) (c.in_ok-b-in-Choose.ensures.means v at_b ∙ ap value c.get-in-Choose-3.ensures)
    ∙ ap (λ x. choose_of x (value c.in-Choose.a) (value c.in-Choose.b)) (c.in_ok-c-in-Choose.ensures.means v (c.in_ok-a-in-Choose.ensures.grows.views v at_a) ∙ ap value c.get-in-Choose.ensures)
    ∙ sym (ap value c.in-Choose.is ∙ value-Choose v.leaves.scene (context_of c.args.marks.now) c.in-Choose.c c.in-Choose.a c.in-Choose.b))
