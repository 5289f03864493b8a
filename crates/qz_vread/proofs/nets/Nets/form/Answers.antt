use Rattle.qz_vread.specs.RightSides.{types_of, inputs_of}
use Rattle.qz_vread.proofs.RightSideLemmas.{invert_form, joined_form, choice_form, binary_form, selection_form, constant_form, IsPlain}
use Rattle.qz_vread.proofs.nets.Nets.form.Goals as goal

pub returns-in-Some : goal.returns-in-Some
returns-in-Some c = invert_form (types_of c.args.self.now) (inputs_of c.args.self.now) c.args.ty c.args.bytes.now c.in-Some.net.now c.inverted.result c.in-Some.ensures c.inverted.ensures

pub returns-in-Some-strip : goal.returns-in-Some-strip
returns-in-Some-strip c = joined_form (types_of c.args.self.now) (inputs_of c.args.self.now) c.args.ty c.args.bytes.now c.in-Some-strip.nets.now c.joined.result c.in-Some-strip.ensures c.joined.ensures

pub returns-in-Some-strip-2 : goal.returns-in-Some-strip-2
returns-in-Some-strip-2 c =
    let plain : IsPlain c.args.bytes.now = record { no_tilde = c.in_default.ensures; no_brace = c.in_default-strip.ensures } in
    choice_form (types_of c.args.self.now) (inputs_of c.args.self.now) c.args.ty c.args.bytes.now c.in-Some-split_at.first.now c.in-Some-split_at.rest.now c.in-Some-strip-2.sides.now c.choice.result
    plain c.in-Some-split_at.ensures.whole c.in-Some-split_at.ensures.first c.in-Some-strip-2.ensures c.choice.ensures

pub returns-in-None-strip : goal.returns-in-None-strip
returns-in-None-strip c =
    let plain : IsPlain c.args.bytes.now = record { no_tilde = c.in_default.ensures; no_brace = c.in_default-strip.ensures } in
    binary_form (types_of c.args.self.now) (inputs_of c.args.self.now) c.args.ty c.args.bytes.now c.in-Some-split_at.first.now c.in-Some-split_at.rest.now c.binary.result
    plain c.in-Some-split_at.ensures.whole c.in-Some-split_at.ensures.first c.in-None-strip.ensures c.binary.ensures

pub returns-in-Some-split_at-2 : goal.returns-in-Some-split_at-2
returns-in-Some-split_at-2 c =
    let plain : IsPlain c.args.bytes.now = record { no_tilde = c.in_default.ensures; no_brace = c.in_default-strip.ensures } in
    selection_form (types_of c.args.self.now) (inputs_of c.args.self.now) c.args.ty c.args.bytes.now c.in-Some-split_at-2.net.now c.in-Some-split_at-2.indices.now c.selection.result
    plain c.in-None.ensures c.in-Some-split_at-2.ensures.whole c.in-Some-split_at-2.ensures.first c.selection.ensures

pub returns-in-None-split_at : goal.returns-in-None-split_at
returns-in-None-split_at c =
    let plain : IsPlain c.args.bytes.now = record { no_tilde = c.in_default.ensures; no_brace = c.in_default-strip.ensures } in
    constant_form (types_of c.args.self.now) (inputs_of c.args.self.now) c.args.ty c.args.bytes.now c.constant_side.result plain c.in-None.ensures c.in-None-split_at.ensures c.constant_side.ensures
