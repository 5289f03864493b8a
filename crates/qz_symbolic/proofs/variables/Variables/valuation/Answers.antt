use Rattle.std.proofs.Common.{◌∙◌, sym, subst, arith}
use Rattle.qz_system.specs.declared.parts.SystemParts.{SystemParts}
use Rattle.qz_system.specs.declared.valuation.Valuation.{Valuation}
use Rattle.qz_symbolic.specs.Variables.{AreVariables, Spells}
use Rattle.qz_symbolic.proofs.Spots.{spots_front}
use Rattle.qz_symbolic.proofs.ReadBack.{read_back}
use Rattle.qz_symbolic.proofs.variables.Variables.valuation.Goals as goal

pub returns : goal.returns
returns c =
    let v : Valuation = record { started = c.first.result; places = c.in_ok-places.places; stores = c.in_ok-stores.stores; inputs = c.in_ok-inputs.inputs } in
    let right : AreVariables c.parts-parts.result.now c.args.self.now = subst (λ (parts : SystemParts). AreVariables parts c.args.self.now) (sym c.parts-parts.ensures.parts) c.requires.variables in
    subst (λ (parts : SystemParts). Spells parts v c.args.bits.now) c.parts-parts.ensures.parts
    (read_back c.parts-parts.result.now c.parts-parts.ensures.sound c.args.self.now right c.args.bits.now c.requires.bits v c.first.ensures
    (c.in_ok-places.ensures.long ∙ c.len.ensures) (λ n below. c.in_ok-places.ensures.each n (omega (arith, below, c.len.ensures)))
    c.in_ok-stores.ensures.long c.in_ok-stores.ensures.each c.in_ok-inputs.ensures.long c.in_ok-inputs.ensures.each)

pub places_spelled-requires : goal.places_spelled-requires
places_spelled-requires c =
    let front = spots_front c.parts-parts.result.now in
    let right : AreVariables c.parts-parts.result.now c.args.self.now = subst (λ (parts : SystemParts). AreVariables parts c.args.self.now) (sym c.parts-parts.ensures.parts) c.requires.variables in
    let count = right.count in
    let size = c.len.ensures in
    omega (arith, front, count, size, c.requires.bits)

pub first-requires : goal.first-requires
first-requires c =
    let front = spots_front c.args.s.now.parts in
    let count = c.requires.variables.count in
    omega (arith, front, count, c.requires.bits)
