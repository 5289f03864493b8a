use Rattle.std.proofs.Common.{◌≡◌, ◌∙◌, ℕ, List, Some, length, map, ap, sym, subst, arith}
use Rattle.std.specs.List.{range_with_len}
use Rattle.std.proofs.lemmas.List.{length_push}
use Rattle.std.proofs.lemmas.Option.{slice_get_within}
use Rattle.qz_symbolic.specs.declared.variables.InputVariables.{InputVariables}
use Rattle.qz_symbolic.specs.Variables.{Spot, spots, AreSpots, input_width}
use Rattle.qz_symbolic.specs.Spelling.{spelled_number, IsInputRead}
use Rattle.qz_symbolic.proofs.Lists.{each_pushed, item_at}
use Rattle.qz_symbolic.proofs.Spelling.{spots_within}
use Rattle.qz_symbolic.proofs.ReadBack.{input_variables_short}
use Rattle.qz_symbolic.proofs.reading.inputs_spelled.Goals as goal

pub number-requires-clause-variables : goal.number-requires-clause-variables
number-requires-clause-variables c =
    let own = c.requires.variables.inputs c.loop-n.n c.own-item.result
    (item_at c.deref-own-items.result.now c.args.variables.now.inputs.items c.loop-n.n c.own-item.result c.deref-own-items.ensures.value c.loop-n-test.true c.own-item.is) in
    let count = c.requires.variables.count in
    λ k d below.
    let small = spots_within (spots c.args.parts.now) (map (Spot.Given c.loop-n.n) (range_with_len 0 (input_width c.args.parts.now c.loop-n.n))) c.deref.result.now
    (subst (λ (xs : List ℕ). AreSpots c.args.parts.now (map (Spot.Given c.loop-n.n) (range_with_len 0 (input_width c.args.parts.now c.loop-n.n))) xs) (sym c.deref.ensures.value) own.bits)
    k d below in
    omega (arith, small, count, c.requires.bits)

pub number-requires-clause-short : goal.number-requires-clause-short
number-requires-clause-short c =
    let at = item_at c.deref-own-items.result.now c.args.variables.now.inputs.items c.loop-n.n c.own-item.result c.deref-own-items.ensures.value c.loop-n-test.true c.own-item.is in
    let own = c.requires.variables.inputs c.loop-n.n c.own-item.result at in
    let within = slice_get_within c.args.variables.now.inputs.items c.loop-n.n c.own-item.result at in
    let size = c.requires.variables.input_count in
    let same = ap length c.deref.ensures.value in
    let short = input_variables_short c.args.parts.now c.requires.parts c.loop-n.n c.own-item.result.bits.items (omega (arith, within, size)) own.bits in
    omega (arith, same, short)

pub loop-n-preserved : goal.loop-n-preserved
loop-n-preserved c = record {
  long =
      let pushed = ap length c.in_ok-push.ensures.items in
      let more = length_push c.loop-n.all.items c.number.result in
      omega (arith, pushed, more, c.loop-n.invariant.long);
  each = each_pushed (IsInputRead c.args.variables.now c.args.bits.now)
      c.loop-n.all.items c.push.new.self.items c.loop-n.n c.number.result c.loop-n.invariant.long c.in_ok-push.ensures.items c.loop-n.invariant.each
      (record {
        read = λ own at.
            let here = item_at c.deref-own-items.result.now c.args.variables.now.inputs.items c.loop-n.n c.own-item.result c.deref-own-items.ensures.value c.loop-n-test.true c.own-item.is in
            let both : Some c.own-item.result ≡ Some own = sym here ∙ at in
            let same : c.own-item.result ≡ own = cc in
            c.number.ensures ∙ ap (spelled_number c.args.bits.now) c.deref.ensures.value
            ∙ ap (λ (x : InputVariables). spelled_number c.args.bits.now x.bits.items) same;
      });
}
