use Rattle.std.proofs.Common.{arith, ◌≡◌, ◌+◌, ◌-◌, ◌<◌, ◌≤◌, List, ◌++◌, length, Some, None, sym, ap, ◌∙◌, subst}
use Rattle.std.specs.Str.{bytes_eq}
use Rattle.qz_syntax.specs.declared.declarations.Port.{Port}
use Rattle.qz_vread.specs.PortLists.{PortLists}
use Rattle.std.proofs.lemmas.Bool.{eqb-true, eq-eqb, false≢true, leb-true}
use Rattle.qz_vread.proofs.SpelledNames.{FindsPort, finds_port, key_place, IsOutputAt, output_found, output_place}
use Rattle.qz_vread.proofs.ports.Ports.is_output.Goals as goal

pub returns-then-at-len : goal.returns-then-at-len
returns-then-at-len c =
    let text = c.args.spelled.now in
    let ins = c.self.inside.inputs in
    let outs = c.self.inside.outputs in
    let found : FindsPort (ins ++ outs) text (Some c.in-Some.at) =
    finds_port (ins ++ outs) _ text (Some c.in-Some.at) c.self.invariant (c.in-Some.ensures.index ∙ key_place (bytes_eq text) c.self.inside.names.keys) in
    let above : length ins ≤ c.in-Some.at = omega (arith, c.len.ensures, c.if-at-len.true) in
    let out : outs ≡ c.args.self.now.outputs = ap (λ (p : PortLists). p.outputs) c.self.view_is in
    let P : List Port → Type 0 = λ os. IsOutputAt os text c.args.number in (
      λ t. subst P out
          (output_found ins outs text c.in-Some.at c.args.number found
          (let e = eqb-true (c.in-Some.at - c.len-then-at-len.result) c.args.number t in omega (arith, e, above, c.len-then-at-len.ensures))),
      λ at. eq-eqb (c.in-Some.at - c.len-then-at-len.result) c.args.number
          (let some : Some c.in-Some.at ≡ Some (length ins + c.args.number) = output_place ins outs text (Some c.in-Some.at) c.args.number found (subst P (sym out) at) in
          let same : c.in-Some.at ≡ length ins + c.args.number = cc in
          omega (arith, same, c.len-then-at-len.ensures)),
    )

pub returns-else-at-len : goal.returns-else-at-len
returns-else-at-len c =
    let text = c.args.spelled.now in
    let ins = c.self.inside.inputs in
    let outs = c.self.inside.outputs in
    let found : FindsPort (ins ++ outs) text (Some c.in-Some.at) =
    finds_port (ins ++ outs) _ text (Some c.in-Some.at) c.self.invariant (c.in-Some.ensures.index ∙ key_place (bytes_eq text) c.self.inside.names.keys) in
    let under : c.in-Some.at < length ins = omega (arith, c.len.ensures, c.if-at-len.false) in
    let out : outs ≡ c.args.self.now.outputs = ap (λ (p : PortLists). p.outputs) c.self.view_is in
    let P : List Port → Type 0 = λ os. IsOutputAt os text c.args.number in (
      λ t. absurd (let le = leb-true c.len.result c.in-Some.at t in omega (arith, le, under, c.len.ensures)),
      λ at. absurd
          (let some : Some c.in-Some.at ≡ Some (length ins + c.args.number) = output_place ins outs text (Some c.in-Some.at) c.args.number found (subst P (sym out) at) in
          let same : c.in-Some.at ≡ length ins + c.args.number = cc in
          omega (arith, same, under)),
    )

pub returns-in-None : goal.returns-in-None
returns-in-None c =
    let text = c.args.spelled.now in
    let ins = c.self.inside.inputs in
    let outs = c.self.inside.outputs in
    let found : FindsPort (ins ++ outs) text None =
    finds_port (ins ++ outs) _ text None c.self.invariant (c.in-None.ensures.index ∙ key_place (bytes_eq text) c.self.inside.names.keys) in
    let out : outs ≡ c.args.self.now.outputs = ap (λ (p : PortLists). p.outputs) c.self.view_is in
    let P : List Port → Type 0 = λ os. IsOutputAt os text c.args.number in (
      λ t. absurd (false≢true t),
      λ at. absurd (let none : None ≡ Some (length ins + c.args.number) = output_place ins outs text None c.args.number found (subst P (sym out) at) in cc),
    )
