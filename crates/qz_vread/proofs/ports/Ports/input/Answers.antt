use Rattle.std.proofs.Common.{arith, ◌≡◌, ◌<◌, ◌≤◌, ◌++◌, length, Some, None, ◌∙◌, subst}
use Rattle.std.specs.Str.{bytes_eq}
use Rattle.qz_vread.proofs.SpelledNames.{FindsPort, finds_port, key_place, no_input, an_input, an_output}
use Rattle.qz_vread.proofs.ports.Ports.input.Goals as goal

pub returns-in_err-number : goal.returns-in_err-number
returns-in_err-number c =
    let text = c.args.spelled.now in
    let found : FindsPort (c.self.inside.inputs ++ c.self.inside.outputs) text c.get_index_of.result =
    finds_port (c.self.inside.inputs ++ c.self.inside.outputs) _ text c.get_index_of.result c.self.invariant (c.get_index_of.ensures.index ∙ key_place (bytes_eq text) c.self.inside.names.keys) in
    let none : c.get_index_of.result ≡ None = c.in_err-number.was in
    rw (c.from_residual.ensures, ← c.self.view_is)
    (no_input c.self.inside.inputs c.self.inside.outputs text (subst (λ o. FindsPort (c.self.inside.inputs ++ c.self.inside.outputs) text o) none found))

pub returns-then-number-len : goal.returns-then-number-len
returns-then-number-len c =
    let text = c.args.spelled.now in
    let found : FindsPort (c.self.inside.inputs ++ c.self.inside.outputs) text (Some c.in_ok-number.number) =
    finds_port (c.self.inside.inputs ++ c.self.inside.outputs) _ text (Some c.in_ok-number.number) c.self.invariant (c.in_ok-number.ensures.index ∙ key_place (bytes_eq text) c.self.inside.names.keys) in
    let below : c.in_ok-number.number < length c.self.inside.inputs = omega (arith, c.len.ensures, c.if-number-len.true) in
    rw (← c.self.view_is) (an_input c.self.inside.inputs c.self.inside.outputs text c.in_ok-number.number found below)

pub returns-else-number-len : goal.returns-else-number-len
returns-else-number-len c =
    let text = c.args.spelled.now in
    let found : FindsPort (c.self.inside.inputs ++ c.self.inside.outputs) text (Some c.in_ok-number.number) =
    finds_port (c.self.inside.inputs ++ c.self.inside.outputs) _ text (Some c.in_ok-number.number) c.self.invariant (c.in_ok-number.ensures.index ∙ key_place (bytes_eq text) c.self.inside.names.keys) in
    let above : length c.self.inside.inputs ≤ c.in_ok-number.number = omega (arith, c.len.ensures, c.if-number-len.false) in
    rw (← c.self.view_is) (an_output c.self.inside.inputs c.self.inside.outputs text c.in_ok-number.number found above)
