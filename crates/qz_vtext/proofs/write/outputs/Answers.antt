use Rattle.std.proofs.Common.{rules, ◌≡◌, [], ◌++◌, sym, ap, ◌∙◌, drop, length, string_bytes, append-nil}
use Rattle.std.proofs.lemmas.Slice.Zip.{zip_end}
use Rattle.qz_vtext.specs.Lines.{output_lines}
use Rattle.qz_vtext.specs.Text.{joined}
use Rattle.qz_vtext.proofs.Written.{no_more_outputs}
use Rattle.qz_vtext.proofs.write.outputs.Goals as goal

pub returns : goal.returns
returns c =
    let end = zip_end c.args.ports.now c.args.nets.now c.loop-port.yielded c.into_iter-port-iterator.result c.loop-port.port-iterator c.next.new.self
    c.next.result (search rules) (search rules) c.loop-port.yielded_by c.in-None.is c.next.ensures.steps in
    sym (append-nil (string_bytes c.loop-port.text))
    ∙ ap (λ lines. string_bytes c.loop-port.text ++ joined lines) (sym (no_more_outputs c.args.pen.now.inputs.now c.args.ports.now c.args.nets.now (length c.loop-port.yielded) end))
    ∙ c.loop-port.invariant
