use Rattle.qz_react.specs.Seeing.{instance_of}
use Rattle.qz_single.proofs.Placed.{input_leaf, output_leaf}
use Rattle.qz_single.proofs.numbering.Numbering.formal_leaf.Goals as goal

pub returns-in-Some : goal.returns-in-Some
returns-in-Some c = λ m is.
    input_leaf m c.args.n (instance_of c.formal_instance.result) c.formal_instance.ensures c.in-Some.input (c.in-Some.ensures _ is.inputs)

pub returns-in-None : goal.returns-in-None
returns-in-None c = λ m is.
    output_leaf m c.args.n (instance_of c.formal_instance.result) c.formal_instance.ensures c.instance.result (c.in-None.ensures _ is.inputs) (c.instance.ensures m is)
