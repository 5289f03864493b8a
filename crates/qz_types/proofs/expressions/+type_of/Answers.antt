use Rattle.std.proofs.Common.{◌≡◌}
use Rattle.qz_types.specs.Scopes.{meanings_of}
use Rattle.qz_types.proofs.FaultLemmas.{first_with_append}
use Rattle.qz_types.proofs.ExpressionLemmas.{told-Un, told-Bin, told-Choose, told-Select, told-Concat}
use Rattle.qz_types.proofs.expressions.+type_of.Goals as goal

pub returns-in-Un-clause-faults : goal.returns-in-Un-clause-faults
returns-in-Un-clause-faults t c =
    rw (c.in-Un.is, told-Un (meanings_of c.args.names.now) c.in-Un.op c.in-Un.at c.in-Un.arg, first_with_append) (cc)

pub returns-in-Bin-clause-faults : goal.returns-in-Bin-clause-faults
returns-in-Bin-clause-faults t c =
    rw (
      c.in-Bin.is,
      told-Bin (meanings_of c.args.names.now) c.in-Bin.op c.in-Bin.at c.in-Bin.left c.in-Bin.right,
      ← c.get-in-Bin.ensures,
      ← c.get-in-Bin-2.ensures,
      ← c.type_of-a-in-Bin.ensures.ty,
      ← c.type_of-b.ensures.ty,
      first_with_append,
      first_with_append,
      ← c.type_of-a-in-Bin.ensures.faults,
      ← c.type_of-b.ensures.faults,
    ) c.two.ensures.faults

pub returns-in-Choose-clause-faults : goal.returns-in-Choose-clause-faults
returns-in-Choose-clause-faults t c =
    rw (
      c.in-Choose.is,
      told-Choose (meanings_of c.args.names.now) c.in-Choose.at c.in-Choose.cond c.in-Choose.yes c.in-Choose.no,
      ← c.get-in-Choose.ensures,
      ← c.get-in-Choose-2.ensures,
      ← c.get-in-Choose-3.ensures,
      ← c.type_of-c.ensures.ty,
      ← c.type_of-a-in-Choose.ensures.ty,
      ← c.type_of-b-in-Choose.ensures.ty,
      first_with_append,
      first_with_append,
      first_with_append,
      ← c.type_of-c.ensures.faults,
      ← c.type_of-a-in-Choose.ensures.faults,
      ← c.type_of-b-in-Choose.ensures.faults,
    ) c.choice.ensures.faults

pub returns-in-Select-clause-faults : goal.returns-in-Select-clause-faults
returns-in-Select-clause-faults t c =
    rw (c.in-Select.is, told-Select (meanings_of c.args.names.now) c.in-Select.at c.in-Select.arg c.in-Select.high c.in-Select.low, first_with_append) (cc)

pub returns-in-Concat-clause-faults : goal.returns-in-Concat-clause-faults
returns-in-Concat-clause-faults t c =
    rw (
      c.in-Concat.is,
      told-Concat (meanings_of c.args.names.now) c.in-Concat.at c.in-Concat.left c.in-Concat.right,
      ← c.get-in-Concat.ensures,
      ← c.get-in-Concat-2.ensures,
      ← c.type_of-a-in-Concat.ensures.ty,
      ← c.type_of-b-in-Concat.ensures.ty,
      first_with_append,
      first_with_append,
      ← c.type_of-a-in-Concat.ensures.faults,
      ← c.type_of-b-in-Concat.ensures.faults,
    ) c.joined.ensures.faults
