use Rattle.qz_values.proofs.Typed.{typed1, typed2, typed_choose, typed_bit, typed_slice, typed_concat}
use Rattle.qz_values.proofs.laws.operators_keep_types.Goals as goal

pub returns-clause-apply1 : goal.returns-clause-apply1
returns-clause-apply1 c = typed1

pub returns-clause-apply2 : goal.returns-clause-apply2
returns-clause-apply2 c = typed2

pub returns-clause-choose : goal.returns-clause-choose
returns-clause-choose c = typed_choose

pub returns-clause-bit : goal.returns-clause-bit
returns-clause-bit c = typed_bit

pub returns-clause-slice : goal.returns-clause-slice
returns-clause-slice c = typed_slice

pub returns-clause-concat : goal.returns-clause-concat
returns-clause-concat c = typed_concat
