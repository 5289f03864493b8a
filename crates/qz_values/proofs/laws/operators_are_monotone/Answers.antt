use Rattle.qz_values.proofs.Monotone.{monotone1, monotone2, monotone_choose, monotone_bit, monotone_slice, monotone_concat}
use Rattle.qz_values.proofs.laws.operators_are_monotone.Goals as goal

pub returns-clause-apply1 : goal.returns-clause-apply1
returns-clause-apply1 c = monotone1

pub returns-clause-apply2 : goal.returns-clause-apply2
returns-clause-apply2 c = monotone2

pub returns-clause-choose : goal.returns-clause-choose
returns-clause-choose c = monotone_choose

pub returns-clause-bit : goal.returns-clause-bit
returns-clause-bit c = monotone_bit

pub returns-clause-slice : goal.returns-clause-slice
returns-clause-slice c = monotone_slice

pub returns-clause-concat : goal.returns-clause-concat
returns-clause-concat c = monotone_concat
