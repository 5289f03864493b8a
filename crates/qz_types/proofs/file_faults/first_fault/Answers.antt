use Rattle.std.proofs.Common.{◌≡◌}
use Rattle.qz_types.proofs.FaultLemmas.{if_ok_more}
use Rattle.qz_types.proofs.FirstLemmas.{first_or_none}
use Rattle.qz_types.specs.FileFaults.{faults_of}
use Rattle.qz_types.proofs.file_faults.first_fault.Goals as goal

pub returns : goal.returns
returns c = if_ok_more c.least_fault.result c.least_fault.ensures (λ fault is. first_or_none (faults_of c.args.f.now) fault is)
