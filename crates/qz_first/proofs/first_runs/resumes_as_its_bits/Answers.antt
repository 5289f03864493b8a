use Rattle.qz_first.proofs.FirstResuming.{resumes_as_its_bits}
use Rattle.qz_first.proofs.first_runs.resumes_as_its_bits.Goals as goal

pub returns : goal.returns
returns c = resumes_as_its_bits
