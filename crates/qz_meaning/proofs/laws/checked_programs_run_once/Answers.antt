use Rattle.qz_meaning.proofs.OneRun.{permitted_is_valuation}
use Rattle.qz_meaning.proofs.Permitting.{permitted_stays, checked_runs_once}
use Rattle.qz_meaning.proofs.laws.checked_programs_run_once.Goals as goal

pub returns-clause-valuations : goal.returns-clause-valuations
returns-clause-valuations c = permitted_is_valuation

pub returns-clause-stays : goal.returns-clause-stays
returns-clause-stays c = permitted_stays

pub returns-clause-runs : goal.returns-clause-runs
returns-clause-runs c = checked_runs_once
