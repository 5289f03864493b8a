use Rattle.qz_symbolic.proofs.Scopes.{set_value}
use Rattle.qz_symbolic.proofs.living.mark.Goals as goal

pub returns-in_ok-lives-clause-lives : goal.returns-in_ok-lives-clause-lives
returns-in_ok-lives-clause-lives c = λ reading reads n below.
    set_value reading c.args.lives.now c.args.cell n c.in_ok-lives.field-0 (record { 0 = 0 }) (reading.values c.args.rests.0) c.if-cell-lives.true below
    (c.in_ok-lives.ensures.means reading reads)
