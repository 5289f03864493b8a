use Rattle.std.proofs.Common.{◌≡◌}
use Rattle.qz_types.proofs.FaultLemmas.{on_ok_more}
use Rattle.qz_types.proofs.LabelLemmas.{labels-Block}
use Rattle.qz_types.proofs.file_faults.body_labels.Goals as goal

pub returns : goal.returns
returns c = on_ok_more c.lists.result c.lists.ensures (λ are. rw (labels-Block c.args.body.now, ← c.new-seen.ensures) are.faults)
