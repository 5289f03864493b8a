use Rattle.std.proofs.Common.{◌≡◌, arith}
use Rattle.std.specs.List.{flat_map}
use Rattle.qz_types.specs.Scopes.{meanings_of}
use Rattle.qz_types.specs.FileFaults.{labels_of}
use Rattle.qz_types.specs.Declarations.{label_names}
use Rattle.qz_types.proofs.DeclarationLemmas.{declares_more, all_named_append}
use Rattle.qz_types.proofs.FaultLemmas.{on_ok_more}
use Rattle.qz_types.proofs.LabelLemmas.{labels-IfElse, labels-Block, declares_next}
use Rattle.qz_types.proofs.labels.+labels.Goals as goal

pub labels-returns-in-Block : goal.labels-returns-in-Block
labels-returns-in-Block t c = rw (c.in-Block.is, labels-Block c.in-Block.inner) c.lists.ensures

pub labels-returns-in-Some : goal.labels-returns-in-Some
labels-returns-in-Some t c =
    on_ok_more c.labels-in-Some.result c.labels-in-Some.ensures (λ more.
    rw (
      c.in-If.is,
      c.in-Some.is,
      labels-IfElse c.in-If.field-0 c.in-If.yes c.in-Some.no,
      all_named_append (tt {0}) (labels_of c.in-If.yes) (labels_of c.in-Some.no),
      ← c.get.ensures,
      ← c.get-in-Some.ensures,
    )
    (declares_more (label_names (labels_of c.get.result.now)) (label_names (labels_of c.get-in-Some.result.now))
    (meanings_of c.args.seen.now) (meanings_of c.labels.new.seen) (meanings_of c.labels-in-Some.new.seen)
    c.args.first.now.fault c.labels.new.first.fault c.labels-in-Some.new.first.fault c.in_ok-labels-in-If.ensures more))

pub lists-loop-list-preserved : goal.lists-loop-list-preserved
lists-loop-list-preserved t c =
    declares_next (λ list. flat_map labels_of list) c.as_slice-list-items.result.now c.loop-list.list-index c.list-item.result
    (meanings_of c.args.seen.now) (meanings_of c.loop-list.seen) (meanings_of c.statements.new.seen)
    c.args.first.now.fault c.loop-list.first.fault c.statements.new.first.fault (omega arith) c.list-item.is c.loop-list.invariant
    (rw (← c.as_slice.ensures) c.in_ok-statements.ensures)

pub statements-loop-s-preserved : goal.statements-loop-s-preserved
statements-loop-s-preserved t c =
    declares_next labels_of c.args.list.now c.loop-s.s-index c.s-item.result
    (meanings_of c.args.seen.now) (meanings_of c.loop-s.seen) (meanings_of c.labels.new.seen)
    c.args.first.now.fault c.loop-s.first.fault c.labels.new.first.fault (omega arith) c.s-item.is c.loop-s.invariant c.in_ok-labels.ensures
