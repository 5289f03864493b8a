use Rattle.std.proofs.Common.{◌≡◌, ◌+◌, ◌∷◌, drop, inl, inr, ◌∙◌, arith}
use Rattle.std.proofs.lemmas.List.{drop_more}
use Rattle.qz_types.specs.Scopes.{meanings_of}
use Rattle.qz_syntax.specs.declared.file_statements.FileStmt.TheVariants.{Block}
use Rattle.qz_types.specs.Faults.{first_with}
use Rattle.qz_types.specs.StatementFaults.{statement_faults}
use Rattle.qz_types.proofs.FaultLemmas.{first_with_append, on_ok}
use Rattle.qz_types.proofs.StatementLemmas.{faults-If, faults-IfElse, faults-While, faults-Every, faults-DoWhile, faults-Abort, faults-Suspend, faults-Block}
use Rattle.qz_types.proofs.statements.+check.Goals as goal

pub block-returns-clause-faults : goal.block-returns-clause-faults
block-returns-clause-faults t c =
    let protos = c.args.callees.now.protos.now in
    let callees = meanings_of c.args.callees.now.numbers in
    let names = meanings_of c.args.names.now in
    let known : c.lists.new.first.fault ≡ first_with c.args.first.now.fault (statement_faults protos callees (Block c.args.inner.now) names) =
    rw (
      faults-Block protos callees c.args.inner.now names,
      first_with_append,
      first_with_append,
      ← c.as_slice.ensures,
      ← c.local_widths.ensures,
      c.as_slice.ensures,
      ← c.as_slice-2.ensures,
      ← c.in_ok-hidden.ensures.scope,
      ← c.in_ok-hidden.ensures.faults,
    )
    c.in_ok-lists.ensures.faults in
    on_ok c.undo.result known

pub lists-loop-list-preserved : goal.lists-loop-list-preserved
lists-loop-list-preserved t c =
    let i = c.loop-list.list-index in
    let xs = c.as_slice-list-items.result.now in
    let split : drop i xs ≡ c.list-item.result ∷ drop (i + 1) xs = rw c.list-item.is (drop_more xs i c.list-item.result (omega arith)) in
    let so_far = rw split at c.loop-list.invariant in
    record {
      names = c.in_ok-statements.ensures.names ∙ so_far.names;
      faults = rw (c.in_ok-statements.ensures.faults, so_far.names, c.as_slice.ensures, ← first_with_append) so_far.faults;
    }

pub statement-returns-in-Some-clause-faults : goal.statement-returns-in-Some-clause-faults
statement-returns-in-Some-clause-faults t c =
    rw (
      c.in-If.is,
      c.in-Some.is,
      faults-IfElse c.args.callees.now.protos.now (meanings_of c.args.callees.now.numbers) c.in-If.cond c.in-If.yes c.in-Some.no (meanings_of c.args.names.now),
      first_with_append,
      first_with_append,
      ← c.get.ensures,
      ← c.get-in-Some.ensures,
      ← c.condition-in-If.ensures,
      ← c.in_ok-statement-in-If.ensures.faults,
      ← c.in_ok-statement-in-If.ensures.names,
    )
    c.statement-in-Some.ensures.faults

pub statement-returns-in-None-clause-faults : goal.statement-returns-in-None-clause-faults
statement-returns-in-None-clause-faults t c =
    rw (
      c.in-If.is,
      c.in-None.is,
      faults-If c.args.callees.now.protos.now (meanings_of c.args.callees.now.numbers) c.in-If.cond c.in-If.yes (meanings_of c.args.names.now),
      first_with_append,
      ← c.get.ensures,
      ← c.condition-in-If.ensures,
    )
    c.in_ok-statement-in-If.ensures.faults

pub statement-returns-in-While-clause-faults : goal.statement-returns-in-While-clause-faults
statement-returns-in-While-clause-faults t c =
    let protos = c.args.callees.now.protos.now in
    let callees = meanings_of c.args.callees.now.numbers in
    let names = meanings_of c.args.names.now in
    elim c.in-While.is [
      | inl e ↦ rw (e, faults-While protos callees c.in-While.cond c.in-While.body names, first_with_append, ← c.get-in-While.ensures, ← c.condition-in-While.ensures)
          c.statement-in-While.ensures.faults
      | inr e ↦ rw (e, faults-Every protos callees c.in-While.cond c.in-While.body names, first_with_append, ← c.get-in-While.ensures, ← c.condition-in-While.ensures)
          c.statement-in-While.ensures.faults
    ]

pub statement-returns-in_ok-statement-in-DoWhile-clause-faults : goal.statement-returns-in_ok-statement-in-DoWhile-clause-faults
statement-returns-in_ok-statement-in-DoWhile-clause-faults t c =
    let protos = c.args.callees.now.protos.now in
    let callees = meanings_of c.args.callees.now.numbers in
    let names = meanings_of c.args.names.now in
    let body = c.in-DoWhile.body in
    let cond = c.in-DoWhile.cond in
    let done = rw (c.in_ok-statement-in-DoWhile.ensures.names, c.in_ok-statement-in-DoWhile.ensures.faults, c.get-in-DoWhile.ensures, ← first_with_append) at c.condition-in-DoWhile.ensures in
    elim c.in-DoWhile.is [
      | inl e ↦ rw (e, faults-DoWhile protos callees body cond names) done
      | inr (inl e) ↦ rw (e.1, faults-Abort protos callees e.0 body cond names) done
      | inr (inr e) ↦ rw (e.1, faults-Suspend protos callees e.0 body cond names) done
    ]

pub statements-loop-s-preserved : goal.statements-loop-s-preserved
statements-loop-s-preserved t c =
    let i = c.loop-s.s-index in
    let xs = c.args.list.now in
    let split : drop i xs ≡ c.s-item.result ∷ drop (i + 1) xs = rw c.s-item.is (drop_more xs i c.s-item.result (omega arith)) in
    let so_far = rw split at c.loop-s.invariant in
    record {
      names = c.in_ok-statement.ensures.names ∙ so_far.names;
      faults = rw (c.in_ok-statement.ensures.faults, so_far.names, ← first_with_append) so_far.faults;
    }
