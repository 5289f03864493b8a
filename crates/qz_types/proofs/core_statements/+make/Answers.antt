use Rattle.std.proofs.Common.{◌≡◌, ◌+◌, ◌∷◌, map, drop, ◌∙◌, arith}
use Rattle.std.proofs.lemmas.List.{drop_more}
use Rattle.qz_types.specs.Scopes.{meanings_of}
use Rattle.qz_types.specs.Makers.{all_made, in_sequence}
use Rattle.qz_types.specs.CoreStatements.{made}
use Rattle.qz_types.proofs.MakingLemmas.{made_more, block_tree, block_next, if_else_tree, if_else_next, if_tree, if_next}
use Rattle.qz_types.proofs.FaultLemmas.{on_ok}
use Rattle.qz_types.proofs.MadeLemmas.{made-While, made-Every, made-Abort, made-Suspend}
use Rattle.qz_types.proofs.core_statements.+make.Goals as goal

pub sequence-loop-s-preserved : goal.sequence-loop-s-preserved
sequence-loop-s-preserved t c =
    let make = made c.args.callees.now.protos.now (meanings_of c.args.callees.now.numbers) in
    let i = c.loop-s.s-index in
    let xs = c.args.list.now in
    let split : drop i xs ≡ c.s-item.result ∷ drop (i + 1) xs = rw c.s-item.is (drop_more xs i c.s-item.result (omega arith)) in
    let so_far = rw split at c.loop-s.invariant in
    let all = all_made (map make xs) (meanings_of c.args.names.now) c.args.numbers.now in
    let more = made_more (make c.s-item.result) (map make (drop (i + 1) xs)) c.loop-s.parts c.push.new.self (meanings_of c.loop-s.names) (meanings_of c.args.names.now)
    c.loop-s.numbers c.statement.new.numbers c.in_ok-part.part all.trees all.next
    so_far.names c.in_ok-part.ensures.tree c.in_ok-part.ensures.next c.in_ok-push.ensures.ok (record { trees_are = so_far.trees; next_is = so_far.next }) in
    record { names = c.in_ok-part.ensures.names ∙ so_far.names; trees = more.trees_are; next = more.next_is }

pub lists-loop-list-preserved : goal.lists-loop-list-preserved
lists-loop-list-preserved t c =
    let make = made c.args.callees.now.protos.now (meanings_of c.args.callees.now.numbers) in
    let i = c.loop-list.list-index in
    let xs = c.as_slice-list-items.result.now in
    let split : drop i xs ≡ c.list-item.result ∷ drop (i + 1) xs = rw c.list-item.is (drop_more xs i c.list-item.result (omega arith)) in
    let so_far = rw split at c.loop-list.invariant in
    let all = all_made (map (λ list. in_sequence (map make list)) xs) (meanings_of c.args.names.now) c.args.numbers.now in
    let part_tree = rw c.as_slice.ensures at c.in_ok-part.ensures.tree in
    let part_next = rw c.as_slice.ensures at c.in_ok-part.ensures.next in
    let more = made_more (in_sequence (map make c.list-item.result)) (map (λ list. in_sequence (map make list)) (drop (i + 1) xs)) c.loop-list.parts c.push.new.self
    (meanings_of c.loop-list.names) (meanings_of c.args.names.now) c.loop-list.numbers c.sequence.new.numbers c.in_ok-part.part all.trees all.next
    so_far.names part_tree part_next c.in_ok-push.ensures.ok (record { trees_are = so_far.trees; next_is = so_far.next }) in
    record { names = c.in_ok-part.ensures.names ∙ so_far.names; trees = more.trees_are; next = more.next_is }

pub block-returns-clause-tree : goal.block-returns-clause-tree
block-returns-clause-tree t c =
    let protos = c.args.callees.now.protos.now in
    let callees = meanings_of c.args.callees.now.numbers in
    let declares = rw c.as_slice.ensures at c.in_ok-locals.ensures in
    block_tree protos callees c.args.inner.now (meanings_of c.args.names.now) (meanings_of c.declare.new.names) c.args.numbers.now c.declare.new.numbers c.lists.new.numbers c.in_ok-locals.locals c.in_ok-body.body
    c.scoped.result declares c.in_ok-body.ensures.tree c.in_ok-body.ensures.next c.scoped.ensures

pub block-returns-clause-next : goal.block-returns-clause-next
block-returns-clause-next t c =
    let protos = c.args.callees.now.protos.now in
    let callees = meanings_of c.args.callees.now.numbers in
    let declares = rw c.as_slice.ensures at c.in_ok-locals.ensures in
    on_ok c.scoped.result (block_next protos callees c.args.inner.now (meanings_of c.args.names.now) (meanings_of c.declare.new.names) c.args.numbers.now c.declare.new.numbers c.lists.new.numbers c.in_ok-locals.locals c.in_ok-body.body
    declares c.in_ok-body.ensures.tree c.in_ok-body.ensures.next)

pub statement-returns-in_ok-second-in-Some-clause-tree : goal.statement-returns-in_ok-second-in-Some-clause-tree
statement-returns-in_ok-second-in-Some-clause-tree t c =
    let protos = c.args.callees.now.protos.now in
    let callees = meanings_of c.args.callees.now.numbers in
    rw (c.in-If.is, c.in-Some.is, ← c.get.ensures, ← c.get-in-Some.ensures)
    (if_else_tree protos callees c.in-If.cond c.get.result.now c.get-in-Some.result.now (meanings_of c.args.names.now) (meanings_of c.statement.new.names) (meanings_of c.statement-in-Some.new.names)
    c.args.numbers.now c.statement.new.numbers c.in_ok-first-in-If.first c.in_ok-second-in-Some.second c.branching.result
    c.in_ok-first-in-If.ensures.tree c.in_ok-first-in-If.ensures.next c.in_ok-first-in-If.ensures.names c.in_ok-second-in-Some.ensures.tree c.in_ok-second-in-Some.ensures.names c.branching.ensures)

pub statement-returns-in_ok-second-in-Some-clause-next : goal.statement-returns-in_ok-second-in-Some-clause-next
statement-returns-in_ok-second-in-Some-clause-next t c =
    let protos = c.args.callees.now.protos.now in
    let callees = meanings_of c.args.callees.now.numbers in
    rw (c.in-If.is, c.in-Some.is, ← c.get.ensures, ← c.get-in-Some.ensures)
    (on_ok c.branching.result (if_else_next protos callees c.in-If.cond c.get.result.now c.get-in-Some.result.now (meanings_of c.args.names.now) (meanings_of c.statement.new.names)
    c.args.numbers.now c.statement.new.numbers c.statement-in-Some.new.numbers
    c.in_ok-first-in-If.ensures.next c.in_ok-first-in-If.ensures.names c.in_ok-second-in-Some.ensures.next))

pub statement-returns-in-None-clause-tree : goal.statement-returns-in-None-clause-tree
statement-returns-in-None-clause-tree t c =
    let protos = c.args.callees.now.protos.now in
    let callees = meanings_of c.args.callees.now.numbers in
    rw (c.in-If.is, c.in-None.is, ← c.get.ensures)
    (if_tree protos callees c.in-If.cond c.get.result.now (meanings_of c.args.names.now) (meanings_of c.statement.new.names) c.args.numbers.now c.in_ok-first-in-If.first c.branching-in-None.result
    c.in_ok-first-in-If.ensures.tree c.in_ok-first-in-If.ensures.names c.branching-in-None.ensures)

pub statement-returns-in-None-clause-next : goal.statement-returns-in-None-clause-next
statement-returns-in-None-clause-next t c =
    let protos = c.args.callees.now.protos.now in
    let callees = meanings_of c.args.callees.now.numbers in
    rw (c.in-If.is, c.in-None.is, ← c.get.ensures)
    (on_ok c.branching-in-None.result (if_next protos callees c.in-If.cond c.get.result.now (meanings_of c.args.names.now) c.args.numbers.now c.statement.new.numbers
    c.in_ok-first-in-If.ensures.next))

pub statement-returns-in-While-clause-tree : goal.statement-returns-in-While-clause-tree
statement-returns-in-While-clause-tree t c =
    let protos = c.args.callees.now.protos.now in
    let callees = meanings_of c.args.callees.now.numbers in
    rw (c.in-While.is, made-While protos callees c.in-While.cond c.in-While.body, ← c.get-in-While.ensures) c.whiling.ensures.tree

pub statement-returns-in-While-clause-next : goal.statement-returns-in-While-clause-next
statement-returns-in-While-clause-next t c =
    let protos = c.args.callees.now.protos.now in
    let callees = meanings_of c.args.callees.now.numbers in
    rw (c.in-While.is, made-While protos callees c.in-While.cond c.in-While.body, ← c.get-in-While.ensures) c.whiling.ensures.next

pub statement-returns-in-Every-clause-tree : goal.statement-returns-in-Every-clause-tree
statement-returns-in-Every-clause-tree t c =
    let protos = c.args.callees.now.protos.now in
    let callees = meanings_of c.args.callees.now.numbers in
    rw (c.in-Every.is, made-Every protos callees c.in-Every.cond c.in-Every.body, ← c.get-in-Every.ensures) c.on_every.ensures.tree

pub statement-returns-in-Every-clause-next : goal.statement-returns-in-Every-clause-next
statement-returns-in-Every-clause-next t c =
    let protos = c.args.callees.now.protos.now in
    let callees = meanings_of c.args.callees.now.numbers in
    rw (c.in-Every.is, made-Every protos callees c.in-Every.cond c.in-Every.body, ← c.get-in-Every.ensures) c.on_every.ensures.next

pub statement-returns-in-Abort-clause-tree : goal.statement-returns-in-Abort-clause-tree
statement-returns-in-Abort-clause-tree t c =
    let protos = c.args.callees.now.protos.now in
    let callees = meanings_of c.args.callees.now.numbers in
    rw (c.in-Abort.is, made-Abort protos callees c.in-Abort.kind c.in-Abort.body c.in-Abort.cond, ← c.get-in-Abort.ensures) c.aborting.ensures.tree

pub statement-returns-in-Abort-clause-next : goal.statement-returns-in-Abort-clause-next
statement-returns-in-Abort-clause-next t c =
    let protos = c.args.callees.now.protos.now in
    let callees = meanings_of c.args.callees.now.numbers in
    rw (c.in-Abort.is, made-Abort protos callees c.in-Abort.kind c.in-Abort.body c.in-Abort.cond, ← c.get-in-Abort.ensures) c.aborting.ensures.next

pub statement-returns-in-Suspend-clause-tree : goal.statement-returns-in-Suspend-clause-tree
statement-returns-in-Suspend-clause-tree t c =
    let protos = c.args.callees.now.protos.now in
    let callees = meanings_of c.args.callees.now.numbers in
    rw (c.in-Suspend.is, made-Suspend protos callees c.in-Suspend.kind c.in-Suspend.body c.in-Suspend.cond, ← c.get-in-Suspend.ensures) c.suspending.ensures.tree

pub statement-returns-in-Suspend-clause-next : goal.statement-returns-in-Suspend-clause-next
statement-returns-in-Suspend-clause-next t c =
    let protos = c.args.callees.now.protos.now in
    let callees = meanings_of c.args.callees.now.numbers in
    rw (c.in-Suspend.is, made-Suspend protos callees c.in-Suspend.kind c.in-Suspend.body c.in-Suspend.cond, ← c.get-in-Suspend.ensures) c.suspending.ensures.next

pub held_body-returns-clause-names : goal.held_body-returns-clause-names
held_body-returns-clause-names t c = c.in_ok-inner.ensures.names

pub held_body-returns-clause-place : goal.held_body-returns-clause-place
held_body-returns-clause-place t c = c.in_ok-place.ensures.number

pub held_body-returns-clause-tree : goal.held_body-returns-clause-tree
held_body-returns-clause-tree t c = rw c.in_ok-place.ensures.next at c.in_ok-inner.ensures.tree

pub held_body-returns-clause-next : goal.held_body-returns-clause-next
held_body-returns-clause-next t c = rw c.in_ok-place.ensures.next at c.in_ok-inner.ensures.next
