use Rattle.qz_phrases.proofs.Combining.{always, start_is}
use Rattle.qz_phrases.proofs.Handing.{started_hands}
use Rattle.qz_reader.specs.Formals.{formal_start, formal_row}
use Rattle.qz_reader.proofs.FormalFills.{hands_directed, no_directed}
use Rattle.qz_reader.proofs.formals.formal.Goals as goal

pub returns-in-Some : goal.returns-in-Some
returns-in-Some c room =
    hands_directed c.args.last (c.in-Some.class, c.in-Some.ty) room c.args.cursor.now c.directed.new.cursor (start_is formal_start c.args.cursor.now c.peek.ensures c.of.ensures c.in-Dir.is) c.in-Some.is c.directed.result (c.directed.ensures room)

pub returns-in-None : goal.returns-in-None
returns-in-None c room =
    no_directed c.args.last room c.args.cursor.now (start_is formal_start c.args.cursor.now c.peek.ensures c.of.ensures c.in-Dir.is) c.in-None.is

pub returns-in-Typing : goal.returns-in-Typing
returns-in-Typing c room =
    started_hands formal_start (λ s. always (formal_row c.args.last s)) room c.args.cursor.now c.typed_formal.new.cursor (start_is formal_start c.args.cursor.now c.peek.ensures c.of.ensures c.in-Typing.is) c.typed_formal.result (c.typed_formal.ensures room)
