use Rattle.std.proofs.Common.{ap, sym, ◌∙◌, arith, string_bytes}
use Rattle.qz_phrases.specs.declared.words.Mark.TheVariants as mark
use Rattle.qz_printer.specs.Expressions.{one}
use Rattle.qz_printer.specs.Files.{head_words, proto_words}
use Rattle.qz_printer.specs.Writing.{written}
use Rattle.qz_printer.proofs.Written.{list_written, written_append}
use Rattle.qz_printer.proofs.files.prototypes.Goals as goal

pub loop-proto-preserved : goal.loop-proto-preserved
loop-proto-preserved c =
    let proto = c.proto-item.result in
    let before = string_bytes c.loop-proto.text in
    list_written proto_words c.args.protos.now c.loop-proto.proto-index proto before _ _ (omega arith) c.proto-item.is
    (c.in_ok-word.ensures ∙ ap (λ u. written u (one mark.Semicolon)) c.in_ok-head.ensures ∙ sym (written_append before (head_words proto) (one mark.Semicolon)))
    c.loop-proto.invariant
