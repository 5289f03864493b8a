-- What is written, with the words of the members that are still to come, is all that is wanted.
use Rattle.std.proofs.Common.{◌≡◌, drop, string_bytes}
use Rattle.std.specs.List.{flat_map}
use Rattle.qz_phrases.specs.declared.words.Mark.TheVariants as mark
use Rattle.qz_printer.specs.Statements.{stmt_words}
use Rattle.qz_printer.specs.Writing.{written, from}
use Rattle.qz_printer.proofs.statements.+print.Given as goal

abbrev pub invariant-lists-loop-number : goal.invariant-lists-loop-number
invariant-lists-loop-number l =
    written (string_bytes l.text) (from mark.BarBar (λ list. flat_map stmt_words list) l.number (drop l.number l.list-items))
    ≡ written (string_bytes l.initial.text) (from mark.BarBar (λ list. flat_map stmt_words list) 0 l.list-items)

abbrev pub invariant-statements-loop-s : goal.invariant-statements-loop-s
invariant-statements-loop-s l =
    written (string_bytes l.text) (flat_map stmt_words (drop l.s-index l.list)) ≡ written (string_bytes l.initial.text) (flat_map stmt_words l.list)
